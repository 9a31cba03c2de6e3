-- From a part that has no step: on to the next part that is entered, or up to the node, which then has no step either.
-- By cases on the shapes of nodes. Assumes nothing.
use Prim.Native.Nat.{ℕ, suc}
use mathlib.Core.Path.{◌≡◌, refl, sym, ap, ◌∙◌}
use mathlib.Core.List.{List, [], ◌∷◌, ◌++◌, append_assoc, append-nil}
use native.Mathlib.Omega.{arith}
use lib.ListN.{length}
use Rattle.rules.specs.Basic.{Bytes}
use Rattle.rules.specs.Name.{Name, encode_names}
use Rattle.rules.specs.Term.{Term, inl, inr, fst, snd, abort, promote, derelict, Two, pair, app, discard, let_a_pair, copy, encode}
use Rattle.rules.specs.Step.{normal, step}
use Rattle.term.specs.Node.{encode_all, parts_after}
use Rattle.redex.specs.Searched.{enters_after}
use Rattle.reduction.specs.Hole.{Hole, in_one, in_left, in_right, in_abs, in_source, in_body, in_scrutinee, fill, hole_tag, hole_names, passed, ahead, before, behind}
use Rattle.reduction.specs.Quiet.{Entered, Asleep}
use Rattle.reduction.proofs.moves.Holes.{asleep}

-- the same node with its hole one part on, at b
pub record Second (f : Hole) (t : Term) (g : Hole) (b : Term) : Type 0 where
  pub tags : hole_tag g ≡ hole_tag f
  pub names : hole_names g ≡ hole_names f
  pub first : passed f ≡ []
  pub then : passed g ≡ t ∷ []
  pub rest : ahead f ≡ b ∷ []
  pub none : ahead g ≡ []
  pub same : fill g b ≡ fill f t
  pub enters : step t ≡ normal → Entered g
  pub sleeps : Asleep f t → Asleep g b

-- what follows a part: the next, which is entered; or none
pub data Follows (f : Hole) (t : Term) : Type 0 where
  second : (g : Hole) (b : Term) → enters_after (hole_tag f) ≡ 2 → Second f t g b → Follows f t
  last : (passed f ≡ [] → enters_after (hole_tag f) ≡ 1) → (Asleep f t → step t ≡ normal → step (fill f t) ≡ normal) → Follows f t

two-second : (k : Two) (t b : Term) → Second (in_left k b) t (in_right k t) b
two-second k t b =
    record { tags = refl; names = refl; first = refl; then = refl; rest = refl; none = refl; same = refl; enters = λ s. s; sleeps = λ a. a }

let-second : (x y : Name) (t b : Term) → Second (in_source let_a_pair x y b) t (in_body x y t) b
let-second x y t b =
    record { tags = refl; names = refl; first = refl; then = refl; rest = refl; none = refl; same = refl; enters = λ s. s; sleeps = λ a. a }

-- the part before the hole is there
not-empty : (a : Term) (l : List Term) → ◌≡◌ {A = List Term} (a ∷ l) [] → ⊥
not-empty a l e = let z : ◌≡◌ {A = ℕ} 0 1 = cc in omega arith

pub follows : (f : Hole) (t : Term) → Entered f → Follows f t
unfolding step
follows (in_one inl) t e = last (λ _. refl) (λ a s. rw s)
follows (in_one inr) t e = last (λ _. refl) (λ a s. rw s)
follows (in_one fst) t e = last (λ _. refl) (λ a s. rw (asleep (in_one fst) t a, s))
follows (in_one snd) t e = last (λ _. refl) (λ a s. rw (asleep (in_one snd) t a, s))
follows (in_one abort) t e = absurd e
follows (in_one promote) t e = last (λ _. refl) (λ a s. rw s)
follows (in_one derelict) t e = last (λ _. refl) (λ a s. rw (asleep (in_one derelict) t a, s))
follows (in_left pair b) t e = second (in_right pair t) b refl (two-second pair t b)
follows (in_left app b) t e = second (in_right app t) b refl (two-second app t b)
follows (in_left discard b) t e = second (in_right discard t) b refl (two-second discard t b)
follows (in_right k b) t e = last (λ z. absurd (not-empty b [] z)) (λ a s. rw (asleep (in_right k b) t a, e, s))
follows (in_abs x) t e = last (λ _. refl) (λ a s. rw s)
follows (in_source let_a_pair x y b) t e = second (in_body x y t) b refl (let-second x y t b)
follows (in_source copy x y b) t e = last (λ _. refl) (λ a s. rw (asleep (in_source copy x y b) t a, s))
follows (in_body x y b) t e = last (λ z. absurd (not-empty b [] z)) (λ a s. rw (asleep (in_body x y b) t a, e, s))
follows (in_scrutinee x y l m) t e = last (λ _. refl) (λ a s. rw (asleep (in_scrutinee x y l m) t a, s))

-- how many parts follow the first
pub ahead-count : (f : Hole) → passed f ≡ [] → parts_after (hole_tag f) ≡ suc (length (ahead f))
ahead-count (in_one inl) e = refl
ahead-count (in_one inr) e = refl
ahead-count (in_one fst) e = refl
ahead-count (in_one snd) e = refl
ahead-count (in_one abort) e = refl
ahead-count (in_one promote) e = refl
ahead-count (in_one derelict) e = refl
ahead-count (in_left pair b) e = refl
ahead-count (in_left app b) e = refl
ahead-count (in_left discard b) e = refl
ahead-count (in_right k a) e = absurd (not-empty a [] e)
ahead-count (in_abs x) e = refl
ahead-count (in_source let_a_pair x y b) e = refl
ahead-count (in_source copy x y b) e = refl
ahead-count (in_body x y a) e = absurd (not-empty a [] e)
ahead-count (in_scrutinee x y l r) e = refl

-- none follows the second
pub data Stage (f : Hole) : Type 0 where
  at_first : passed f ≡ [] → Stage f
  at_second : length (passed f) ≡ 1 → ahead f ≡ [] → Stage f

pub stage : (f : Hole) → Stage f
stage (in_one k) = at_first refl
stage (in_left k b) = at_first refl
stage (in_right k a) = at_second refl refl
stage (in_abs x) = at_first refl
stage (in_source k x y b) = at_first refl
stage (in_body x y a) = at_second refl refl
stage (in_scrutinee x y l r) = at_first refl

-- the bytes before the second part
pub second-before : {f : Hole} {t : Term} {g : Hole} {b : Term} → Second f t g b → before g ≡ before f ++ encode t
second-before {f} {t} {g} {b} s =
    ap (λ (k : ℕ). k ∷ (encode_names (hole_names g) ++ encode_all (passed g))) s.tags
    ∙ ap (λ (z : List Name). hole_tag f ∷ (encode_names z ++ encode_all (passed g))) s.names
    ∙ ap (λ (z : List Term). hole_tag f ∷ (encode_names (hole_names f) ++ encode_all z)) s.then
    ∙ ap (λ (z : Bytes). hole_tag f ∷ (encode_names (hole_names f) ++ z)) (append-nil (encode t))
    ∙ ap (λ (z : Bytes). hole_tag f ∷ (z ++ encode t)) (sym (append-nil (encode_names (hole_names f))))
    ∙ ap (λ (z : List Term). hole_tag f ∷ ((encode_names (hole_names f) ++ encode_all z) ++ encode t)) (sym s.first)

pub second-behind : {f : Hole} {t : Term} {g : Hole} {b : Term} → Second f t g b → (r : Bytes) → behind f ++ r ≡ encode b ++ (behind g ++ r)
second-behind {f} {t} {g} {b} s r =
    ap (λ (z : List Term). encode_all z ++ r) s.rest
    ∙ append_assoc (encode b) [] r
    ∙ ap (λ (z : List Term). encode b ++ (encode_all z ++ r)) (sym s.none)
