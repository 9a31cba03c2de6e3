-- One look at a node: by how many parts its tag enters, and by what it wants of the first. By cases on the shapes of terms.
-- Assumes nothing.
use Prim.Native.Nat.{ℕ, ◌+◌, ◌<◌}
use mathlib.Core.Path.{◌≡◌, refl, sym, ap, ◌∙◌}
use mathlib.Core.Bool.{Bool, true, false}
use mathlib.Core.List.{List, [], ◌∷◌, ◌++◌, append-nil}
use native.Mathlib.Omega.{arith}
use lib.ListN.{length, get_or}
use Rattle.rules.specs.Name.{Name, encode_names}
use Rattle.rules.specs.Term.{Term, var, leaf, one, two, abs, both, branch, unit, trivial, inl, inr, fst, snd, abort, promote, derelict, pair, app, discard, let_a_pair, copy, parts}
use Rattle.rules.specs.Step.{Contraction, no, by, contract, normal, step}
use Rattle.term.specs.Node.{tag, names, head, encode_all, names_after, parts_after}
use Rattle.term.specs.Place.{TermAt, TermsAt}
use Rattle.term.proofs.node.Names.{AfterIs}
use Rattle.term.proofs.node.Terms.{Some, SkipIs, apart-size, at_tag, at_small, at-count-parts, at-parts, starts, first}
use Rattle.redex.specs.Searched.{enters_after, reduces}
use Rattle.redex.proofs.find.Firsts.{contracts}
use Rattle.reduction.specs.Hole.{Hole, in_one, in_left, in_right, in_abs, in_source, in_body, in_scrutinee, fill, hole_tag, hole_names, passed, ahead, before}
use Rattle.reduction.specs.Quiet.{part_first, Entered}
use Rattle.reduction.specs.Seen.{Contracts, Opens, Rests}
use Rattle.reduction.proofs.moves.Holes.{fill-tag, fill-names, fill-parts, fill-contracts}

-- a node of which no part is entered, or one by its first part
data View (t : Term) (n : ℕ) : Type 0 where
  shut : n ≡ 0 → step t ≡ normal → View t n
  open_at : (f : Hole) (a : Term) → (n ≡ 0 → ⊥) → t ≡ fill f a → passed f ≡ [] → Entered f → View t n

view : (t : Term) → View t (enters_after (tag t))
unfolding step
view (var x) = shut refl refl
view (leaf unit) = shut refl refl
view (leaf trivial) = shut refl refl
view (one abort e) = shut refl refl
view (one inl e) = open_at (in_one inl) e (λ z. omega arith) refl refl tt
view (one inr e) = open_at (in_one inr) e (λ z. omega arith) refl refl tt
view (one fst e) = open_at (in_one fst) e (λ z. omega arith) refl refl tt
view (one snd e) = open_at (in_one snd) e (λ z. omega arith) refl refl tt
view (one promote e) = open_at (in_one promote) e (λ z. omega arith) refl refl tt
view (one derelict e) = open_at (in_one derelict) e (λ z. omega arith) refl refl tt
view (two pair a b) = open_at (in_left pair b) a (λ z. omega arith) refl refl tt
view (two app a b) = open_at (in_left app b) a (λ z. omega arith) refl refl tt
view (two discard a b) = open_at (in_left discard b) a (λ z. omega arith) refl refl tt
view (abs x e) = open_at (in_abs x) e (λ z. omega arith) refl refl tt
view (both let_a_pair x y e b) = open_at (in_source let_a_pair x y b) e (λ z. omega arith) refl refl tt
view (both copy x y e b) = open_at (in_source copy x y b) e (λ z. omega arith) refl refl tt
view (branch x y e l r) = open_at (in_scrutinee x y l r) e (λ z. omega arith) refl refl tt

-- the first part decides
pub first-is : (f : Hole) (t : Term) → passed f ≡ [] → part_first f t ≡ t
first-is (in_one k) t e = refl
first-is (in_left k b) t e = refl
first-is (in_right k a) t e = absurd (let z : ◌≡◌ {A = ℕ} 0 1 = cc in omega arith)
first-is (in_abs x) t e = refl
first-is (in_source k x y b) t e = refl
first-is (in_body x y a) t e = absurd (let z : ◌≡◌ {A = ℕ} 0 1 = cc in omega arith)
first-is (in_scrutinee x y l r) t e = refl

-- the bytes before the first part are the head
pub first_head : (f : Hole) (t : Term) → passed f ≡ [] → head (fill f t) ≡ before f
first_head f t e =
    ap (λ (k : ℕ). k ∷ encode_names (names (fill f t))) (fill-tag f t)
    ∙ ap (λ (z : List Name). hole_tag f ∷ encode_names z) (fill-names f t)
    ∙ ap (λ (z : List ℕ). hole_tag f ∷ z) (sym (append-nil (encode_names (hole_names f))))
    ∙ ap (λ (z : List Term). hole_tag f ∷ (encode_names (hole_names f) ++ encode_all z)) (sym e)

does : (t : Term) (c : Contraction) → contract t ≡ c → contracts c ≡ true → Contracts t
does t no e d = absurd (let z : ◌≡◌ {A = ℕ} 0 1 = cc in omega arith)
does t (by r h u) e d = record { rule = r; half = h; result = u; is = e }

module _ (s : List ℕ) (at q h n : ℕ) (eq : q ≡ names_after (get_or s at 0)) (eh : AfterIs s (at + 1) q h) (en : n ≡ enters_after (get_or s at 0)) where
  start : (t : Term) → TermAt s at t → h ≡ at + length (head t)
  start t w = starts s at q h eq eh t w

  node : (t : Term) → TermAt s at t → View t n
  node t w = rw (en ∙ ap (λ (k : ℕ). enters_after k) (at_tag s at t w)) (view t)

  -- not entered
  module _ (p : ℕ) (ep : p ≡ parts_after (get_or s at 0)) where
    row : (t : Term) → TermAt s at t → TermsAt s h p (parts t)
    row t w = at-parts s at t w h p (start t w) (ep ∙ at-count-parts s at t w)

    pub some-row : ((t : Term) × TermAt s at t) → Some s h p
    some-row (t, w) = (parts t, row t w)

    pub rests : n ≡ 0 → (m : ℕ) → SkipIs s h p m → (t : Term) → TermAt s at t → Rests at t m
    rests z m f t w = go (node t w)
      where
        go : View t n → Rests at t m
        go (shut y e) = record { none = e; ends = omega (arith, f (parts t) (row t w), start t w, apart-size t) }
        go (open_at g a y e d k) = absurd (y z)

  -- the first part stands behind the head
  module _ (ne : n ≡ 0 → ⊥) where
    part_at : (t a : Term) (f : Hole) → t ≡ fill f a → passed f ≡ [] → TermAt s at t → TermAt s h a
    part_at t a f e d w =
        let b : parts t ≡ a ∷ ahead f = ap parts e ∙ fill-parts f a ∙ ap (λ (z : List Term). z ++ a ∷ ahead f) d in
        first s h (length (a ∷ ahead f)) a (ahead f) (rw b at (at-parts s at t w h (length (parts t)) (start t w) refl))

    pub first_part : ((t : Term) × TermAt s at t) → (a : Term) × TermAt s h a
    first_part (t, w) = go (node t w)
      where
        go : View t n → (a : Term) × TermAt s h a
        go (shut y e) = absurd (ne y)
        go (open_at f a y e d k) = (a, part_at t a f e d w)

    pub tags : ((t : Term) × TermAt s at t) → (get_or s at 0 < 20) × (get_or s h 0 < 20)
    tags a = let b = first_part a in (omega (arith, at_small s at a.0 a.1), omega (arith, at_small s h b.0 b.1))

    module _ (b : Bool) (eb : b ≡ reduces (get_or s at 0) (get_or s h 0)) where
      test : (t a : Term) (f : Hole) → t ≡ fill f a → passed f ≡ [] → TermAt s at t → reduces (hole_tag f) (tag (part_first f a)) ≡ b
      test t a f e d w =
          ap (λ (k : ℕ). reduces k (tag (part_first f a))) (sym (fill-tag f a) ∙ ap tag (sym e) ∙ sym (at_tag s at t w))
          ∙ ap (λ (k : ℕ). reduces (get_or s at 0) k) (ap tag (first-is f a d) ∙ sym (at_tag s h a (part_at t a f e d w)))
          ∙ sym eb

      pub redex : b ≡ true → (t : Term) → TermAt s at t → Contracts t
      redex y t w = go (node t w)
        where
          go : View t n → Contracts t
          go (shut z e) = absurd (ne z)
          go (open_at f a z e d k) = does t (contract t) refl (ap (λ (x : Term). contracts (contract x)) e ∙ fill-contracts f a ∙ test t a f e d w ∙ y)

      pub inside : b ≡ false → (t : Term) → TermAt s at t → Opens at t h
      inside y t w = go (node t w)
        where
          go : View t n → Opens at t h
          go (shut z e) = absurd (ne z)
          go (open_at f a z e d k) =
              record {
                hole = f;
                part = a;
                is = e;
                first = d;
                enters = k;
                sleeps = test t a f e d w ∙ y;
                starts = start t w ∙ ap (λ (x : Term). at + length (head x)) e ∙ ap (λ (z : List ℕ). at + length z) (first_head f a d);
              }
