-- A hole: the bytes and the nodes around it, when its node is a redex, and that a step in it is a step of the node.
-- By cases on the shapes of nodes. Assumes nothing.
use Prim.Native.Nat.{ℕ, ◌+◌, ◌<◌}
use mathlib.Core.Path.{◌≡◌, refl, sym, ap, ◌∙◌}
use mathlib.Core.Bool.{false}
use mathlib.Core.Option.{Option}
use mathlib.Core.List.{List, ◌∷◌, ◌++◌, append_assoc}
use native.Mathlib.Omega.{arith}
use Rattle.rules.specs.Name.{Name, encode_names}
use Rattle.rules.specs.Term.{Term, One, inl, inr, fst, snd, abort, promote, derelict, pair, app, discard, let_a_pair, copy, one_tag, encode, size, nodes, parts}
use Rattle.rules.specs.declared.Rule.{Rule}
use Rattle.rules.specs.Step.{Contraction, no, by, contract, name_bytes, step}
use Rattle.term.specs.Node.{tag, names, head, encode_all}
use Rattle.term.proofs.node.Terms.{apart, encode_all-append}
use Rattle.redex.specs.Searched.{reduces}
use Rattle.redex.proofs.find.Firsts.{contracts, wants-pair, wants-abs, wants-promote, wants-injection, wants-nothing}
use Rattle.reduction.specs.Hole.{Hole, in_one, in_left, in_right, in_abs, in_source, in_body, in_scrutinee, fill, hole_tag, hole_names, passed, ahead, before, behind}
use Rattle.reduction.specs.Quiet.{part_first, Entered, Asleep, Steps}

-- ---- the bytes and the nodes

pub fill-tag : (f : Hole) (t : Term) → tag (fill f t) ≡ hole_tag f
fill-tag (in_one k) t = refl
fill-tag (in_left k b) t = refl
fill-tag (in_right k a) t = refl
fill-tag (in_abs x) t = refl
fill-tag (in_source k x y b) t = refl
fill-tag (in_body x y e) t = refl
fill-tag (in_scrutinee x y l r) t = refl

pub fill-names : (f : Hole) (t : Term) → names (fill f t) ≡ hole_names f
fill-names (in_one k) t = refl
fill-names (in_left k b) t = refl
fill-names (in_right k a) t = refl
fill-names (in_abs x) t = refl
fill-names (in_source k x y b) t = refl
fill-names (in_body x y e) t = refl
fill-names (in_scrutinee x y l r) t = refl

pub fill-parts : (f : Hole) (t : Term) → parts (fill f t) ≡ passed f ++ t ∷ ahead f
fill-parts (in_one k) t = refl
fill-parts (in_left k b) t = refl
fill-parts (in_right k a) t = refl
fill-parts (in_abs x) t = refl
fill-parts (in_source k x y b) t = refl
fill-parts (in_body x y e) t = refl
fill-parts (in_scrutinee x y l r) t = refl

pub fill-encode : (f : Hole) (t : Term) → encode (fill f t) ≡ before f ++ (encode t ++ behind f)
fill-encode f t =
    apart (fill f t)
    ∙ ap (λ (z : List Term). head (fill f t) ++ encode_all z) (fill-parts f t)
    ∙ ap (λ (z : List ℕ). head (fill f t) ++ z) (encode_all-append (passed f) (t ∷ ahead f))
    ∙ ap (λ (k : ℕ). (k ∷ encode_names (names (fill f t))) ++ (encode_all (passed f) ++ (encode t ++ behind f))) (fill-tag f t)
    ∙ ap (λ (z : List Name). (hole_tag f ∷ encode_names z) ++ (encode_all (passed f) ++ (encode t ++ behind f))) (fill-names f t)
    ∙ sym (append_assoc (hole_tag f ∷ encode_names (hole_names f)) (encode_all (passed f)) (encode t ++ behind f))

-- the nodes beside the hole
abbrev pub hole_nodes : Hole → ℕ
hole_nodes (in_one k) = 1
hole_nodes (in_left k b) = 1 + nodes b
hole_nodes (in_right k a) = 1 + nodes a
hole_nodes (in_abs x) = 1
hole_nodes (in_source k x y b) = 1 + nodes b
hole_nodes (in_body x y e) = 1 + nodes e
hole_nodes (in_scrutinee x y l r) = 1 + (nodes l + nodes r)

pub fill-nodes : (f : Hole) (t : Term) → nodes (fill f t) ≡ hole_nodes f + nodes t
unfolding nodes
fill-nodes (in_one k) t = omega arith
fill-nodes (in_left k b) t = omega arith
fill-nodes (in_right k a) t = omega arith
fill-nodes (in_abs x) t = omega arith
fill-nodes (in_source k x y b) t = omega arith
fill-nodes (in_body x y e) t = omega arith
fill-nodes (in_scrutinee x y l r) t = omega arith

one-small : (k : One) → one_tag k < 18
one-small inl = omega arith
one-small inr = omega arith
one-small fst = omega arith
one-small snd = omega arith
one-small abort = omega arith
one-small promote = omega arith
one-small derelict = omega arith

pub hole-small : (f : Hole) → hole_tag f < 18
hole-small (in_one k) = one-small k
hole-small (in_left pair b) = omega arith
hole-small (in_left app b) = omega arith
hole-small (in_left discard b) = omega arith
hole-small (in_right pair a) = omega arith
hole-small (in_right app a) = omega arith
hole-small (in_right discard a) = omega arith
hole-small (in_abs x) = omega arith
hole-small (in_source let_a_pair x y b) = omega arith
hole-small (in_source copy x y b) = omega arith
hole-small (in_body x y e) = omega arith
hole-small (in_scrutinee x y l r) = omega arith

-- ---- when the node is a redex

pub fill-contracts : (f : Hole) (t : Term) → contracts (contract (fill f t)) ≡ reduces (hole_tag f) (tag (part_first f t))
unfolding contract
fill-contracts (in_one inl) t = wants-nothing t
fill-contracts (in_one inr) t = wants-nothing t
fill-contracts (in_one fst) t = wants-pair t _ (λ a b. refl)
fill-contracts (in_one snd) t = wants-pair t _ (λ a b. refl)
fill-contracts (in_one abort) t = wants-nothing t
fill-contracts (in_one promote) t = wants-nothing t
fill-contracts (in_one derelict) t = wants-promote t _ (λ v. refl)
fill-contracts (in_left pair b) t = wants-nothing t
fill-contracts (in_left app b) t = wants-abs t b
fill-contracts (in_left discard b) t = wants-promote t _ (λ v. refl)
fill-contracts (in_right pair a) t = wants-nothing a
fill-contracts (in_right app a) t = wants-abs a t
fill-contracts (in_right discard a) t = wants-promote a _ (λ v. refl)
fill-contracts (in_abs x) t = wants-nothing t
fill-contracts (in_source let_a_pair x y b) t = wants-pair t _ (λ a c. refl)
fill-contracts (in_source copy x y b) t = wants-promote t _ (λ v. refl)
fill-contracts (in_body x y e) t = wants-pair e _ (λ a c. refl)
fill-contracts (in_scrutinee x y l r) t = wants-injection t _ _ (λ v. refl) (λ v. refl)

none : (c : Contraction) → contracts c ≡ false → c ≡ no
none no e = refl
none (by r h u) e = absurd (let z : ◌≡◌ {A = ℕ} 0 1 = cc in omega arith)

pub asleep : (f : Hole) (t : Term) → Asleep f t → contract (fill f t) ≡ no
asleep f t a = none (contract (fill f t)) (fill-contracts f t ∙ a)

-- ---- a step in the hole

module _ (t : Term) (r : Rule) (h : Option Term) (u : Term) (s : Steps t r h u) where
  pub fill-steps : (f : Hole) → Entered f → Asleep f t → Steps (fill f t) r h (fill f u)
  unfolding step
  fill-steps (in_one inl) e a = record { place = 1 + s.place; is = rw s.is }
  fill-steps (in_one inr) e a = record { place = 1 + s.place; is = rw s.is }
  fill-steps (in_one fst) e a = record { place = 1 + s.place; is = rw (asleep (in_one fst) t a, s.is) }
  fill-steps (in_one snd) e a = record { place = 1 + s.place; is = rw (asleep (in_one snd) t a, s.is) }
  fill-steps (in_one abort) e a = absurd e
  fill-steps (in_one promote) e a = record { place = 1 + s.place; is = rw s.is }
  fill-steps (in_one derelict) e a = record { place = 1 + s.place; is = rw (asleep (in_one derelict) t a, s.is) }
  fill-steps (in_left k b) e a = record { place = 1 + s.place; is = rw (asleep (in_left k b) t a, s.is) }
  fill-steps (in_right k b) e a = record { place = 1 + size b + s.place; is = rw (asleep (in_right k b) t a, e, s.is) }
  fill-steps (in_abs x) e a = record { place = 1 + name_bytes x + s.place; is = rw s.is }
  fill-steps (in_source let_a_pair x y b) e a = record { place = 1 + name_bytes x + name_bytes y + s.place; is = rw (asleep (in_source let_a_pair x y b) t a, s.is) }
  fill-steps (in_source copy x y b) e a = record { place = 1 + name_bytes x + name_bytes y + s.place; is = rw (asleep (in_source copy x y b) t a, s.is) }
  fill-steps (in_body x y b) e a = record { place = 1 + name_bytes x + name_bytes y + size b + s.place; is = rw (asleep (in_body x y b) t a, e, s.is) }
  fill-steps (in_scrutinee x y l m) e a = record { place = 1 + name_bytes x + name_bytes y + s.place; is = rw (asleep (in_scrutinee x y l m) t a, s.is) }
