-- The nodes above a place: the bytes and nodes around it; a step there is a step of the whole; and whatever comes to stand there,
-- all nodes but the nearest stay as they are. By induction on the nodes above. Assumes nothing.
use Prim.Native.Nat.{ℕ, ◌+◌, ◌<◌}
use mathlib.Core.Path.{◌≡◌, refl, sym, ap, ◌∙◌}
use mathlib.Core.Option.{Option}
use mathlib.Core.List.{[], ◌∷◌, ◌++◌, append_assoc, append-nil}
use native.Mathlib.Omega.{arith}
use lib.ListN.{length, length-append}
use Rattle.rules.specs.Basic.{Bytes}
use Rattle.rules.specs.Term.{Term, encode, size, nodes}
use Rattle.laws.specs.size.Parts.{some-node}
use Rattle.rules.specs.declared.Rule.{Rule}
use Rattle.term.specs.Node.{tag}
use Rattle.redex.specs.Searched.{reduces}
use Rattle.redex.specs.Around.{Frame}
use Rattle.reduction.specs.Hole.{Hole, in_one, in_left, in_right, in_abs, in_source, in_body, in_scrutinee, fill, hole_tag, passed, before, behind, Above, plug, lefts, rights}
use Rattle.reduction.specs.Quiet.{part_first, Asleep, Quiet, Steps}
use Rattle.reduction.proofs.moves.Holes.{fill-tag, fill-encode, hole_nodes, fill-nodes, fill-steps}

-- ---- bytes and nodes

pub plug-encode : (c : Above) (t : Term) → encode (plug c t) ≡ lefts c ++ (encode t ++ rights c)
plug-encode [] t = sym (append-nil (encode t))
plug-encode (f ∷ c) t =
    plug-encode c (fill f t) ∙ ap (λ (z : Bytes). lefts c ++ (z ++ rights c)) (fill-encode f t)
    ∙ ap (λ (z : Bytes). lefts c ++ z) (append_assoc (before f) (encode t ++ behind f) (rights c) ∙ ap (λ (z : Bytes). before f ++ z) (append_assoc (encode t) (behind f) (rights c)))
    ∙ sym (append_assoc (lefts c) (before f) (encode t ++ (behind f ++ rights c)))

pub plug-size : (c : Above) (t : Term) → size (plug c t) ≡ length (lefts c) + (size t + length (rights c))
plug-size c t =
    ap (λ (z : Bytes). length z) (plug-encode c t)
    ∙ omega (arith, length-append (lefts c) (encode t ++ rights c), length-append (encode t) (rights c))

abbrev nodes_above : Above → ℕ
nodes_above [] = 0
nodes_above (f ∷ c) = hole_nodes f + nodes_above c

plug-nodes : (c : Above) (t : Term) → nodes (plug c t) ≡ nodes_above c + nodes t
plug-nodes [] t = omega arith
plug-nodes (f ∷ c) t = omega (arith, plug-nodes c (fill f t), fill-nodes f t)

-- what stands around the place stays, whatever is put there
pub plug-frame : (c : Above) → Frame (length (lefts c)) (plug c)
plug-frame c = record { left = lefts c; right = rights c; more = nodes_above c; long = refl; bytes = plug-encode c; count = plug-nodes c }

hole-counts : (f : Hole) → 0 < hole_nodes f
hole-counts (in_one k) = omega arith
hole-counts (in_left k b) = omega arith
hole-counts (in_right k a) = omega arith
hole-counts (in_abs x) = omega arith
hole-counts (in_source k x y b) = omega arith
hole-counts (in_body x y e) = omega arith
hole-counts (in_scrutinee x y l r) = omega arith

above-few : (c : Above) → length c < nodes_above c + 1
above-few [] = omega arith
above-few (f ∷ c) = omega (arith, above-few c, hole-counts f)

-- fewer nodes above than in the whole
pub depth_below : (c : Above) (t : Term) → length c < nodes (plug c t)
depth_below c t = omega (arith, above-few c, plug-nodes c t, some-node t)

-- ---- steps

module _ (r : Rule) (h : Option Term) where
  pub plug-steps : (c : Above) (t u : Term) → Quiet c t → Steps t r h u → Steps (plug c t) r h (plug c u)
  plug-steps [] t u q s = s
  plug-steps (f ∷ c) t u q s = plug-steps c (fill f t) (fill f u) q.2 (fill-steps t r h u s f q.0 q.1)

first-tag : (f : Hole) (t u : Term) → tag u ≡ tag t → tag (part_first f u) ≡ tag (part_first f t)
first-tag (in_one k) t u e = e
first-tag (in_left k b) t u e = e
first-tag (in_right k a) t u e = refl
first-tag (in_abs x) t u e = e
first-tag (in_source k x y b) t u e = e
first-tag (in_body x y a) t u e = refl
first-tag (in_scrutinee x y l r) t u e = e

-- what stands at the place matters by its tag alone
quiet-tag : (c : Above) (t u : Term) → tag u ≡ tag t → Quiet c t → Quiet c u
quiet-tag [] t u e q = tt
quiet-tag (f ∷ c) t u e q =
    (q.0, ap (λ (k : ℕ). reduces (hole_tag f) k) (first-tag f t u e) ∙ q.1, quiet-tag c (fill f t) (fill f u) (fill-tag f u ∙ sym (fill-tag f t)) q.2)

pub only-nearest : (f : Hole) (c : Above) (t u : Term) → Quiet (f ∷ c) t → Quiet c (fill f u)
only-nearest f c t u q = quiet-tag c (fill f t) (fill f u) (fill-tag f u ∙ sym (fill-tag f t)) q.2

-- a hole that is no first part does not decide
pub first-same : (f : Hole) (t u : Term) → (passed f ≡ [] → ⊥) → Asleep f t → Asleep f u
first-same (in_one k) t u ne a = absurd (ne refl)
first-same (in_left k b) t u ne a = absurd (ne refl)
first-same (in_right k b) t u ne a = a
first-same (in_abs x) t u ne a = absurd (ne refl)
first-same (in_source k x y b) t u ne a = absurd (ne refl)
first-same (in_body x y b) t u ne a = a
first-same (in_scrutinee x y l r) t u ne a = absurd (ne refl)
