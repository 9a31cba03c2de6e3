-- Which term a node is, from its tag, as the walk tells tags apart: by the keys of an arm, or by none of them.
-- Assumes nothing.
use Prim.Native.Nat.{ℕ}
use mathlib.Core.Path.{◌≡◌, refl}
use mathlib.Core.Logic.{inl, inr}
use mathlib.Core.List.{List, [], ◌∷◌}
use lib.ListN.{get_or}
use types.Run.{OneOf}
use Rattle.rules.specs.Term.{Term, var, leaf, one, two, abs, both, branch, unit, trivial, pair, app, discard, let_a_pair, copy, encode}
use Rattle.term.specs.Node.{tag, single_part}
use Rattle.term.specs.OnePart.{one_bit, only_one}
use Rattle.term.specs.Shape.{Shape, a-leaf, an-one, a-two, a_copy, shape_of, shape, Made, made, made_of as made_by}
use Rattle.words.specs.Steps.{first_byte}
use Rattle.term_text.specs.Task.{TermTask, Whole}

pub leaf-key : {k : ℕ} → OneOf (2 ∷ 10 ∷ []) k → shape_of k ≡ a-leaf
leaf-key (inl h) = rw h
leaf-key (inr h) = rw h

pub two-key : {k : ℕ} → OneOf (3 ∷ 6 ∷ []) k → shape_of k ≡ a-two
two-key (inl h) = rw h
two-key (inr h) = rw h

-- it has none of the keys of the walk, and not one part
abbrev pub Rest : ℕ → Type 0
Rest k = (((Unit {0} × (k ≡ 1 → ⊥)) × (OneOf (3 ∷ 6 ∷ []) k → ⊥)) × (k ≡ 5 → ⊥)) × (single_part k ≡ 1 → ⊥)

rest-whole : (t : Term) → Rest (tag t) → Whole t
rest-whole (var x) r = absurd (r.0.0.0.1 refl)
rest-whole (leaf k) r = tt
rest-whole (one k e) r = absurd (r.1 (one_bit k))
rest-whole (two pair a b) r = absurd (r.0.0.1 (inl refl))
rest-whole (two app a b) r = absurd (r.0.0.1 (inr refl))
rest-whole (two discard a b) r = tt
rest-whole (abs x e) r = absurd (r.0.1 refl)
rest-whole (both k x y e b) r = tt
rest-whole (branch x y e l r') r = tt

-- and none of those of the terms that are printed whole, but the last's
abbrev pub Last : ℕ → Type 0
Last k = (((Unit {0} × (OneOf (2 ∷ 10 ∷ []) k → ⊥)) × (k ≡ 4 → ⊥)) × (k ≡ 9 → ⊥)) × (k ≡ 16 → ⊥)

last-copy : (t : Term) → Whole t → Last (tag t) → shape t ≡ a_copy
last-copy (var x) w r = absurd w
last-copy (leaf unit) w r = absurd (r.0.0.0.1 (inl refl))
last-copy (leaf trivial) w r = absurd (r.0.0.0.1 (inr refl))
last-copy (one k e) w r = absurd w
last-copy (two pair a b) w r = absurd w
last-copy (two app a b) w r = absurd w
last-copy (two discard a b) w r = absurd (r.1 refl)
last-copy (abs x e) w r = absurd w
last-copy (both let_a_pair x y e b) w r = absurd (r.0.0.1 refl)
last-copy (both copy x y e b) w r = refl
last-copy (branch x y e l r') w r = absurd (r.0.1 refl)

module _ {s : List ℕ} {at : ℕ} {out : List ℕ} {to : ℕ} where
  tag_at : (t : Term) → TermTask s at out to t → get_or s at 0 ≡ tag t
  unfolding encode
  tag_at (var x) w = first_byte w.task
  tag_at (leaf k) w = first_byte w.task
  tag_at (one k e) w = first_byte w.task
  tag_at (two k a b) w = first_byte w.task
  tag_at (abs x e) w = first_byte w.task
  tag_at (both k x y e b) w = first_byte w.task
  tag_at (branch x y e l r) w = first_byte w.task

  pub made_of : (n : Shape) (t : Term) → TermTask s at out to t → shape_of (get_or s at 0) ≡ n → Made n t
  made_of n t w h = made_by t (get_or s at 0) (tag_at t w) n h

  pub made_one : (t : Term) → TermTask s at out to t → single_part (get_or s at 0) ≡ 1 → Made an-one t
  made_one t w h = only_one t (rw (tag_at t w) at h)

  pub is_whole : (t : Term) → TermTask s at out to t → Rest (get_or s at 0) → Whole t
  is_whole t w h = rest-whole t (rw (tag_at t w) at h)

  pub made-copy : (t : Term) → TermTask s at out to t → Whole t → Last (get_or s at 0) → Made a_copy t
  made-copy t w z h = rw (last-copy t z (rw (tag_at t w) at h)) at (made t)
