-- Which term a node is, from its tag, as the walk tells tags apart: by the table of shapes. A tag that is none of an arm and not one of a node
-- with one part is a leaf's. Assumes nothing.
use Prim.Native.Nat.{ℕ}
use mathlib.Core.Path.{◌≡◌, refl, ap, ◌∙◌}
use mathlib.Core.Logic.{inl, inr}
use mathlib.Core.List.{List, [], ◌∷◌}
use types.Run.{OneOf}
use Rattle.rules.specs.Name.{Name}
use Rattle.rules.specs.Term.{Term, var, leaf, one, two, abs, both, branch, Leaf, One, Two, pair, app, discard, Both, let_a_pair, copy}
use Rattle.term.specs.Node.{tag, single_part}
use Rattle.term.specs.OnePart.{one_bit, only_one}
use Rattle.term.specs.Shape.{a-var, a-two, a-discard, an-abs, a-let, a_copy, a_case, made_of}

abbrev pub two_tags : List ℕ
two_tags = 3 ∷ 6 ∷ 16 ∷ []

abbrev pub both_tags : List ℕ
both_tags = 4 ∷ 17 ∷ []

-- the tag is not one of a node with one part, and none of the keys
abbrev pub Rest : ℕ → Type 0
Rest k = (single_part k ≡ 1 → ⊥) × (((((Unit {0} × (k ≡ 1 → ⊥)) × (OneOf two_tags k → ⊥)) × (k ≡ 5 → ⊥)) × (OneOf both_tags k → ⊥)) × (k ≡ 9 → ⊥))

module _ (t : Term) (k : ℕ) (is : k ≡ tag t) where
  pub is_one : single_part k ≡ 1 → (i : One) × (e : Term) × (t ≡ one i e)
  is_one h = only_one t (rw is at h)

  pub is-var : k ≡ 1 → (x : Name) × (t ≡ var x)
  is-var h = made_of t k is a-var (rw h)

  pub is-two : OneOf two_tags k → (i : Two) × (e : Term) × (f : Term) × (t ≡ two i e f)
  is-two (inl h) = let v = made_of t k is a-two (rw h) in (v.0, v.2, v.3, v.4)
  is-two (inr (inl h)) = let v = made_of t k is a-two (rw h) in (v.0, v.2, v.3, v.4)
  is-two (inr (inr h)) = let v = made_of t k is a-discard (rw h) in (discard, v.0, v.1, v.2)

  pub is-abs : k ≡ 5 → (x : Name) × (e : Term) × (t ≡ abs x e)
  is-abs h = made_of t k is an-abs (rw h)

  pub is-both : OneOf both_tags k → (i : Both) × (x : Name) × (y : Name) × (e : Term) × (f : Term) × (t ≡ both i x y e f)
  is-both (inl h) = let v = made_of t k is a-let (rw h) in (let_a_pair, v.0, v.1, v.2, v.3, v.4)
  is-both (inr h) = let v = made_of t k is a_copy (rw h) in (copy, v.0, v.1, v.2, v.3, v.4)

  pub is-branch : k ≡ 9 → (x : Name) × (y : Name) × (e : Term) × (f : Term) × (g : Term) × (t ≡ branch x y e f g)
  is-branch h = made_of t k is a_case (rw h)

  pub is_leaf : Rest k → (i : Leaf) × (t ≡ leaf i)
  is_leaf rest = go t is
    where
      go : (u : Term) → k ≡ tag u → (i : Leaf) × (u ≡ leaf i)
      go (leaf i) e = (i, refl)
      go (one i a) e = absurd (rest.0 (ap (λ (z : ℕ). single_part z) e ∙ one_bit i))
      go (var x) e = absurd (rest.1.0.0.0.0.1 e)
      go (two pair a b) e = absurd (rest.1.0.0.0.1 (inl e))
      go (two app a b) e = absurd (rest.1.0.0.0.1 (inr (inl e)))
      go (two discard a b) e = absurd (rest.1.0.0.0.1 (inr (inr e)))
      go (abs x a) e = absurd (rest.1.0.0.1 e)
      go (both let_a_pair x y a b) e = absurd (rest.1.0.1 (inl e))
      go (both copy x y a b) e = absurd (rest.1.0.1 (inr e))
      go (branch x y a b c) e = absurd (rest.1.1 e)
