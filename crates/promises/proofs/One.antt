-- What it is that a contract leaves one answer, and the law by which each does. A contract has an equation for each thing that a run answers or leaves; what is the same
-- as one thing is the same, so two runs that meet it agree.
--     One Learnt seen      any two runs on the same arguments that meet the contract `Learnt` leave the same, of what `seen` lists
--     x & y                x and y, in such a list
--     agree, agree₂, ..    the law, for a contract of so many equations
-- `Learnt` is what the checker takes from a function's `ensures`. Assumes nothing.
use mathlib.Core.Path.{◌≡◌, sym, ap₂, ◌∙◌}

infixr 20 ◌&◌
abbrev pub ◌&◌ : {A B : Type 0} → A → B → A × B
x & y = (x, y)

-- κ: the lifetimes of what is lent; a: the arguments; r: the answer; s: the arguments at the end. `now s.0`, `now s.1.0`, ..: what is left in the first, the second, ..
abbrev pub One : {K : Type 0} {A R S : K → Type 0} {B : Type 0} → ((κ : K) → A κ → R κ → S κ → Type 0) → ((κ : K) → R κ → S κ → B) → Type 0
One {K} {A} {R} {S} Learnt seen = (κ : K) (a : A κ) (r r' : R κ) (s s' : S κ) → Learnt κ a r s → Learnt κ a r' s' → seen κ r s ≡ seen κ r' s'

module _ {A : Type 0} {a a' e : A} where
  pub agree : a ≡ e → a' ≡ e → a ≡ a'
  agree p q = p ∙ sym q

module _ {A B : Type 0} {a a' : A} {b b' : B} where
  pub both : a ≡ a' → b ≡ b' → a & b ≡ a' & b'
  both p q = ap₂ (λ x y. x & y) p q

module _ {A B : Type 0} {a a' e : A} {b b' f : B} where
  pub agree₂ : (a ≡ e) × (b ≡ f) → (a' ≡ e) × (b' ≡ f) → a & b ≡ a' & b'
  agree₂ p q = both (agree p.0 q.0) (agree p.1 q.1)

module _ {A B C : Type 0} {a a' e : A} {b b' f : B} {c c' g : C} where
  pub agree₃ : (a ≡ e) × ((b ≡ f) × (c ≡ g)) → (a' ≡ e) × ((b' ≡ f) × (c' ≡ g)) → a & b & c ≡ a' & b' & c'
  agree₃ p q = both (agree p.0 q.0) (agree₂ p.1 q.1)

module _ {A B C D : Type 0} {a a' e : A} {b b' f : B} {c c' g : C} {d d' h : D} where
  pub agree₄ : (a ≡ e) × ((b ≡ f) × ((c ≡ g) × (d ≡ h))) → (a' ≡ e) × ((b' ≡ f) × ((c' ≡ g) × (d' ≡ h))) → a & b & c & d ≡ a' & b' & c' & d'
  agree₄ p q = both (agree p.0 q.0) (agree₃ p.1 q.1)
