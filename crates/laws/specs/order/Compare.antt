-- How two names stand to each other: the same and neither before the other, or only one before the other. By the laws of the order alone,
-- whatever it compares. Assumes nothing.
use Rattle.std.specs.Prelude.{ℕ, ◌≡◌, refl, Bool, true, false, ◌⊎◌}
use Rattle.std.proofs.Common.{sym, ◌∙◌, inl, inr, arith}
use Rattle.rules.specs.Name.{Name, same, before}
use Rattle.laws.specs.free.Same.{same-equal, same-turned}
use Rattle.laws.specs.order.NameOrder.{name-order}

pub never : {P : Type 0} → ◌≡◌ {A = Bool} true false → P
never q = absurd (let z : ◌≡◌ {A = ℕ} 0 1 = cc in omega arith)

pub before-trans : (x y z : Name) → before x y ≡ true → before y z ≡ true → before x z ≡ true
before-trans = name-order.transitive

pub before-apart : (x y : Name) → before x y ≡ true → same x y ≡ false
before-apart x y e = go (same x y) refl
  where
    go : (b : Bool) → same x y ≡ b → same x y ≡ false
    go true d = let q : before y y ≡ true = rw (same-equal x y d) at e in never (sym q ∙ name-order.irreflexive y)
    go false d = d

pub before-one-way : (x y : Name) → before x y ≡ true → before y x ≡ false
before-one-way x y e = go (before y x) refl
  where
    go : (b : Bool) → before y x ≡ b → before y x ≡ false
    go true d = never (sym (before-trans x y x e d) ∙ name-order.irreflexive x)
    go false d = d

pub data Trichotomy (x y : Name) : Type 0 where
  is : same x y ≡ true → before x y ≡ false → before y x ≡ false → Trichotomy x y
  below : same x y ≡ false → before x y ≡ true → before y x ≡ false → Trichotomy x y
  above : same x y ≡ false → before x y ≡ false → before y x ≡ true → Trichotomy x y

pub compare : (x y : Name) → Trichotomy x y
compare x y = go (name-order.total x y)
  where
    go : (same x y ≡ true) ⊎ ((before x y ≡ true) ⊎ (before y x ≡ true)) → Trichotomy x y
    go (inl i) = let q : x ≡ y = same-equal x y i in is i (rw q (name-order.irreflexive y)) (rw q (name-order.irreflexive y))
    go (inr (inl m)) = below (before-apart x y m) m (before-one-way x y m)
    go (inr (inr n)) = above (same-turned x y ∙ before-apart y x n) (before-one-way y x n) n
