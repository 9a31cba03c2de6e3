-- How two names stand, and whether they are the same, as the library compares their bytes. Nothing else of this crate knows how the rules' `before`
-- compares. Assumes nothing.
use mathlib.Core.Path.{◌≡◌, refl, ap}
use mathlib.Core.Bool.{Bool, true, false, ◌&&◌, ◌||◌}
use mathlib.Core.List.{[], ◌∷◌}
use native.Mathlib.Omega.{arith}
use lib.Dec.{ltb, eqb}
use borrow.Author.Tests.{eq-eqb, ne_eqb, ltb-true, ltb-false}
use Rattle.std.specs.Prelude.{if◌then◌else◌, cond, nat_eq}
use Rattle.std.specs.declared.cmp.Ordering.TheVariants.{Less, Equal, Greater}
use Rattle.std.specs.Ordering.{ordering_then, nat_cmp}
use Rattle.std.specs.Cmp.Lexicographic.{pointwise, slice_cmp}
use Rattle.rules.specs.Name.{Name, same, before}
use Rattle.free.specs.Order.{order_of}

-- names stand as their bytes do
pub order-bytes : (x y : Name) → order_of x y ≡ slice_cmp nat_cmp x y
unfolding order_of before
order-bytes [] [] = refl
order-bytes [] (b ∷ y) = refl
order-bytes (a ∷ x) [] = refl
order-bytes (a ∷ x) (b ∷ y) = go (ltb a b) refl (ltb b a) refl (order-bytes x y)
  where
    go : (s : Bool) → ltb a b ≡ s → (t : Bool) → ltb b a ≡ t
        → (if same x y then Equal else (if before x y then Less else Greater)) ≡ slice_cmp nat_cmp x y
        → (if eqb a b && same x y then Equal else (if ltb a b || (eqb a b && before x y) then Less else Greater)) ≡ ordering_then (cond (ltb a b) Less (cond (eqb a b) Equal Greater)) (slice_cmp nat_cmp x y)
    go true d t e h = let l = ltb-true a b d in rw (ne_eqb a b (λ q. omega arith), d)
    go false d true e h = let l = ltb-true b a e in rw (ne_eqb a b (λ q. omega arith), d)
    go false d false e h = rw (eq-eqb a b (omega (arith, ltb-false a b d, ltb-false b a e)), d) h

-- names are the same as their bytes are
pub same-bytes : (x y : Name) → same x y ≡ pointwise nat_eq x y
same-bytes [] [] = refl
same-bytes [] (b ∷ y) = refl
same-bytes (a ∷ x) [] = refl
same-bytes (a ∷ x) (b ∷ y) = ap (λ (z : Bool). eqb a b && z) (same-bytes x y)
