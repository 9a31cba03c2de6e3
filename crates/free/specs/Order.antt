-- How one name stands to another, as the code answers it: by `same` and `before`, whatever these compare. Assumes nothing.
use Rattle.std.specs.Prelude.{◌≡◌, refl, Bool, true, false, if◌then◌else◌}
use Rattle.rules.specs.Name.{Name, same, before}
use Rattle.std.specs.declared.cmp.Ordering.{Ordering}
use Rattle.std.specs.declared.cmp.Ordering.TheVariants.{Less, Equal, Greater}

unfoldable pub order_of : Name → Name → Ordering
order_of x y = if same x y then Equal else (if before x y then Less else Greater)

-- what an answer says of `same` and `before`
abbrev Says : Ordering → Name → Name → Type 0
Says Less x y = before x y ≡ true
Says Equal x y = same x y ≡ true
Says Greater x y = (before x y ≡ false) × (same x y ≡ false)

order-says : (x y : Name) → Says (order_of x y) x y
unfolding order_of
order-says x y = go (same x y) refl (before x y) refl
  where
    go : (a : Bool) → same x y ≡ a → (b : Bool) → before x y ≡ b → Says (if a then Equal else (if b then Less else Greater)) x y
    go true d b e = d
    go false d true e = e
    go false d false e = (e, d)

pub is-before : (x y : Name) → order_of x y ≡ Less → before x y ≡ true
is-before x y e = rw e at (order-says x y)

pub is_same : (x y : Name) → order_of x y ≡ Equal → same x y ≡ true
is_same x y e = rw e at (order-says x y)

pub is-after : (x y : Name) → order_of x y ≡ Greater → (before x y ≡ false) × (same x y ≡ false)
is-after x y e = rw e at (order-says x y)
