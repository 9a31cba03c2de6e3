-- Several values put in at once, with or without renaming. The contract's substitution puts in one, and never renames.
-- Assumes nothing: these are definitions.
use Rattle.std.specs.Prelude.{ℕ, zero, suc, Bool, true, false, ◌&&◌, List, [], ◌∷◌, length, if◌then◌else◌}
use Rattle.rules.specs.Basic.{say, decimal, ◌‥◌}
use Rattle.rules.specs.Name.{Name, same, among}
use Rattle.rules.specs.Term.{Term, var, leaf, one, two, abs, both, branch}
use Rattle.rules.specs.Free.{without, free}

-- the value of each name; a name without one stays
abbrev pub Values : Type 0
Values = List (Name × Term)

abbrev pub value_of : Values → Name → Term
value_of [] y = var y
value_of (v ∷ vs) y = if same v.0 y then v.1 else value_of vs y

-- what is free once the values are in, of some names
abbrev pub free_after : Values → List Name → List Name
free_after vs [] = []
free_after vs (x ∷ xs) = free (value_of vs x) ‥ free_after vs xs

-- the first of x0, x1, .. that is not taken: there are more of them than names that are
abbrev pub candidate : ℕ → Name
candidate k = say "x" ‥ decimal k

unfoldable pub first_free : (tries first : ℕ) → (taken : List Name) → Name
first_free zero k taken = candidate k
first_free (suc n) k taken = elim (among (candidate k) taken) [ true ↦ first_free n (suc k) taken | false ↦ candidate k ]

-- a binder's name: its own, or a new one if it would catch a name
abbrev pub binder : (renames : Bool) → (caught others : List Name) → Name → Name
binder renames caught others y = if renames && among y caught then first_free (length (others ‥ caught)) 0 (others ‥ caught) else y

unfoldable pub put_in : (renames : Bool) → Values → Term → Term
put_in r vs (var y) = value_of vs y
put_in r vs (leaf k) = leaf k
put_in r vs (one k e) = one k (put_in r vs e)
put_in r vs (two k a b) = two k (put_in r vs a) (put_in r vs b)
put_in r vs (abs y e) =
    let y' = binder r (free_after vs (without y (free e))) [] y in
    abs y' (put_in r ((y, var y') ∷ vs) e)
put_in r vs (both k y z e b) =
    let caught = free_after vs (without y (without z (free b))) in
    let y' = binder r caught (y ∷ z ∷ []) y in
    let z' = binder r caught (y' ∷ y ∷ z ∷ []) z in
    both k y' z' (put_in r vs e) (put_in r ((y, var y') ∷ (z, var z') ∷ vs) b)
put_in r vs (branch y z e a b) =
    let y' = binder r (free_after vs (without y (free a))) [] y in
    let z' = binder r (free_after vs (without z (free b))) [] z in
    branch y' z' (put_in r vs e) (put_in r ((y, var y') ∷ vs) a) (put_in r ((z, var z') ∷ vs) b)

-- v for x, with renaming; a for x and b for y at once, without
abbrev pub renaming : Name → Term → Term → Term
renaming x v t = put_in true ((x, v) ∷ []) t

abbrev pub together : Name → Term → Name → Term → Term → Term
together x a y b t = put_in false ((x, a) ∷ (y, b) ∷ []) t
