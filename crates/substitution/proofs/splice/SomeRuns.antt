-- Some terms and the runs that are moved for a name in them, one table, computed. Assumes nothing.
use Prim.Native.Nat.{ℕ}
use mathlib.Core.Path.{◌≡◌, refl}
use mathlib.Core.List.{List, [], ◌∷◌}
use Rattle.rules.specs.Name.{Name}
use Rattle.rules.specs.Term.{Term, var, two, abs, pair, encode}
use Rattle.substitution.specs.Places.{places}
use Rattle.substitution.specs.Runs.{Run, runs, runs_of}

numbers : List Run → List (ℕ × ℕ)
numbers [] = []
numbers (r ∷ rs) = (r.from, r.end) ∷ numbers rs

x : Name
x = 120 ∷ []

a : Term
a = var (97 ∷ [])

-- a name that is nowhere: `(a, a)`, 7 bytes; all of it
-- a name that is covered: `\x. x`, 6 bytes; all of it
-- once: `(x, a)`; twice, with a part between: `(x, (a, x))`, 11 bytes, which ends with its last place; next to each other: `(x, x)`; `x` alone
table : List (List (ℕ × ℕ))
table =
    numbers (runs_of x (two pair a a))
    ∷ numbers (runs_of x (abs x (var x)))
    ∷ numbers (runs_of x (two pair (var x) a))
    ∷ numbers (runs_of x (two pair (var x) (two pair a (var x))))
    ∷ numbers (runs_of x (two pair (var x) (var x)))
    ∷ numbers (runs_of x (var x))
    ∷ []

tried : table
    ≡ ((0, 7) ∷ [])
    ∷ ((0, 6) ∷ [])
    ∷ ((0, 1) ∷ (4, 7) ∷ [])
    ∷ ((0, 1) ∷ (4, 8) ∷ (11, 11) ∷ [])
    ∷ ((0, 1) ∷ (4, 4) ∷ (7, 7) ∷ [])
    ∷ ((0, 0) ∷ (3, 3) ∷ [])
    ∷ []
unfolding table numbers x a runs places encode
tried = refl
