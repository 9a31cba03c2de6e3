-- Nine fields and the end of the line are the line of the counts. Assumes nothing.
use Prim.Native.Nat.{◌≤◌}
use mathlib.Core.Bool.{Bool, true, false}
use mathlib.Core.Path.{◌≡◌}
use mathlib.Core.List.{[], ◌∷◌, ◌++◌, append_assoc}
use native.Mathlib.Omega.{arith}
use lib.ListN.{length}
use Rattle.rules.specs.Basic.{Bytes, say, ◌‥◌}
use Rattle.rules.specs.Program.{yes_no}

-- fields in a row, and what is put behind them
pub nine : (a b c d e f g h i r : Bytes)
    → (a ++ (b ++ (c ++ (d ++ (e ++ (f ++ (g ++ (h ++ (i ++ []))))))))) ++ r ≡ a ++ (b ++ (c ++ (d ++ (e ++ (f ++ (g ++ (h ++ (i ++ r))))))))
nine a b c d e f g h i r = simp append_assoc

pub last-short : (b : Bool) → length (say " normal " ‥ say (yes_no b) ‥ 10 ∷ []) ≤ 12
last-short true = omega arith
last-short false = omega arith
