-- One reading from the left that stops at the first fault: each refusal of the three readers, its place and what comes before what. One table, computed at small limits.
use Prim.Native.Nat.{ℕ}
use mathlib.Core.Path.{◌≡◌, refl}
use mathlib.Core.List.{List, [], ◌∷◌}
use lib.ListN.{replicate}
use Rattle.rules.specs.Basic.{Bytes, ◌‥◌}
use Rattle.rules.proofs.Notation.{hex, repeat, wrong}
use Rattle.rules.proofs.Called.{Row, right, ◌⟹◌⟫◌, check_term, check_formula, check_proof, counts, refuses◌at◌of◌}

infix 62 term◌⟹◌
infix 62 formula◌⟹◌
infix 62 proof◌⟹◌
abbrev pub term◌⟹◌ : Bytes → List ℕ → Row
term s ⟹ a = check_term s ⟹ a ⟫ []

abbrev pub formula◌⟹◌ : Bytes → List ℕ → Row
formula s ⟹ a = check_formula s ⟹ a ⟫ []

abbrev pub proof◌⟹◌ : Bytes → List ℕ → Row
proof s ⟹ a = check_proof s ⟹ a ⟫ []

abbrev pub letters : ℕ → Bytes
letters n = replicate n 120

abbrev pub table : List Row
table =
    -- 2 before all else; 90 bytes are not too many
    (term repeat 91 (hex "02") ⟹ refuses 2 at 90 of 1)
    ∷ (term repeat 3 (hex "0301 18" ‥ letters 24) ‥ hex "0107" ‥ letters 7 ⟹ counts 7)
    -- 3, at the input's length
    ∷ (term [] ⟹ refuses 3 at 0 of 1)
    ∷ (term hex "03 02" ⟹ refuses 3 at 2 of 1)
    -- at a node 3, 6, 4; nodes are counted, not their depth
    ∷ (term repeat 15 (hex "0e") ‥ hex "02" ⟹ counts 16)
    ∷ (term repeat 16 (hex "0e") ⟹ refuses 3 at 16 of 1)
    ∷ (term repeat 16 (hex "0e") ‥ hex "12" ⟹ refuses 6 at 16 of 1)
    ∷ (term repeat 15 (hex "0e") ‥ hex "12" ⟹ refuses 4 at 15 of 1)
    ∷ (term repeat 8 (hex "03 02") ⟹ refuses 3 at 16 of 1)
    ∷ (term repeat 8 (hex "03 02") ‥ hex "12" ⟹ refuses 6 at 16 of 1)
    ∷ (term hex "00" ⟹ refuses 4 at 0 of 1)
    -- in a name 3, 5, 3, 5
    ∷ (term hex "01" ⟹ refuses 3 at 1 of 1)
    ∷ (term hex "01 00" ⟹ refuses 5 at 1 of 1)
    ∷ (term hex "01 18" ‥ letters 24 ⟹ counts 1)
    ∷ (term hex "01 19" ⟹ refuses 5 at 1 of 1)
    ∷ (term hex "01 03 3030" ⟹ refuses 3 at 4 of 1)
    ∷ (term hex "01 02 3030" ⟹ refuses 5 at 2 of 1)
    ∷ (term hex "01 02 782d" ⟹ refuses 5 at 3 of 1)
    ∷ (term hex "04 0178 00" ⟹ refuses 5 at 3 of 1)
    -- the first fault from the left; 7 after all of them
    ∷ (term hex "03 0100 12" ⟹ refuses 5 at 2 of 1)
    ∷ (term hex "02 12" ⟹ refuses 7 at 1 of 1)
    -- formulas: 10 nodes, atoms of 16 bytes
    ∷ (formula [] ⟹ refuses 3 at 0 of 1)
    ∷ (formula repeat 91 (hex "05") ⟹ refuses 2 at 90 of 1)
    ∷ (formula repeat 9 (hex "0b") ‥ hex "05" ⟹ counts 10)
    ∷ (formula repeat 10 (hex "0b") ‥ hex "0e" ⟹ refuses 6 at 10 of 1)
    ∷ (formula repeat 2 (hex "03 05") ‥ hex "05" ⟹ counts 5)
    ∷ (formula hex "0e" ⟹ refuses 4 at 0 of 1)
    ∷ (formula hex "01 10" ‥ letters 16 ⟹ counts 1)
    ∷ (formula hex "02 11" ‥ letters 17 ⟹ refuses 5 at 1 of 1)
    ∷ (formula hex "05 05" ⟹ refuses 7 at 1 of 1)
    -- proofs: a rule's tag, Cut's formula, a Focus's index, the formulas, the premises
    ∷ (proof [] ⟹ refuses 3 at 0 of 1)
    ∷ (proof repeat 91 (hex "03") ⟹ refuses 2 at 90 of 1)
    ∷ (proof hex "13" ⟹ refuses 4 at 0 of 1)
    ∷ (proof hex "03" ⟹ refuses 3 at 1 of 1)
    ∷ (proof hex "02" ⟹ refuses 3 at 1 of 1)
    ∷ (proof hex "02 0e" ⟹ refuses 4 at 1 of 1)
    ∷ (proof hex "10 ff" ⟹ refuses 3 at 2 of 1)
    ∷ (proof hex "03 02 05" ⟹ refuses 3 at 3 of 1)
    ∷ (proof hex "03 02 05 02 00" ⟹ refuses 5 at 4 of 1)
    ∷ (proof hex "03 00" ⟹ refuses 3 at 2 of 1)
    ∷ (proof hex "03 00 04" ⟹ refuses 4 at 2 of 1)
    ∷ (proof hex "03 00 03 030000 030000 030000" ⟹ counts 4)
    ∷ (proof hex "03 00 00 00" ⟹ refuses 7 at 3 of 1)
    -- 6 rules; 10 formula nodes over Cut and every `linear`, counted apart from the rules
    ∷ (proof repeat 5 (hex "04 00 01") ‥ hex "02 05 09 050505050505050505 00" ⟹ counts 6)
    ∷ (proof repeat 6 (hex "04 00 01") ‥ hex "13" ⟹ refuses 6 at 18 of 1)
    ∷ (proof repeat 6 (hex "04 00 01") ⟹ refuses 3 at 18 of 1)
    ∷ (proof hex "02" ‥ repeat 10 (hex "0b") ‥ hex "05" ⟹ refuses 6 at 11 of 1)
    ∷ (proof hex "02 0305 05 07 05050505050505 01 03 01 0e" ⟹ refuses 6 at 15 of 1)
    ∷ []

pub faults-hold : wrong right table ≡ []
unfolding right
faults-hold = refl
