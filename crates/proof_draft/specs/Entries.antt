-- A row of cut entries, as the functions over it leave it, and as the rules see it: pairs of numbers.
--     none         the entry with zeros
--     zeroed       a row whose first n entries are set to z
--     pairs        the formula's place and the name's counter of each
-- Assumes nothing: these are definitions.
use Rattle.std.specs.Prelude.{ℕ, zero, suc, List, [], ◌∷◌}
use Rattle.rules.specs.Calls.{Entry}
use Rattle.proof_draft.specs.declared.entry.CutEntry.{CutEntry}

abbrev pub none : CutEntry
none = record { place = 0; counter = 0 }

abbrev pub zeroed : {B : Type 0} → (z : B) → ℕ → List B → List B
zeroed z zero es = es
zeroed z (suc n) [] = []
zeroed z (suc n) (e ∷ es) = z ∷ zeroed z n es

abbrev pub pairs : List CutEntry → List Entry
pairs [] = []
pairs (e ∷ es) = (e.place, e.counter) ∷ pairs es
