-- The cut entries as the code has them: the first of a row, each the place of its formula and the counter of its name.
-- Assumes nothing: these are definitions.
use Rattle.std.specs.Prelude.{ℕ, ◌+◌, ◌≤◌, ◌<◌, ◌≡◌, List, [], length, get_or}
use Rattle.rules.specs.Basic.{Bytes}
use Rattle.rules.specs.Name.{Name}
use Rattle.rules.specs.Formula.{Formula, constant, One}
use Rattle.rules.specs.Extraction.{Entries, fresh, stem_for}
use Rattle.draft.specs.Made.{most_number}
use Rattle.proof.specs.Place.{FormulaAt}
use Rattle.proof_draft.specs.declared.entry.CutEntry.{CutEntry}
use Rattle.proof_draft.specs.Entries.{none as zeros}

-- the entry f is at a place, and its name has a counter, which is small
pub record EntryAt (s : Bytes) (e : CutEntry) (f : Formula) (v : Name) : Type 0 where
  pub formula : FormulaAt s e.place f
  pub name : v ≡ (fresh (stem_for f) e.counter).0
  pub low : e.counter + 1 < most_number

abbrev pub entry_at : Entries → ℕ → Formula × Name
entry_at es i = get_or es i (constant One, [])

abbrev pub in_row : List CutEntry → ℕ → CutEntry
in_row row i = get_or row i zeros

-- the first k entries of the row are es
pub record EntriesAt (s : Bytes) (row : List CutEntry) (k : ℕ) (es : Entries) : Type 0 where
  pub many : length es ≡ k
  pub room : k ≤ length row
  pub each : (i : ℕ) → i < k → EntryAt s (in_row row i) (entry_at es i).0 (entry_at es i).1
