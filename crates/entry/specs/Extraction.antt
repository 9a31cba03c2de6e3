-- An extraction, told as numbers: the term's length and the counter after it, or a refusal. Assumes nothing: this is a definition.
use Rattle.std.specs.Prelude.{ℕ, List, [], ◌∷◌, Ok, Err}
use Rattle.rules.specs.Refusal.{Outcome}
use Rattle.extract.specs.declared.Extraction.{Extraction}
use Rattle.entry.specs.Told.{told, told_refusal}

unfoldable pub told_extraction : Outcome Extraction → List ℕ
told_extraction (Ok made) = told 0 0 0 (made.bytes ∷ made.counter ∷ [])
told_extraction (Err r) = told_refusal r
