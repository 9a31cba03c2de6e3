-- Where a child stands in the caller's bytes, told as numbers. Assumes nothing: these are definitions.
use Rattle.std.specs.Prelude.{ℕ, ◌-◌, ◌≤◌, List, [], ◌∷◌, Ok, Err, IfOk}
use Rattle.rules.specs.Refusal.{Outcome}
use Rattle.rules.specs.declared.Places.{Places}
use Rattle.entry.specs.Told.{told, told_refusal}

abbrev pub ordered : Outcome Places → Type 0
ordered o = IfOk o (λ p. p.from ≤ p.end)

-- the place of the first byte and the length, or a refusal
unfoldable pub told_places : Outcome Places → List ℕ
told_places (Ok p) = told 0 0 0 (p.from ∷ (p.end - p.from) ∷ [])
told_places (Err r) = told_refusal r
