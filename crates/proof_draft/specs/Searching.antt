-- The search for the name that an Axiom takes: what one formula gives, and what all of them take. Assumes nothing: these are definitions.
use Rattle.std.specs.Prelude.{ℕ, ◌≡◌, List, [], ◌∷◌, Option as Found, Some, None}
use Rattle.std.proofs.Math.Option.{Option, none, some}
use Rattle.rules.specs.Basic.{Bytes}
use Rattle.rules.specs.Name.{Name}
use Rattle.rules.specs.Formula.{Formula}
use Rattle.rules.specs.Extraction.{Entries, axiom_name}
use Rattle.draft.specs.Draft.{name_of}
use Rattle.proof.specs.Place.{FormulaAt, FormulasAt}
use Rattle.proof_draft.specs.declared.entry.CutEntry.{CutEntry}
use Rattle.proof_draft.specs.Entry.{EntriesAt}
use Rattle.proof_draft.specs.declared.axiom.Label.{Label}

-- the name that was found, told by its stem and number
abbrev pub name_said : Bytes → Found Label → Option Name
name_said s None = none
name_said s (Some q) = some (name_of s q.stem q.number)

-- a formula at i, and the entries; and the name that it gives by itself
abbrev pub Given : Bytes → List CutEntry → (k i : ℕ) → Type 0
Given s row k i = (f : Formula) × (es : Entries) × FormulaAt s i f × EntriesAt s row k es

abbrev pub Gives : Bytes → List CutEntry → (k i : ℕ) → Option Name → Type 0
Gives s row k i o = (f : Formula) → (es : Entries) → FormulaAt s i f → EntriesAt s row k es → o ≡ axiom_name es (f ∷ [])

-- n formulas from i on, and the entries; and the name that they take
abbrev pub Listed : Bytes → List CutEntry → (k i n : ℕ) → Type 0
Listed s row k i n = (l : List Formula) × (es : Entries) × FormulasAt s i n l × EntriesAt s row k es

abbrev pub Takes : Bytes → List CutEntry → (k i n : ℕ) → Option Name → Type 0
Takes s row k i n o = (l : List Formula) → (es : Entries) → FormulasAt s i n l → EntriesAt s row k es → o ≡ axiom_name es l
