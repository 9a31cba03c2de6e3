-- A step and a reduction, told as numbers. Assumes nothing: these are definitions.
use Rattle.std.specs.Prelude.{ℕ, List, [], ◌∷◌, Result, Ok, Err}
use Rattle.std.specs.Int.{from_bool}
use Rattle.rules.specs.declared.Rule.{Rule}
use Rattle.rules.specs.declared.Rule.TheVariants.{App, Let, Case, Fst, Snd, Derelict, Copy, Discard}
use Rattle.step.specs.declared.Stepped.{Stepped}
use Rattle.step.specs.declared.Stepped.TheVariants.{Normal, Found}
use Rattle.reduction.specs.declared.Reduction.{Reduction}
use Rattle.reduction.specs.declared.Unreduced.{Unreduced}
use Rattle.rules.specs.Refusal.{Outcome, number_of}
use Rattle.entry.specs.Told.{told, told_refusal}

-- in the order of their counts; 0 stands for no rule
abbrev pub number_of_rule : Rule → ℕ
number_of_rule App = 1
number_of_rule Let = 2
number_of_rule Case = 3
number_of_rule Fst = 4
number_of_rule Snd = 5
number_of_rule Derelict = 6
number_of_rule Copy = 7
number_of_rule Discard = 8

-- the rule's number, or 0 for Normal; its place; the length of the next term; or a refusal
unfoldable pub told_step : Outcome Stepped → List ℕ
told_step (Ok Normal) = told 0 0 0 (0 ∷ 0 ∷ 0 ∷ [])
told_step (Ok (Found f)) = told 0 0 0 (number_of_rule f.rule ∷ f.place ∷ f.length ∷ [])
told_step (Err r) = told_refusal r

-- the steps, 1 if none remains, the length of the term, one count for each rule
unfoldable pub told_reduction : Reduction → List ℕ
told_reduction d =
    told 0 0 0
    (d.steps
    ∷ from_bool d.normal
    ∷ d.length
    ∷ d.counts.app
    ∷ d.counts.lets
    ∷ d.counts.case
    ∷ d.counts.fst
    ∷ d.counts.snd
    ∷ d.counts.derelict
    ∷ d.counts.copy
    ∷ d.counts.discard
    ∷ [])

-- or a refusal, with the length of what stands in the output
unfoldable pub told_reduced : Result Reduction Unreduced → List ℕ
told_reduced (Ok d) = told_reduction d
told_reduced (Err u) = told (number_of u.refusal.reason) u.refusal.place u.refusal.input (u.length ∷ [])
