-- What an entry point tells its caller, as 16 numbers: a refusal's number, place and input, or three zeros; the values of the answer; zeros.
-- Assumes nothing: these are definitions.
use Rattle.rules.specs.Refusal.{Outcome, number_of}
use Rattle.std.specs.Prelude.{ℕ, Bool, ◌-◌, List, [], ◌∷◌, ◌++◌, length, replicate, Ok, Err}
use Rattle.std.specs.Int.{from_bool}
use Rattle.rules.specs.declared.Refusal.{Refusal}

abbrev pub told : (number place input : ℕ) → (values : List ℕ) → List ℕ
told n p i vs = n ∷ p ∷ i ∷ (vs ++ replicate (13 - length vs) 0)

unfoldable pub told_refusal : Refusal → List ℕ
told_refusal r = told (number_of r.reason) r.place r.input []

-- a count, or a refusal
unfoldable pub told_answer : Outcome ℕ → List ℕ
told_answer (Ok n) = told 0 0 0 (n ∷ [])
told_answer (Err r) = told_refusal r

-- 1 for yes, 0 for no; or a refusal
unfoldable pub told_verdict : Outcome Bool → List ℕ
told_verdict (Ok b) = told 0 0 0 (from_bool b ∷ [])
told_verdict (Err r) = told_refusal r
