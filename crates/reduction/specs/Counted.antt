-- The counts of a reduction add up to its steps: each step adds one. Assumes nothing.
use Rattle.std.specs.Prelude.{ℕ, suc, ◌+◌, ◌≡◌}
use Rattle.std.proofs.Common.{◌∙◌, arith}
use Rattle.rules.specs.declared.Rule.{Rule}
use Rattle.rules.specs.declared.Rule.TheVariants.{App, Let, Case, Fst, Snd, Derelict, Copy, Discard}
use Rattle.rules.specs.declared.Counts.{Counts}
use Rattle.rules.specs.Reduction.{plus}

abbrev pub total : Counts → ℕ
total c = c.app + c.lets + c.case + c.fst + c.snd + c.derelict + c.copy + c.discard

pub one_more : (r : Rule) (c : Counts) → total (plus r c) ≡ suc (total c)
one_more App c = omega arith
one_more Let c = omega arith
one_more Case c = omega arith
one_more Fst c = omega arith
one_more Snd c = omega arith
one_more Derelict c = omega arith
one_more Copy c = omega arith
one_more Discard c = omega arith

-- where the steps are added up too
pub counted : (r : Rule) (c d : Counts) (n : ℕ) → d ≡ plus r c → total c ≡ n → total d ≡ n + 1
counted r c d n e h = rw e (one_more r c ∙ omega (arith, h))
