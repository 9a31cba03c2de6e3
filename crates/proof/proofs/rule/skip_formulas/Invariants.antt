-- `rule::skip_formulas` meets its contract: where the formulas that are left end, all of them end. Assumes nothing.
use Prim.Native.Nat.{ℕ, ◌-◌}
use lib.ListN.{length}
use Rattle.rules.specs.Formula.{encode_formula}
use Rattle.proof.proofs.rule.Items.{Some, SkipIs}
use Rattle.proof.proofs.rule.skip_formulas.Given as goal

abbrev pub invariant-loop-left : goal.invariant-loop-left
invariant-loop-left l = Some encode_formula l.s l.i l.left × ((r : ℕ) → SkipIs encode_formula l.s l.i l.left r → SkipIs encode_formula l.s l.at l.n r)

abbrev pub decreases-loop-left : goal.decreases-loop-left
decreases-loop-left l = length l.s - l.i
