-- `conclusion::pass_formulas` meets its contract: what is still to be passed comes to the same with each node more. Assumes nothing.
use Prim.Native.Nat.{◌-◌}
use Rattle.proof.proofs.conclusion.Passing.{Passing}
use Rattle.proof.proofs.conclusion.pass_formulas.Given as goal

abbrev pub invariant-loop-left : goal.invariant-loop-left
invariant-loop-left l = Passing l.s l.most l.fn.from l.n l.row l.left

abbrev pub decreases-loop-left : goal.decreases-loop-left
decreases-loop-left l = l.most.formulas - l.row.formulas
