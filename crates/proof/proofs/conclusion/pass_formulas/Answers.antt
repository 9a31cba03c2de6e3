-- `conclusion::pass_formulas` meets its contract: what is still to be passed comes to the same with each node more. Assumes nothing.
use native.Mathlib.Omega.{arith}
use Rattle.proof.proofs.conclusion.Passing.{passing-done, passing-nameless, passing-named}
use Rattle.proof.proofs.conclusion.pass_formulas.Goals as goal
use Rattle.proof.proofs.conclusion.pass_formulas.Goals.{then-code-eq1+in_ok-row, else-code-eq1}

pub loop-left-preserved : goal.loop-left-preserved
loop-left-preserved c = let a = c.args in
    let w = c.loop-left.invariant in
    elim c.if-code-eq1.branch [
      | then-code-eq1+in_ok-row v ↦ rw v.row-is (passing-named a.s.now a.most a.from a.n w c.loop-left-test.true (omega arith) (omega arith) c.code_of-code.result c.code_of-code.ensures c.if-code-eq0.false _ v.if-code-eq1.true v.in_ok-row.ensures)
      | else-code-eq1 v ↦ rw v.row-is (passing-nameless a.s.now a.most a.from a.n w c.loop-left-test.true (omega arith) (omega arith) c.code_of-code.result c.code_of-code.ensures c.if-code-eq0.false v.if-code-eq1.false)
    ]

pub returns : goal.returns
returns c = let a = c.args in passing-done a.s.now a.most a.from a.n c.loop-left.invariant (omega arith)
