-- `pass_ones` meets its contract: one node is still to be read after each that is passed. Assumes nothing.
use native.Mathlib.Omega.{arith}
use Rattle.reader.proofs.ahead.Ones.{passes-more}
use Rattle.reader.proofs.ahead.pass_ones.Goals as goal

pub loop-p-preserved : goal.loop-p-preserved
loop-p-preserved c = (omega arith, omega arith, passes-more c.args.form c.args.s.now c.args.at c.loop-p.p c.loop-p.invariant.0 (omega (arith, c.requires.end_in_bounds)) (c.is_one.ensures c.if-not-is_one.false) c.loop-p.invariant.2)
