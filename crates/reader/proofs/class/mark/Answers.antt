-- `class::mark` meets its contract: what is left to write makes up the whole. Assumes nothing.
use Prim.Native.Nat.{◌+◌}
use Rattle.reader.proofs.class.Marks.{mark-more}
use Rattle.reader.proofs.class.mark.Goals as goal

pub loop-b-preserved : goal.loop-b-preserved
loop-b-preserved c = let l = c.loop-b in mark-more l.t _ l.b (c.args.to + 1) c.args.class c.loop-b-test.true l.invariant
