-- `slot::passed` meets its contract: the binders that are left decide. Assumes nothing.
use Rattle.free.proofs.slot.Scanning.{entry, left-found, left_less}
use Rattle.free.proofs.slot.passed.Goals as goal

pub loop-i-preserved : goal.loop-i-preserved
loop-i-preserved c = left_less _ _ _ _ c.loop-i.i c.loop-i.auto.i c.loop-i-test.true c.loop-i.invariant _ c.same_at.ensures c.if-same_at.false

pub returns-then-same_at : goal.returns-then-same_at
returns-then-same_at c = left-found _ _ _ _ c.loop-i.i c.loop-i.auto.i c.loop-i-test.true c.loop-i.invariant _ c.same_at.ensures c.if-same_at.true

pub same_at-requires : goal.same_at-requires
same_at-requires c = entry _ _ _ _ c.loop-i.i c.loop-i.auto.i c.loop-i-test.true c.requires.name_at
