-- `slot::slot_for` meets its contract: each comparison leaves the slot between two bounds, until they meet. Assumes nothing.
use native.Mathlib.Omega.{arith}
use Rattle.free.proofs.slot.Halves.{aims-right, aims-left, hits, misses}
use Rattle.free.proofs.slot.slot_for.Goals as goal

pub loop-lo-preserved : goal.loop-lo-preserved
loop-lo-preserved c = (omega arith, omega arith, aims-left _ _ _ _ _ (omega arith) _ c.order_at.ensures c.loop-lo.lo c.loop-lo.hi c.loop-lo.invariant.2 c.in-Greater.is)

pub loop-lo-preserved-in-Less : goal.loop-lo-preserved-in-Less
loop-lo-preserved-in-Less c = (omega arith, omega arith, aims-right _ _ _ _ _ (omega arith) _ c.order_at.ensures c.loop-lo.lo c.loop-lo.hi c.loop-lo.invariant.2 c.in-Less.is)

pub returns : goal.returns
returns c = misses _ _ _ _ c.loop-lo.lo c.loop-lo.hi c.loop-lo.invariant.0 c.loop-lo-test.false c.loop-lo.invariant.1 c.loop-lo.invariant.2

pub returns-in-Equal : goal.returns-in-Equal
returns-in-Equal c = hits _ _ _ _ _ (omega arith) _ c.order_at.ensures c.in-Equal.is
