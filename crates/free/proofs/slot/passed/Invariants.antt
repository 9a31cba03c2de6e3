-- `slot::passed` meets its contract: the binders that are left decide. Assumes nothing.
use Rattle.free.proofs.slot.Scanning.{Left}
use Rattle.free.proofs.slot.passed.Given as goal

abbrev pub invariant-loop-i : goal.invariant-loop-i
invariant-loop-i l = Left l.s l.at l.row l.low l.i
