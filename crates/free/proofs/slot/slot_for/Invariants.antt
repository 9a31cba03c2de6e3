-- `slot::slot_for` meets its contract: each comparison leaves the slot between two bounds, until they meet. Assumes nothing.
use Prim.Native.Nat.{◌≤◌, ◌-◌}
use lib.ListN.{length}
use Rattle.free.proofs.slot.Halves.{Aims}
use Rattle.free.proofs.slot.slot_for.Given as goal

abbrev pub invariant-loop-lo : goal.invariant-loop-lo
invariant-loop-lo l = (l.lo ≤ l.hi) × (l.hi ≤ length l.found) × Aims l.s l.at l.found (length l.found) l.lo l.hi

abbrev pub decreases-loop-lo : goal.decreases-loop-lo
decreases-loop-lo l = l.hi - l.lo
