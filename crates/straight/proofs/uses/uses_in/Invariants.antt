-- `uses::uses_in` meets its contract: whatever the terms that are left have, all of them have that and what was met.
-- Assumes nothing.
use Prim.Native.Nat.{◌-◌}
use lib.ListN.{length}
use Rattle.straight.proofs.uses.TermRows.{Going}
use Rattle.straight.proofs.uses.uses_in.Given as goal

abbrev pub invariant-loop-left : goal.invariant-loop-left
invariant-loop-left l = Going l.s l.at l.name l.next l.left l.uses l.stands

abbrev pub decreases-loop-left : goal.decreases-loop-left
decreases-loop-left l = length l.s - l.next
