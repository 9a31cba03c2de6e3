-- `span::span_row` meets its contract: whatever the terms that are left have, all of them have that and what was met.
-- Assumes nothing.
use Prim.Native.Nat.{◌-◌}
use lib.ListN.{length}
use Rattle.term.proofs.span.Extents.{Going}
use Rattle.term.proofs.span.span_row.Given as goal

abbrev pub invariant-loop-left : goal.invariant-loop-left
invariant-loop-left l = Going l.s l.at l.n l.next l.left l.nodes

abbrev pub decreases-loop-left : goal.decreases-loop-left
decreases-loop-left l = length l.s - l.next
