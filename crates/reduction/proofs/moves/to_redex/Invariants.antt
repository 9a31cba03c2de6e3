-- `moves::to_redex` meets its contract. The loop's invariant: the search stands where it is in the whole in which it began.
-- The measure is what it has yet to see. Assumes nothing.
use Prim.Native.Nat.{◌-◌}
use lib.ListN.{length}
use Rattle.reduction.proofs.moves.Seeking.{Seeking}
use Rattle.reduction.proofs.moves.to_redex.Given as goal

abbrev pub invariant-loop-start : goal.invariant-loop-start
invariant-loop-start l = Seeking l.scratch l.initial.out l.initial.stack l.fn.from l.out l.stack l.place

abbrev pub decreases-loop-start : goal.decreases-loop-start
decreases-loop-start l = length l.scratch - l.place.i
