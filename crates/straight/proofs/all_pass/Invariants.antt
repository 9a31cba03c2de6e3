-- `straight::all_pass` meets its contract: as the nodes up to here pass, the whole passes if the rest does. Assumes nothing.
use Prim.Native.Nat.{◌-◌}
use lib.ListN.{length}
use Rattle.straight.proofs.StraightRows.{Going}
use Rattle.straight.proofs.all_pass.Given as goal

abbrev pub invariant-loop-left : goal.invariant-loop-left
invariant-loop-left l = Going l.s l.i l.left

abbrev pub decreases-loop-left : goal.decreases-loop-left
decreases-loop-left l = length l.s - l.i
