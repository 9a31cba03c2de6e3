-- `calm` meets its contract: whatever is calm among the terms left makes the whole calm, and in the end none is left. Assumes nothing.
use Prim.Native.Nat.{◌-◌, ◌<◌}
use lib.ListN.{length}
use Rattle.redex.specs.Swept.{Swept}
use Rattle.redex.proofs.calm.calm.Given as goal

abbrev pub invariant-loop-i : goal.invariant-loop-i
invariant-loop-i l = Swept l.s l.i l.last × (l.last < 20)

abbrev pub decreases-loop-i : goal.decreases-loop-i
decreases-loop-i l = length l.s - l.i
