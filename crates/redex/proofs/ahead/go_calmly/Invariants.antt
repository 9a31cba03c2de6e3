-- `go_calmly` meets its contract: what was gone over stays good with each node more, and calm if the node is no redex. Assumes nothing.
use Prim.Native.Nat.{◌+◌, ◌-◌, ◌≤◌}
use mathlib.Core.Path.{◌≡◌}
use mathlib.Core.Bool.{true}
use lib.ListN.{length}
use Rattle.reader.specs.Form.{layout_of}
use Rattle.reader.specs.declared.class.Form.TheVariants.{Term}
use Rattle.reader.specs.Count.{Gone}
use Rattle.redex.specs.Swept.{Swept}
use Rattle.redex.proofs.ahead.go_calmly.Given as goal

abbrev pub invariant-loop-gone : goal.invariant-loop-gone
invariant-loop-gone l =
    record {
      good : Gone (layout_of Term) l.s 0 1 l.gone.next l.gone.met l.gone.known l.gone.names;
      near : l.gone.next ≤ length l.s + 60;
      swept : l.calm ≡ true → Swept l.s l.gone.next 0;
    }

abbrev pub decreases-loop-gone : goal.decreases-loop-gone
decreases-loop-gone l = length l.s - l.gone.next
