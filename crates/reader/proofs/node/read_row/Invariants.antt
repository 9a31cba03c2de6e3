-- `read_row` meets its contract: whatever the nodes that are still to be read come to, the whole comes to. Assumes nothing.
use Prim.Native.Nat.{◌+◌, ◌-◌, ◌*◌, ◌≤◌}
use mathlib.Core.Path.{◌≡◌}
use lib.ListN.{drop}
use Rattle.rules.specs.Reading.{times, node}
use Rattle.reader.specs.Form.{layout_of}
use Rattle.reader.specs.View.{view}
use Rattle.reader.proofs.node.Rest.{Rest}
use Rattle.reader.proofs.node.read_row.Given as goal

abbrev pub invariant-loop-met : goal.invariant-loop-met
invariant-loop-met l =
    (l.met ≤ l.known) × (l.known ≤ l.n + 3 * l.met) × (l.met ≤ l.most - l.used)
    × (Rest (layout_of l.form) l.most l.s (l.known - l.met) (l.used + l.met) l.next ≡ view (times (node (layout_of l.form) l.most l.most) l.n l.used l.at (drop l.at l.s)))

abbrev pub decreases-loop-met : goal.decreases-loop-met
decreases-loop-met l = l.most - l.used - l.met
