-- `ahead::go_ahead` meets its contract: what was gone over stays good with each node more. Assumes nothing.
use Prim.Native.Nat.{◌+◌, ◌-◌, ◌≤◌}
use Rattle.reader.specs.Form.{layout_of}
use Rattle.reader.specs.Count.{Gone}
use Rattle.reader.proofs.ahead.go_ahead.Given as goal

abbrev pub invariant-loop-gone : goal.invariant-loop-gone
invariant-loop-gone l = record {
  good : Gone (layout_of l.form) l.s l.at l.n l.gone.next l.gone.met l.gone.known l.gone.names;
  near : l.gone.next ≤ l.end + 60;
}

abbrev pub decreases-loop-gone : goal.decreases-loop-gone
decreases-loop-gone l = l.end - l.gone.next
