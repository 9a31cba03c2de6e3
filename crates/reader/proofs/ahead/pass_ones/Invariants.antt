-- `pass_ones` meets its contract: one node is still to be read after each that is passed. Assumes nothing.
use Prim.Native.Nat.{◌-◌, ◌≤◌}
use Rattle.reader.proofs.ahead.Ones.{Passes}
use Rattle.reader.proofs.ahead.pass_ones.Given as goal

abbrev pub invariant-loop-p : goal.invariant-loop-p
invariant-loop-p l = (l.at ≤ l.p) × (l.p - l.at ≤ l.end - l.at) × Passes l.form l.s l.at l.p
