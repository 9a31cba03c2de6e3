-- `class::mark` meets its contract: what is left to write makes up the whole. Assumes nothing.
use Prim.Native.Nat.{◌+◌, ◌-◌}
use mathlib.Core.Path.{◌≡◌}
use lib.ListN.{replicate}
use lib.Seq.{sets}
use Rattle.reader.proofs.class.mark.Given as goal

abbrev pub invariant-loop-b : goal.invariant-loop-b
invariant-loop-b l = sets l.t l.b (replicate (l.to + 1 - l.b) l.class) ≡ sets l.initial.t l.from (replicate (l.to + 1 - l.from) l.class)
