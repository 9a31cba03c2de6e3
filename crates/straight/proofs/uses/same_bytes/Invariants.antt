-- `uses::same_bytes` meets its contract: what is left to compare decides. Assumes nothing.
use mathlib.Core.Path.{◌≡◌}
use lib.ListN.{length, drop}
use Rattle.rules.specs.Name.{same}
use Rattle.straight.proofs.uses.same_bytes.Given as goal

abbrev pub invariant-loop-i : goal.invariant-loop-i
invariant-loop-i l = (length l.a ≡ length l.b) × (same l.a l.b ≡ same (drop l.i l.a) (drop l.i l.b))
