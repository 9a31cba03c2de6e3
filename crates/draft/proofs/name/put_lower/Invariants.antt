-- `name::put_lower` meets its contract: what is left to copy makes up the whole. Assumes nothing.
use Prim.Native.Nat.{◌-◌, ◌+◌}
use mathlib.Core.Path.{◌≡◌}
use lib.ListN.{length}
use lib.Seq.{sets, slice}
use Rattle.rules.specs.Name.{lower}
use Rattle.draft.proofs.name.put_lower.Given as goal

abbrev pub invariant-loop-i : goal.invariant-loop-i
invariant-loop-i l =
    (length l.out ≡ length l.initial.out) × (sets l.out (l.to + (l.i - l.from)) (lower (slice l.i l.end l.s)) ≡ sets l.initial.out l.to (lower (slice l.from l.end l.s)))
