-- `check::weigh` meets its contract: the two sums are those of the bytes that are passed, from the end. Assumes nothing.
use Prim.Native.Nat.{◌-◌, ◌*◌, ◌≤◌}
use mathlib.Core.Path.{◌≡◌}
use lib.ListN.{length, drop}
use Rattle.rules.specs.Stored.{weighed}
use Rattle.stored.specs.Weights.{total}
use Rattle.stored.proofs.check.weigh.Given as goal

abbrev pub invariant-loop-byte : goal.invariant-loop-byte
invariant-loop-byte l =
    (length l.yielded ≤ length l.body) × (l.bytes ≤ 255 * length l.yielded) × (l.sum ≤ 130050 * length l.yielded)
    × (l.bytes ≡ total (drop (length l.body - length l.yielded) l.body)) × (l.sum ≡ weighed 0 (drop (length l.body - length l.yielded) l.body))
