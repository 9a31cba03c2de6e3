-- `blocks::put_blocks` meets its contract: what is left to write makes up the whole. Assumes nothing.
use Prim.Native.Nat.{◌-◌, ◌*◌, ◌≤◌}
use mathlib.Core.Path.{◌≡◌}
use lib.ListN.{length}
use lib.Seq.{sets}
use Rattle.rules.specs.Limits.{limits, block_bytes, block_count_for}
use Rattle.rules.specs.Stored.{blocks, stored}
use Rattle.stored.proofs.blocks.put_blocks.Given as goal

abbrev pub invariant-loop-number : goal.invariant-loop-number
invariant-loop-number l =
    (l.many ≡ block_count_for (length l.content)) × (l.many ≤ block_count_for limits.bytes) × (length l.out ≡ length l.initial.out)
    × (sets l.out (block_bytes * l.number) (blocks l.kind l.number (l.many - l.number) l.content) ≡ sets l.initial.out 0 (stored l.kind l.content))
