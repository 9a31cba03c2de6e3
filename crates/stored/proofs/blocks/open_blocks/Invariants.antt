-- `blocks::open_blocks` meets its contract: what is gathered and what is left make up the whole. Assumes nothing.
use Prim.Native.Nat.{◌-◌, ◌*◌, ◌/◌, ◌≤◌}
use mathlib.Core.Path.{◌≡◌}
use lib.ListN.{length, take}
use Rattle.rules.specs.Limits.{limits, block_bytes, block_content}
use Rattle.rules.specs.Stored.{opened_blocks}
use Rattle.stored.specs.Gathering.{behind}
use Rattle.stored.proofs.blocks.open_blocks.Given as goal

abbrev pub invariant-loop-number : goal.invariant-loop-number
invariant-loop-number l =
    let many = length l.file / block_bytes in
    (l.at ≤ block_content * l.number) × (length l.content ≡ length l.initial.content)
    × (opened_blocks limits l.kind l.file 0 many ≡ behind (take l.at l.content) (opened_blocks limits l.kind l.file l.number (many - l.number)))
