-- `count_block` meets its contract: what is counted and what is left make up the whole. Assumes nothing.
use Prim.Native.Nat.{◌+◌, ◌-◌, ◌≤◌}
use mathlib.Core.Path.{◌≡◌}
use lib.ListN.{length}
use Rattle.reader.specs.Letters.{letters_from}
use Rattle.reader.proofs.letters.count_block.Given as goal

abbrev pub invariant-loop-i : goal.invariant-loop-i
invariant-loop-i l = (l.to ≤ length l.s) × (l.from ≤ l.i) × (l.i ≤ l.to) × (l.count ≤ l.i - l.from) × (l.to - l.from ≤ 128) × (l.count + letters_from l.s l.i (l.to - l.i) ≡ letters_from l.s l.from (l.to - l.from))
