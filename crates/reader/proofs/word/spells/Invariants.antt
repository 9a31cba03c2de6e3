-- `word::spells` meets its contract: what is left to compare decides. Assumes nothing.
use Prim.Native.Nat.{◌+◌, ◌-◌, ◌≤◌}
use mathlib.Core.Path.{◌≡◌}
use lib.ListN.{length}
use Rattle.reader.proofs.word.Compared.{alike}
use Rattle.reader.proofs.word.spells.Given as goal

abbrev pub invariant-loop-i : goal.invariant-loop-i
invariant-loop-i l = (l.i ≤ length l.word) × (alike l.form l.s l.word (length l.word) l.at 0 ≡ alike l.form l.s l.word (length l.word - l.i) (l.at + l.i) l.i)
