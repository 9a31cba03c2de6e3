-- `word::first` meets its contract: what is left to write makes up the whole word. Assumes nothing.
use Rattle.std.proofs.Common.{◌≡◌, ◌+◌, length, drop}
use Rattle.std.proofs.lemmas.List.Edits.{sets}
use Rattle.words.proofs.word.first.Given as goal

abbrev pub invariant-loop-i : goal.invariant-loop-i
invariant-loop-i g l =
    (length l.out ≡ length l.initial.out) × (sets l.out (l.to + l.i) (drop l.i l.bytes) ≡ sets l.initial.out l.to l.bytes)
