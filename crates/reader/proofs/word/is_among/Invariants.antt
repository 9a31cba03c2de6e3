-- `word::is_among` meets its contract: the words that are not compared yet decide. Assumes nothing.
use mathlib.Core.Path.{◌≡◌}
use lib.ListN.{take, drop}
use Rattle.std.specs.Slice.Iter.{chunks_exact_size, chunks_exact_rest}
use Rattle.reader.specs.Words.{compared}
use Rattle.reader.proofs.word.Rows.{Decides}
use Rattle.reader.proofs.word.is_among.Given as goal

abbrev pub invariant-loop-word : goal.invariant-loop-word
invariant-loop-word l =
    (goal.iterator-loop-word).can_next l.word-iterator × (goal.iterator-loop-word).is_finite l.word-iterator × (chunks_exact_size l.word-iterator ≡ l.n)
    × Decides (compared l.form (take l.n (drop l.at l.s))) l.n l.words (chunks_exact_rest l.word-iterator)
