-- `class::letter_table` meets its contract: letters put into zeros, and those that begin a word. Assumes nothing.
use mathlib.Core.Path.{ap, ◌∙◌}
use Rattle.reader.specs.Tables.{beginnings_in, table_of_letters}
use Rattle.reader.proofs.class.letter_table.Goals as goal

pub returns : goal.returns
unfolding table_of_letters
returns c = c.put_beginnings.ensures ∙ ap (λ t. beginnings_in t 97) c.put_letters.ensures
