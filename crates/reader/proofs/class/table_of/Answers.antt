-- `class::table_of` meets its contract: the tables are right. Assumes nothing.
use Rattle.reader.specs.Tables.{term-classes, formula-classes}
use Rattle.reader.proofs.class.table_of.Goals as goal

pub returns-in-Formula : goal.returns-in-Formula
returns-in-Formula c = rw (c.in-Formula.is, c.put_tags-in-Formula.ensures, c.put_beginnings.ensures, c.letter_table-t.ensures) formula-classes

pub returns-in-Term : goal.returns-in-Term
returns-in-Term c = rw (c.in-Term.is, c.put_tags.ensures, c.letter_table-t.ensures) term-classes
