-- `extract::extract_read` meets its contract: by whether the counter is over the most already, and by how many rules there are. Assumes nothing.
use Rattle.std.specs.Prelude.{Err}
use mathlib.Core.Path.{ap}
use Rattle.extract.proofs.Starting.{over-counter}
use Rattle.extract.proofs.extract_read.Goals as goal

pub returns-then-start-gt-MOST_COUNTER : goal.returns-then-start-gt-MOST_COUNTER
returns-then-start-gt-MOST_COUNTER c = λ p w. over-counter w c.if-start-gt-MOST_COUNTER.true (ap Err c.of_no_input.ensures)
