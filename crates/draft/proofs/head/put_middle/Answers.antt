-- `head::put_middle` meets its contract: of a Copy, two names and then a variable. Assumes nothing.
use Rattle.buffer.specs.Writing.{chain}
use Rattle.draft.proofs.head.put_middle.Goals as goal

pub returns-in-Copy : goal.returns-in-Copy
returns-in-Copy c = rw c.in-Copy.is (chain c.put_two_names-past.ensures c.put_variable.ensures)
