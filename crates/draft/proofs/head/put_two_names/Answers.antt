-- `head::put_two_names` meets its contract: a name, then the other. Assumes nothing.
use Rattle.buffer.specs.Writing.{chain}
use Rattle.draft.proofs.head.put_two_names.Goals as goal

pub returns : goal.returns
returns c = chain c.put_x-past.ensures c.put_x.ensures
