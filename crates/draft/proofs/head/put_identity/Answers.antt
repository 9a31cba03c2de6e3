-- `head::put_identity` meets its contract: a name, then its variable. Assumes nothing.
use Rattle.buffer.specs.Writing.{chain}
use Rattle.draft.proofs.head.put_identity.Goals as goal

pub returns : goal.returns
returns c = chain c.put_x-past.ensures c.put_variable.ensures
