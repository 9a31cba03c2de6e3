-- `child::child_fault` meets its contract: it tells what kept a child from being located. Assumes nothing.
use Rattle.std.proofs.Common.{◌∙◌}
use Rattle.term.proofs.child.Children.{fault-told}
use Rattle.term.proofs.child.child_fault.Goals as goal

pub returns : goal.returns
returns c = c.err.ensures.value ∙ fault-told c.args.term.now c.args.k _ c.locate.ensures
