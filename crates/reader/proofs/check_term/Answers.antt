-- `check_term` meets its contract: the call is its one input's answer. Assumes nothing.
use Rattle.rules.specs.Calls.{check_term_call}
use Rattle.reader.proofs.check_term.Goals as goal

pub returns : goal.returns
unfolding check_term_call
returns c = c.term_input.ensures
