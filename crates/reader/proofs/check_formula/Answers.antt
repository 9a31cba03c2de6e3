-- `check_formula` meets its contract: the call is its one input's answer. Assumes nothing.
use Rattle.rules.specs.Calls.{check_formula_call}
use Rattle.reader.proofs.check_formula.Goals as goal

pub returns : goal.returns
unfolding check_formula_call
returns c = c.formula_input.ensures
