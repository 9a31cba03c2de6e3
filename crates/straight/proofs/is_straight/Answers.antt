-- `straight::is_straight` meets its contract: the reader's answer says which term it is. Assumes nothing.
use mathlib.Core.Path.{sym, ◌∙◌}
use Rattle.laws.specs.Handed.{handed}
use Rattle.straight.proofs.Calling.{bad-term, some-term, good-term}
use Rattle.straight.proofs.is_straight.Goals as goal

pub all_pass-requires : goal.all_pass-requires
all_pass-requires c = some-term c.args.term.now _ (sym c.check_term.ensures ∙ c.in_ok-check_term.was)

pub returns : goal.returns
returns c = good-term c.args.term.now _ (sym c.check_term.ensures ∙ c.in_ok-check_term.was) _ c.all_pass.ensures

pub returns-in_err-check_term : goal.returns-in_err-check_term
returns-in_err-check_term c = handed c.from_residual.result c.from_residual.ensures.1 ∙ bad-term c.args.term.now _ (sym c.check_term.ensures ∙ c.in_err-check_term.was)
