-- `step::is_normal` meets its contract: the reading says which term it is, and of a calm one that it is normal. Assumes nothing.
use mathlib.Core.Path.{sym, ap, ◌∙◌}
use Rattle.std.specs.Prelude.{Ok}
use Rattle.rules.specs.Refusal.{mapped}
use Rattle.laws.specs.Handed.{handed}
use Rattle.redex.specs.Readings.{nodes_of}
use Rattle.step.proofs.Calling.{untold, is-term, told}
use Rattle.step.proofs.is_normal.Goals as goal

pub none_left-requires : goal.none_left-requires
none_left-requires c =
    let w = is-term c.args.term.now _ (sym c.read_resting.ensures.says ∙ ap (mapped nodes_of) (c.in_ok-read_resting.was ∙ ap Ok c.in-Unsure.is)) in
    (w.0, w.2)

pub returns-in-Calm : goal.returns-in-Calm
returns-in-Calm c =
    let w = is-term c.args.term.now _ (sym c.read_resting.ensures.says ∙ ap (mapped nodes_of) (c.in_ok-read_resting.was ∙ ap Ok c.in-Calm.is)) in
    told c.args.term.now w.0 w.1 _ (sym (c.in_ok-read_resting.ensures.calm _ c.in-Calm.is w.0 w.2))

pub returns-in_err-read_resting : goal.returns-in_err-read_resting
returns-in_err-read_resting c =
    handed c.from_residual.result c.from_residual.ensures.1 ∙ untold c.args.term.now _ (sym c.read_resting.ensures.says ∙ ap (mapped nodes_of) c.in_err-read_resting.was)

pub returns-in-Unsure : goal.returns-in-Unsure
returns-in-Unsure c =
    let w = is-term c.args.term.now _ (sym c.read_resting.ensures.says ∙ ap (mapped nodes_of) (c.in_ok-read_resting.was ∙ ap Ok c.in-Unsure.is)) in
    told c.args.term.now w.0 w.1 _ (c.none_left.ensures w.0 w.2)
