-- `child::locate` meets its contract: the reader, then the parts before child k, then the child. Assumes nothing.
use mathlib.Core.Path.{sym, ap, ◌∙◌}
use Rattle.std.specs.Prelude.{Err}
use Rattle.laws.specs.Handed.{handed}
use Rattle.term.proofs.child.Children.{refused-term, some_read, no-child, some-before, some-child, child-part}
use Rattle.term.proofs.child.locate.Goals as goal

pub parts_at-row-requires : goal.parts_at-row-requires
parts_at-row-requires c = some_read c.args.term.now c.args.k (sym c.check_term.ensures ∙ c.in_ok-check_term.was)

pub returns : goal.returns
returns c = child-part c.args.term.now c.args.k (sym c.check_term.ensures ∙ c.in_ok-check_term.was) _ c.parts_at-row.ensures c.if-row-k.false _ c.skip-from.ensures _ c.skip-end.ensures

pub returns-in_err-check_term : goal.returns-in_err-check_term
returns-in_err-check_term c =
    handed c.from_residual.result c.from_residual.ensures.1 ∙ refused-term c.args.term.now c.args.k _ (sym c.check_term.ensures ∙ c.in_err-check_term.was)

pub returns-then-row-k : goal.returns-then-row-k
returns-then-row-k c = ap Err c.of_no_input.ensures ∙ no-child c.args.term.now c.args.k (sym c.check_term.ensures ∙ c.in_ok-check_term.was) _ c.parts_at-row.ensures c.if-row-k.true

pub skip-end-requires : goal.skip-end-requires
skip-end-requires c = some-child c.args.term.now c.args.k (sym c.check_term.ensures ∙ c.in_ok-check_term.was) _ c.parts_at-row.ensures c.if-row-k.false _ c.skip-from.ensures

pub skip-from-requires : goal.skip-from-requires
skip-from-requires c = some-before c.args.term.now c.args.k (sym c.check_term.ensures ∙ c.in_ok-check_term.was) _ c.parts_at-row.ensures c.if-row-k.false
