-- `conclusion::read_exactly` meets its contract: formulas in a row are nodes in a row. Assumes nothing.
use mathlib.Core.Path.{sym, ap, ◌∙◌}
use Rattle.laws.specs.Handed.{handed}
use Rattle.proof.proofs.conclusion.Rows.{after_rules, row_seen}
use Rattle.proof.proofs.conclusion.read_exactly.Goals as goal

pub returns-in_err-past : goal.returns-in_err-past
returns-in_err-past c = let a = c.args in
    handed c.from_residual.result c.from_residual.ensures.1 ∙ sym (row_seen a.s.now a.most a.from a.n ∙ ap (after_rules a.from.rules) (sym c.read_row.ensures ∙ c.in_err-past.was))

pub returns : goal.returns
returns c = let a = c.args in
    sym (row_seen a.s.now a.most a.from a.n ∙ ap (after_rules a.from.rules) (sym c.read_row.ensures ∙ c.in_ok-past.was))
