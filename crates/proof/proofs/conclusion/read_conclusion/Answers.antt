-- `conclusion::read_conclusion` meets its contract: its stages, one after the other. Assumes nothing.
use mathlib.Core.Path.{sym, ◌∙◌}
use Rattle.laws.specs.Handed.{handed}
use Rattle.proof.specs.Seen.{within}
use Rattle.proof.specs.Stages.{own_of, linear_of}
use Rattle.proof.proofs.conclusion.Views.{came}
use Rattle.proof.proofs.conclusion.Ways.{steady-own, steady-linear}
use Rattle.proof.proofs.conclusion.Tops.{top-no-rule, top-no-linear, top-on}
use Rattle.proof.proofs.conclusion.read_conclusion.Goals as goal

pub returns-in_err-own : goal.returns-in_err-own
returns-in_err-own c =
    let a = c.args in
    handed c.from_residual.result c.from_residual.ensures.1 ∙ sym (top-no-rule (within a.most) a.s.now a.from _ (sym c.read_own.ensures ∙ c.in_err-own.was))

pub returns-in_err-linear : goal.returns-in_err-linear
returns-in_err-linear c =
    let a = c.args in
    let own = came (own_of (within a.most)) (steady-own (within a.most)) a.s.now a.from
    c.requires.formulas_bound.1
    (sym c.read_own.ensures ∙ c.in_ok-own.was) in
    handed c.from_residual-in_err-linear.result c.from_residual-in_err-linear.ensures.1 ∙ sym (top-no-linear (within a.most) a.s.now a.from own _ (sym c.read_linear.ensures ∙ c.in_err-linear.was))

pub returns : goal.returns
returns c =
    let a = c.args in
    let own = came (own_of (within a.most)) (steady-own (within a.most)) a.s.now a.from
    c.requires.formulas_bound.1
    (sym c.read_own.ensures ∙ c.in_ok-own.was) in
    let linear = came (linear_of (within a.most)) (steady-linear (within a.most)) a.s.now _ own.inside (sym c.read_linear.ensures ∙ c.in_ok-linear.was) in
    c.read_count.ensures ∙ sym (top-on (within a.most) a.s.now a.from own linear)
