-- `step::step_read` meets its contract: what was taken is the answer, and what is left is cleared. Assumes nothing.
use mathlib.Core.Path.{sym, ap, ◌∙◌, subst}
use Rattle.std.specs.Prelude.{Ok}
use Rattle.rules.specs.Refusal.{Outcome}
use Rattle.rules.specs.Step.{step}
use Rattle.laws.specs.Handed.{handed}
use Rattle.step.specs.Answers.{Stepping}
use Rattle.step.specs.declared.Stepped.{Stepped}
use Rattle.step.proofs.Calling.{not-refused, not-other, stays, room, goes}
use Rattle.step.proofs.step_read.Goals as goal

pub clear-requires-in-Found : goal.clear-requires-in-Found
clear-requires-in-Found c =
    let w = c.requires.0 in
    room (c.take_step-stepped.ensures w.0 w.1) (c.in_ok-step.was ∙ ap Ok c.in-Found.is) w.1.room

pub returns-in-Found : goal.returns-in-Found
returns-in-Found c = λ t d.
    goes (c.take_step-stepped.ensures t d) _ c.take_step-stepped.new.work _ c.take_step-stepped.auto.work c.clear.ensures (c.in_ok-step.was ∙ ap Ok c.in-Found.is) d.room _ c.clear-in-Found.ensures

pub returns-in_default : goal.returns-in_default
returns-in_default c = λ t d.
    subst (λ (r : Outcome Stepped). Stepping (step t) c.args.out.now c.args.scratch.now r c.take_step-stepped.new.out c.clear.new.out) c.in_ok-step.was
    (stays (c.take_step-stepped.ensures t d) _ c.take_step-stepped.new.work _ c.take_step-stepped.auto.work c.clear.ensures (not-other c.in_ok-step.was c.in_default.not-Found))

pub returns-in_err-step : goal.returns-in_err-step
returns-in_err-step c = λ t d.
    subst (λ (r : Outcome Stepped). Stepping (step t) c.args.out.now c.args.scratch.now r c.take_step-stepped.new.out c.clear.new.out) (c.in_err-step.was ∙ sym (handed c.from_residual.result c.from_residual.ensures.1))
    (stays (c.take_step-stepped.ensures t d) _ c.take_step-stepped.new.work _ c.take_step-stepped.auto.work c.clear.ensures (not-refused c.in_err-step.was))
