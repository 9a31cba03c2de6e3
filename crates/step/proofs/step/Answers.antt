-- `step::step` meets its contract, by its tests in the order of document 01. Assumes nothing.
use Rattle.std.proofs.Common.{sym, ◌∙◌}
use Rattle.laws.specs.Handed.{handed}
use Rattle.step.proofs.Calling.{too_short, not-read, read, stepped}
use Rattle.step.proofs.step.Goals as goal

pub returns : goal.returns
returns c =
    let a = c.args in
    let (h, k) = c.short.ensures.many c.if-short.false in
    let e = sym c.term_input.ensures ∙ c.in_ok-nodes.was in
    let w = read a.term.now a.out.now a.scratch.now h k _ e in
    let (v, (o, s)) = stepped a.term.now a.out.now a.scratch.now h k _ e _ _ _ (c.step_read.ensures w.0 w.1) in
    record { value = v; out_after = o; scratch_after = s }

pub returns-in_err-nodes : goal.returns-in_err-nodes
returns-in_err-nodes c =
    let a = c.args in
    let (h, k) = c.short.ensures.many c.if-short.false in
    let (v, (o, s)) = not-read a.term.now a.out.now a.scratch.now h k _ (sym c.term_input.ensures ∙ c.in_err-nodes.was) in
    record { value = handed c.from_residual.result c.from_residual.ensures.1 ∙ v; out_after = o; scratch_after = s }

pub returns-then-short : goal.returns-then-short
returns-then-short c =
    let a = c.args in
    let (v, (o, s)) = too_short a.term.now a.out.now a.scratch.now (c.short.ensures.few c.if-short.true) _ c.of_no_input.ensures in
    record { value = v; out_after = o; scratch_after = s }

pub step_read-requires : goal.step_read-requires
step_read-requires c =
    let a = c.args in
    let (h, k) = c.short.ensures.many c.if-short.false in
    (read a.term.now a.out.now a.scratch.now h k _ (sym c.term_input.ensures ∙ c.in_ok-nodes.was), k)
