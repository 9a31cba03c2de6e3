-- `substitution::substitute` meets its contract, by its tests in the order of document 01. Assumes nothing.
use Rattle.std.proofs.Common.{sym, ◌∙◌}
use Rattle.laws.specs.Handed.{handed}
use Rattle.substitution.proofs.Answers.{too_short, bad-inputs, ready, worked}
use Rattle.substitution.proofs.substitute.Goals as goal

pub replace-requires : goal.replace-requires
replace-requires c =
    let a = c.args in
    let (h, k) = c.short.ensures.many c.if-short.false in
    let r = ready a.term.now a.name.now a.value.now a.out.now a.scratch.now h k _ _ (sym c.read_inputs.ensures ∙ c.in_ok-inputs.was) in
    (r.t, r.v, r.job)

pub returns : goal.returns
returns c =
    let a = c.args in
    let (h, k) = c.short.ensures.many c.if-short.false in
    let r = ready a.term.now a.name.now a.value.now a.out.now a.scratch.now h k _ _ (sym c.read_inputs.ensures ∙ c.in_ok-inputs.was) in
    let (v, (o, s)) = worked a.term.now a.name.now a.value.now a.out.now a.scratch.now h k _ _ r _ _ _ (c.replace.ensures r.t r.v r.job) in
    record { value = v; out_after = o; scratch_after = s }

pub returns-in_err-inputs : goal.returns-in_err-inputs
returns-in_err-inputs c =
    let a = c.args in
    let (h, k) = c.short.ensures.many c.if-short.false in
    let (v, (o, s)) = bad-inputs a.term.now a.name.now a.value.now a.out.now a.scratch.now h k _ (sym c.read_inputs.ensures ∙ c.in_err-inputs.was) in
    record { value = handed c.from_residual.result c.from_residual.ensures.1 ∙ v; out_after = o; scratch_after = s }

pub returns-then-short : goal.returns-then-short
returns-then-short c =
    let a = c.args in
    let (v, (o, s)) = too_short a.term.now a.name.now a.value.now a.out.now a.scratch.now _ (c.short.ensures.few c.if-short.true) c.of_no_input.ensures in
    record { value = v; out_after = o; scratch_after = s }
