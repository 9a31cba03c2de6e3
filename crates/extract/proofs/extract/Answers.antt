-- `extract::extract` meets its contract: the reader's answer says which proof it is, and its term is extracted. Assumes nothing.
use Rattle.std.specs.Prelude.{Err}
use mathlib.Core.Path.{sym, ap, ◌∙◌}
use Rattle.laws.specs.Handed.{handed}
use Rattle.laws.specs.reading.Octets.{octets}
use Rattle.extract.proofs.Calling.{no_room, bad-proof, read, good-proof}
use borrow.Author.Rules.{rules}
use Rattle.extract.proofs.extract.Goals as goal

pub extract_read-requires : goal.extract_read-requires
extract_read-requires c = let a = c.args in
    (_, read a.counter a.proof.now a.out.now a.scratch.now c.short.ensures c.if-short.false _ (octets a.proof.now (λ i. search rules)) (sym c.proof_input.ensures ∙ c.in_ok-rules.was))

pub returns : goal.returns
returns c =
    let a = c.args in
    let o = octets a.proof.now (λ i. search rules) in
    let e = sym c.proof_input.ensures ∙ c.in_ok-rules.was in
    let w = c.short.ensures in
    let h = c.if-short.false in
    let both =
    good-proof a.counter a.proof.now a.out.now a.scratch.now w h _ o e (c.extract_read.ensures _ (read a.counter a.proof.now a.out.now a.scratch.now w h _ o e)) in
    record { value = both.0; out_after = both.1.0; scratch_after = both.1.1 }

pub returns-in_err-rules : goal.returns-in_err-rules
returns-in_err-rules c =
    let a = c.args in
    let both =
    bad-proof a.counter a.proof.now a.out.now a.scratch.now c.short.ensures c.if-short.false _ (sym c.proof_input.ensures ∙ c.in_err-rules.was) in
    record { value = λ es h. handed c.from_residual.result c.from_residual.ensures.1 ∙ both.0 es h; out_after = both.1.0; scratch_after = both.1.1 }

pub returns-then-short : goal.returns-then-short
returns-then-short c =
    let a = c.args in
    let both =
    no_room a.counter a.proof.now a.out.now a.scratch.now c.short.ensures c.if-short.true (ap Err c.of_no_input.ensures) in
    record { value = both.0; out_after = both.1.0; scratch_after = both.1.1 }
