-- `conclusion::read_index` meets its contract: each return is a case of what reading two bytes finds. Assumes nothing.
use native.Mathlib.Omega.{arith}
use mathlib.Core.Path.{sym, ap, ◌∙◌}
use Rattle.reader.specs.View.{fault}
use Rattle.rules.specs.declared.Reason.TheVariants.{EndsInside}
use Rattle.std.specs.Prelude.{Ok, Err}
use Rattle.laws.specs.Handed.{handed}
use Rattle.proof.specs.Seen.{reached_past_byte}
use Rattle.proof.proofs.conclusion.Bytes.{index-out, index-cut, index_in}
use Rattle.proof.proofs.conclusion.read_index.Goals as goal

pub returns : goal.returns
returns c =
    let a = c.args in
    let e = ap (λ q. q.next) c.past_byte-high.ensures in
    ap Ok (c.past_byte.ensures ∙ ap reached_past_byte c.past_byte-high.ensures)
    ∙ sym (index_in a.s.now a.from c.in_ok-expect_byte.ensures.ok (omega (arith, e, c.in_ok-expect_byte-2.ensures.ok)))

pub returns-in_err-expect_byte : goal.returns-in_err-expect_byte
returns-in_err-expect_byte c =
    let a = c.args in
    let err = c.in_err-expect_byte.ensures.err in
    handed c.from_residual.result c.from_residual.ensures.1 ∙ ap Err err.1 ∙ sym (index-out a.s.now a.from err.0)

pub returns-in_err-expect_byte-2 : goal.returns-in_err-expect_byte-2
returns-in_err-expect_byte-2 c =
    let a = c.args in
    let e = ap (λ q. q.next) c.past_byte-high.ensures in
    let err = c.in_err-expect_byte-2.ensures.err in
    handed c.from_residual-in_err-expect_byte-2.result c.from_residual-in_err-expect_byte-2.ensures.1
    ∙ ap Err err.1
    ∙ ap (λ p. fault EndsInside p) e
    ∙ sym (index-cut a.s.now a.from c.in_ok-expect_byte.ensures.ok (omega (arith, e, err.0)))
