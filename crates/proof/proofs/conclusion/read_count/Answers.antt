-- `conclusion::read_count` meets its contract: each return is a case of what reading the count finds. Assumes nothing.
use native.Mathlib.Omega.{arith}
use mathlib.Core.Path.{sym, ap, ◌∙◌}
use lib.ListN.{get_or}
use Rattle.std.specs.Prelude.{Err}
use Rattle.laws.specs.Handed.{handed}
use Rattle.proof.specs.Seen.{before}
use Rattle.proof.proofs.conclusion.Bytes.{count-out, count-over, count-in}
use Rattle.proof.proofs.conclusion.read_count.Goals as goal

pub returns-in_err-expect_byte : goal.returns-in_err-expect_byte
returns-in_err-expect_byte c =
    let a = c.args in
    let err = c.in_err-expect_byte.ensures.err in
    handed c.from_residual.result c.from_residual.ensures.1 ∙ ap Err err.1 ∙ sym (count-out a.s.now a.from err.0)

pub returns-then-premises-gt3 : goal.returns-then-premises-gt3
returns-then-premises-gt3 c =
    let a = c.args in
    let ok = c.in_ok-expect_byte.ensures.ok in
    sym (count-over a.s.now a.from ok (omega arith))

pub returns : goal.returns
returns c =
    let a = c.args in
    let ok = c.in_ok-expect_byte.ensures.ok in
    ap (λ q. before q (get_or a.s.now a.from.next 0)) c.past_byte.ensures
    ∙ sym (count-in a.s.now a.from ok (omega arith))
