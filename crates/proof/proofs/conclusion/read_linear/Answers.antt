-- `conclusion::read_linear` meets its contract: a byte, then as many formulas. Assumes nothing.
use mathlib.Core.Path.{sym, ap, ◌∙◌}
use lib.ListN.{get_or}
use Rattle.std.specs.Prelude.{Err}
use Rattle.laws.specs.Handed.{handed}
use Rattle.proof.specs.Seen.{seen, found, within}
use Rattle.proof.specs.Stages.{row_of}
use Rattle.proof.proofs.conclusion.Bytes.{linear-out, linear-in}
use Rattle.proof.proofs.conclusion.read_linear.Goals as goal

pub returns-in_err-expect_byte : goal.returns-in_err-expect_byte
returns-in_err-expect_byte c =
    let a = c.args in
    let err = c.in_err-expect_byte.ensures.err in
    handed c.from_residual.result c.from_residual.ensures.1 ∙ ap Err err.1 ∙ sym (linear-out a.s.now a.from (within a.most) err.0)

pub returns : goal.returns
returns c = let a = c.args in
    c.read_formulas.ensures
    ∙ ap (λ q. seen (found (row_of (within a.most) (get_or a.s.now a.from.next 0)) a.s.now q)) c.past_byte.ensures
    ∙ sym (linear-in a.s.now a.from (within a.most) c.in_ok-expect_byte.ensures.ok)
