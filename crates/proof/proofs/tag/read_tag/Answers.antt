-- `tag::read_tag` meets its contract: each return is a case of what reading a tag finds. Assumes nothing.
use native.Mathlib.Omega.{arith}
use mathlib.Core.Path.{sym, ap, ◌∙◌}
use Rattle.std.specs.Prelude.{Err}
use Rattle.laws.specs.Handed.{handed}
use Rattle.proof.proofs.tag.Tags.{shown, tag-out, tag-full, tag_is}
use Rattle.proof.proofs.tag.read_tag.Goals as goal

pub returns-in_err-expect_byte : goal.returns-in_err-expect_byte
returns-in_err-expect_byte c = let a = c.args in
    handed c.from_residual.result c.from_residual.ensures.1 ∙ ap Err c.in_err-expect_byte.ensures.err.1 ∙ sym (tag-out a.s.now a.at a.used a.most c.in_err-expect_byte.ensures.err.0)

pub returns-then-most-used : goal.returns-then-most-used
returns-then-most-used c =
    let a = c.args in
    sym (tag-full a.s.now a.at a.used a.most c.in_ok-expect_byte.ensures.ok (omega arith))

pub returns : goal.returns
returns c = let a = c.args in
    let ok = c.in_ok-expect_byte.ensures.ok in
    c.ok_or.ensures.value
    ∙ ap (λ k. shown a.at k) c.carried_by.ensures
    ∙ sym (tag_is a.s.now a.at a.used a.most ok (omega arith))
