-- `check_within` meets its contract: each return is a case of what a whole input is. Assumes nothing.
use native.Mathlib.Omega.{arith}
use mathlib.Core.Path.{sym, ap, ◌∙◌}
use Rattle.std.specs.Prelude.{Err}
use Rattle.reader.proofs.Whole.{whole_long, whole-bad, whole-more, whole-good}
use Rattle.reader.proofs.check_within.Goals as goal

pub returns-else-past-s : goal.returns-else-past-s
returns-else-past-s c =
    let a = c.args in
    λ L b m. sym (whole-good a.form a.input a.s.now L b m (omega arith) (sym (c.read_from.ensures a.most (omega arith)) ∙ c.in-Ok.is) (omega arith))

pub returns-in-Err : goal.returns-in-Err
returns-in-Err c =
    let a = c.args in
    λ L b m. ap Err c.of_input.ensures ∙ sym (whole-bad a.form a.input a.s.now L b m (omega arith) (sym (c.read_from.ensures a.most (omega arith)) ∙ c.in-Err.is))

pub returns-then-bytes-s : goal.returns-then-bytes-s
returns-then-bytes-s c = let a = c.args in λ L b m. c.refused.ensures ∙ sym (whole_long a.form a.input a.s.now L b m c.if-bytes-s.true)

pub returns-then-past-s : goal.returns-then-past-s
returns-then-past-s c =
    let a = c.args in
    λ L b m. c.refused-then-past-s.ensures ∙ sym (whole-more a.form a.input a.s.now L b m (omega arith) (sym (c.read_from.ensures a.most (omega arith)) ∙ c.in-Ok.is) (omega arith))
