-- `proof_input` meets its contract: each return is a case of what a whole input is. Assumes nothing.
use native.Mathlib.Omega.{arith}
use borrow.Author.Rules.{rules}
use mathlib.Core.Path.{sym, ap, ◌∙◌}
use Rattle.std.specs.Prelude.{Err}
use Rattle.rules.specs.Limits.{limits}
use Rattle.laws.specs.reading.Octets.{octets}
use Rattle.proof.proofs.Whole.{whole_long, whole-bad, whole-end}
use Rattle.proof.proofs.proof_input.Goals as goal

pub returns-then-s-gt-MOST_BYTES : goal.returns-then-s-gt-MOST_BYTES
returns-then-s-gt-MOST_BYTES c = let a = c.args in c.refused.ensures ∙ sym (whole_long a.input a.s.now c.if-s-gt-MOST_BYTES.true)

pub returns-in-Ok : goal.returns-in-Ok
returns-in-Ok c = let a = c.args in
    c.at_end.ensures
    ∙ sym (whole-end a.input a.s.now (omega arith) (sym (c.read_rule.ensures limits.rules (omega arith)) ∙ sym c.told.ensures ∙ c.in-Ok.is)
    (octets a.s.now (λ i. search rules)))

pub returns-in-Err : goal.returns-in-Err
returns-in-Err c = let a = c.args in
    ap Err c.of_input.ensures ∙ sym (whole-bad a.input a.s.now (omega arith) (sym (c.read_rule.ensures limits.rules (omega arith)) ∙ sym c.told.ensures ∙ c.in-Err.is))
