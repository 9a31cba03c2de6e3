-- `read_resting` meets its contract: each return is a case of what a whole input is. Assumes nothing.
use native.Mathlib.Omega.{arith}
use mathlib.Core.Path.{sym, ap, ◌∙◌}
use Rattle.std.specs.Prelude.{Ok}
use Rattle.redex.proofs.read.Whole.{too_long, left_over, good, is-term, not-read}
use Rattle.redex.proofs.read.read_resting.Goals as goal

pub accepted-requires-clause-s_value : goal.accepted-requires-clause-s_value
accepted-requires-clause-s_value c = is-term c.args.s.now c.args.input (omega arith) _ c.read_on.ensures c.in-Ok.is (omega arith)

pub returns-else-past-s : goal.returns-else-past-s
returns-else-past-s c =
    record {
      says = ap Ok c.accepted.ensures.0 ∙ sym (good c.args.s.now c.args.input (omega arith) _ c.read_on.ensures c.in-Ok.is (omega arith));
      calm = c.accepted.ensures.1;
    }

pub returns-in-Err : goal.returns-in-Err
returns-in-Err c = not-read c.args.s.now c.args.input (omega arith) _ c.read_on.ensures _ _ c.in-Err.is c.of_input.ensures

pub returns-then-past-s : goal.returns-then-past-s
returns-then-past-s c = rw c.refused-then-past-s.ensures (left_over c.args.s.now c.args.input (omega arith) _ c.read_on.ensures c.in-Ok.is (omega arith))

pub returns-then-s-gt-MOST_BYTES : goal.returns-then-s-gt-MOST_BYTES
returns-then-s-gt-MOST_BYTES c = rw c.refused.ensures (too_long c.args.s.now c.args.input c.if-s-gt-MOST_BYTES.true)
