-- `name::x_len` meets its contract: one byte, and at most 20 digits. Assumes nothing.
use native.Mathlib.Omega.{arith}
use Rattle.draft.proofs.row.Numbering.{count-some, x-length}
use Rattle.draft.proofs.name.x_len.Goals as goal

pub overflow_add-result : goal.overflow_add-result
overflow_add-result c = let a = c.args in omega (arith, c.digit_count.ensures, count-some a.number (omega arith))

pub returns : goal.returns
returns c = let a = c.args in (omega (arith, c.digit_count.ensures, x-length a.number), omega (arith, c.digit_count.ensures, count-some a.number (omega arith)))
