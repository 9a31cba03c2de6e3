-- `name::name_len` meets its contract: a stem has at most 255 bytes, and a number 20 digits. Assumes nothing.
use native.Mathlib.Omega.{arith}
use Rattle.draft.proofs.row.Numbering.{numbered-few}
use Rattle.draft.proofs.row.Stems.{name-length}
use Rattle.draft.proofs.name.name_len.Goals as goal

pub overflow_add-result : goal.overflow_add-result
overflow_add-result c = let a = c.args in omega (arith, c.stem_len.ensures.1, c.number_len.ensures, numbered-few a.number (omega arith))

pub returns : goal.returns
returns c = let a = c.args in (omega (arith, c.stem_len.ensures.0, c.number_len.ensures, name-length a.s.now a.stem a.number), omega (arith, c.stem_len.ensures.1, c.number_len.ensures, numbered-few a.number (omega arith)))
