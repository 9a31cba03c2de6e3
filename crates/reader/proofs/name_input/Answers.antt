-- `name_input` meets its contract: each return is a case of what a bare name is. Assumes nothing.
use native.Mathlib.Omega.{arith}
use mathlib.Core.Path.{sym, ap, ◌∙◌}
use Rattle.std.specs.Prelude.{Err}
use Rattle.reader.specs.View.{skipped}
use Rattle.reader.specs.Tables.{letter-classes}
use Rattle.reader.proofs.Bare.{bare-empty, bare-long, bare-good, bare-bad}
use Rattle.reader.proofs.name_input.Goals as goal

pub returns-in-Err : goal.returns-in-Err
returns-in-Err c =
    let a = c.args in
    ap Err c.of_input.ensures
    ∙ sym (bare-bad a.input a.s.now (omega arith) (omega (arith, c.longest_name.ensures)) (sym (c.skip_spelled.ensures 0) ∙ ap (skipped 0) c.in-Err.is))

pub returns-in-Ok : goal.returns-in-Ok
returns-in-Ok c =
    let a = c.args in
    sym (bare-good a.input a.s.now (omega arith) (omega (arith, c.longest_name.ensures)) (sym (c.skip_spelled.ensures 0) ∙ ap (skipped 0) c.in-Ok.is))

pub returns-then-longest_name-s : goal.returns-then-longest_name-s
returns-then-longest_name-s c = let a = c.args in c.refused-then-longest_name-s.ensures ∙ sym (bare-long a.input a.s.now (omega (arith, c.longest_name.ensures)))

pub returns-then-s-lt1 : goal.returns-then-s-lt1
returns-then-s-lt1 c = let a = c.args in c.refused.ensures ∙ sym (bare-empty a.input a.s.now c.if-s-lt1.true)

pub skip_spelled-requires : goal.skip_spelled-requires
skip_spelled-requires c = record { alphabet = rw c.letter_table-t.ensures letter-classes; at_lt_end = omega (arith, c.longest_name.ensures) }
