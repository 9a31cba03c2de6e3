-- `name::skip_name` meets its contract: each return is a case of what reading a name finds. Assumes nothing.
use native.Mathlib.Omega.{arith}
use mathlib.Core.Path.{sym, ap, ◌∙◌}
use Rattle.reader.specs.View.{skipped}
use Rattle.reader.specs.Words.{spelling_of}
use Rattle.reader.proofs.class.Name.{name_out, name-small, name-big, name-short, name-on}
use Rattle.reader.proofs.ahead.Further.{short}
use Rattle.reader.proofs.name.skip_name.Goals as goal

pub returns : goal.returns
returns c =
    let a = c.args in
    λ u. c.skip_spelled.ensures u ∙ name-on (spelling_of a.form) a.s.now u a.at (omega arith) (omega arith) (omega (arith, c.longest_name.ensures)) (omega arith) _ (omega arith)

pub returns-then-left-n : goal.returns-then-left-n
returns-then-left-n c = let a = c.args in λ u. ap (skipped u) c.fault-then-left-n.ensures ∙ sym (name-short (spelling_of a.form) a.s.now u a.at (omega arith) (omega arith) (omega (arith, c.longest_name.ensures)) (omega arith))

pub returns-then-longest_name-n : goal.returns-then-longest_name-n
returns-then-longest_name-n c = let a = c.args in λ u. ap (skipped u) c.fault-then-longest_name-n.ensures ∙ sym (name-big (spelling_of a.form) a.s.now u a.at (omega arith) (omega (arith, c.longest_name.ensures)))

pub returns-then-n-lt1 : goal.returns-then-n-lt1
returns-then-n-lt1 c = let a = c.args in λ u. ap (skipped u) c.fault-then-n-lt1.ensures ∙ sym (name-small (spelling_of a.form) a.s.now u a.at (omega arith) (omega arith))

pub returns-then-s-at : goal.returns-then-s-at
returns-then-s-at c = let a = c.args in λ u. ap (skipped u) c.fault.ensures ∙ sym (name_out (spelling_of a.form) a.s.now u a.at (omega arith))

pub skip_spelled-requires : goal.skip_spelled-requires
skip_spelled-requires c = record { alphabet = c.requires; at_lt_end = omega (arith, short c.args.form, c.longest_name.ensures) }
