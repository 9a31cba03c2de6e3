-- `name::plain_end` meets its contract: a good length, letters, and no word make a name. Assumes nothing.
use Prim.Native.Nat.{◌+◌}
use native.Mathlib.Omega.{arith}
use mathlib.Core.Path.{sym, ap, ◌∙◌}
use Rattle.reader.specs.View.{skipped}
use Rattle.reader.specs.Words.{spelling_of}
use Rattle.reader.proofs.class.Name.{spelled-on, name-on}
use Rattle.reader.proofs.ahead.Further.{short}
use Rattle.reader.proofs.name.plain_end.Goals as goal

pub is_plain-requires : goal.is_plain-requires
is_plain-requires c = record { alphabet = c.requires.alphabet; at_lt_end = omega (arith, short c.args.form, c.longest_name.ensures) }

pub returns-then-is_plain : goal.returns-then-is_plain
returns-then-is_plain c = let a = c.args in
    λ u.
    sym (spelled-on (spelling_of a.form) a.s.now u (a.at + 1) _ (omega arith) (sym (c.skip_letters.ensures u) ∙ ap (skipped u) c.in-Ok.is) (c.is_plain.ensures c.if-is_plain.true))
    ∙ name-on (spelling_of a.form) a.s.now u a.at (omega arith) (omega arith) (omega (arith, c.longest_name.ensures)) (omega arith) _ (omega arith)
