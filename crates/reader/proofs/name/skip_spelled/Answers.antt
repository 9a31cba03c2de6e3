-- `name::skip_spelled` meets its contract: what its letters come to, and whether they are a word. Assumes nothing.
use Prim.Native.Nat.{◌-◌}
use native.Mathlib.Omega.{arith}
use mathlib.Core.Path.{sym, ap, ◌∙◌}
use mathlib.Core.Bool.{not}
use Rattle.laws.specs.Handed.{handed}
use Rattle.reader.specs.View.{skipped}
use Rattle.reader.specs.Words.{spelling_of}
use Rattle.reader.proofs.class.Name.{spelled-off, spelled-on, spelled-word}
use Rattle.reader.proofs.word.Compared.{allowed-is}
use Rattle.reader.proofs.name.skip_spelled.Goals as goal

pub returns : goal.returns
returns c = let a = c.args in
    λ u. sym (spelled-on (spelling_of a.form) a.s.now u a.at (a.end - a.at) (omega arith) (sym (c.skip_letters.ensures u) ∙ ap (skipped u) c.in_ok-next.was)
    (allowed-is a.form _ ∙ ap not (sym (c.is_word.ensures (omega arith)) ∙ c.if-is_word.false)))

pub returns-in_err-next : goal.returns-in_err-next
returns-in_err-next c = let a = c.args in
    λ u. ap (skipped u) (handed c.from_residual.result c.from_residual.ensures.1) ∙ sym (spelled-off (spelling_of a.form) a.s.now u a.at (a.end - a.at) (omega arith) (sym (c.skip_letters.ensures u) ∙ ap (skipped u) c.in_err-next.was))

pub returns-then-is_plain : goal.returns-then-is_plain
returns-then-is_plain c = let a = c.args in
    λ u. sym (spelled-on (spelling_of a.form) a.s.now u a.at (a.end - a.at) (omega arith) (sym (c.skip_letters.ensures u) ∙ ap (skipped u) c.in_ok-next.was) (c.is_plain.ensures c.if-is_plain.true))

pub returns-then-is_word : goal.returns-then-is_word
returns-then-is_word c = let a = c.args in
    λ u. ap (skipped u) c.fault.ensures
    ∙ sym (spelled-word (spelling_of a.form) a.s.now u a.at (a.end - a.at) (omega arith) (sym (c.skip_letters.ensures u) ∙ ap (skipped u) c.in_ok-next.was)
    (allowed-is a.form _ ∙ ap not (sym (c.is_word.ensures (omega arith)) ∙ c.if-is_word.true)))
