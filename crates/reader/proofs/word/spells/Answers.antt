-- `word::spells` meets its contract: what is left to compare decides. Assumes nothing.
use Prim.Native.Nat.{◌+◌, ◌-◌}
use lib.ListN.{length}
use mathlib.Core.Path.{sym, ◌∙◌}
use native.Mathlib.Omega.{arith}
use Rattle.reader.proofs.word.Compared.{alike_same, alike-off, alike-on}
use Rattle.reader.proofs.word.spells.Goals as goal

pub loop-i-preserved : goal.loop-i-preserved
loop-i-preserved c =
    let a = c.args in
    let l = c.loop-i in
    let i = l.i in
    let n = length a.word.now in (
      omega arith,
      l.invariant.1 ∙ alike-on a.form a.s.now a.word.now (n - i) (n - i - 1) (a.at + i) i (omega arith) (omega arith) (omega arith) _ c.compared_byte.ensures c.if-compared_byte-word.false
          ∙ alike_same a.form a.s.now a.word.now (n - i - 1) (a.at + i + 1) (i + 1) (n - (i + 1)) (a.at + (i + 1)) (i + 1) (omega arith) (omega arith) (omega arith),
    )

pub returns-then-compared_byte-word : goal.returns-then-compared_byte-word
returns-then-compared_byte-word c =
    let a = c.args in
    let l = c.loop-i in
    let i = l.i in
    let n = length a.word.now in
    sym (l.invariant.1 ∙ alike-off a.form a.s.now a.word.now (n - i) (n - i - 1) (a.at + i) i (omega arith) (omega arith) (omega arith) _ c.compared_byte.ensures c.if-compared_byte-word.true)
