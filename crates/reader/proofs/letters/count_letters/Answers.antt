-- `count_letters` meets its contract: what is counted and what is left make up the whole. Assumes nothing.
use Prim.Native.Nat.{◌-◌}
use native.Mathlib.Omega.{arith}
use mathlib.Core.Path.{◌≡◌, ap, ◌∙◌}
use Rattle.reader.specs.Letters.{letters_from}
use Rattle.reader.proofs.letters.Counts.{count_none, count_most, count-split, grown, summed}
use Rattle.reader.proofs.letters.count_letters.Goals as goal

pub loop-i-preserved : goal.loop-i-preserved
loop-i-preserved c = let l = c.loop-i in let a = c.args in let b = c.block_end-stop.ensures in
    let z = count-split a.s.now l.i c.block_end-stop.result a.to (omega (arith, b.0)) b.1 in
    let m = count_most a.s.now (c.block_end-stop.result - l.i) l.i in
    (l.invariant.0, omega (arith, l.invariant.1, b.0), b.1, grown l.i a.from c.block_end-stop.result l.count c.count_block-part.result _ l.invariant.1 b.0 l.invariant.3 c.count_block-part.ensures m, summed l.count c.count_block-part.result _ _ _ _ c.count_block-part.ensures z l.invariant.4)

pub returns : goal.returns
returns c = let l = c.loop-i in let a = c.args in
    let z : a.to - l.i ≡ 0 = omega arith in
    let y : letters_from a.s.now l.i (a.to - l.i) ≡ 0 = ap (λ m. letters_from a.s.now l.i m) z ∙ count_none a.s.now l.i in
    omega (arith, l.invariant.4, y)
