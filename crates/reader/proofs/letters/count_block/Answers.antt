-- `count_block` meets its contract: what is counted and what is left make up the whole. Assumes nothing.
use Prim.Native.Nat.{◌+◌, ◌-◌}
use native.Mathlib.Omega.{arith}
use mathlib.Core.Path.{◌≡◌, ap, ◌∙◌}
use lib.ListN.{get_or}
use Rattle.rules.specs.Name.{follows}
use Rattle.reader.specs.Letters.{letters_from}
use Rattle.reader.proofs.letters.Counts.{count_none, count_next, one-most}
use Rattle.reader.proofs.letters.count_block.Goals as goal

pub loop-i-preserved : goal.loop-i-preserved
loop-i-preserved c = let l = c.loop-i in let a = c.args in
    let z = count_next a.s.now l.i (a.to - (l.i + 1)) (a.to - l.i) (omega arith) in
    (l.invariant.0, omega (arith, l.invariant.1), omega arith, omega (arith, l.invariant.3, l.invariant.1, c.letter-count.ensures, one-most (follows (get_or a.s.now l.i 0))), l.invariant.4, omega (arith, l.invariant.5, z, c.letter-count.ensures))

pub returns : goal.returns
returns c = let l = c.loop-i in let a = c.args in
    let z : a.to - l.i ≡ 0 = omega arith in
    let y : letters_from a.s.now l.i (a.to - l.i) ≡ 0 = ap (λ m. letters_from a.s.now l.i m) z ∙ count_none a.s.now l.i in
    omega (arith, l.invariant.5, y)
