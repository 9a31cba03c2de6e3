-- `rule::skip_formulas` meets its contract: where the formulas that are left end, all of them end. Assumes nothing.
use native.Mathlib.Omega.{arith}
use Rattle.rules.specs.Formula.{encode_formula}
use Rattle.proof.proofs.rule.Items.{some_first, skip-none, turn-some, turn-fits, turn-ahead, turn-skip}
use Rattle.proof.proofs.rule.Formulas.{formulas-spelt, spreads}
use Rattle.proof.proofs.rule.skip_formulas.Goals as goal

pub look_formula-f-requires : goal.look_formula-f-requires
look_formula-f-requires c = some_first encode_formula _ _ _ c.loop-left-test.true c.loop-left.invariant.0

pub loop-left-preserved : goal.loop-left-preserved
loop-left-preserved c =
    let l = c.loop-left in
    let t = c.loop-left-test.true in
    let h = spreads _ _ c.look_formula-f.ensures in
    (turn-some formulas-spelt _ _ _ _ _ t h l.invariant.0, λ r f. l.invariant.1 r (turn-skip formulas-spelt _ _ _ _ _ t h r f))

pub loop-left-smaller : goal.loop-left-smaller
loop-left-smaller c = omega (arith, turn-ahead formulas-spelt _ _ _ _ _ c.loop-left-test.true (spreads _ _ c.look_formula-f.ensures) c.loop-left.invariant.0)

pub overflow_add-left : goal.overflow_add-left
overflow_add-left c = omega (arith, turn-fits formulas-spelt _ _ _ _ _ c.loop-left-test.true (spreads _ _ c.look_formula-f.ensures) c.loop-left.invariant.0)

pub returns : goal.returns
returns c = c.loop-left.invariant.1 c.loop-left.i (skip-none encode_formula _ _ _ (omega arith))
