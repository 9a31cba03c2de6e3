-- `rule::skip_proofs` meets its contract: where the proofs that are left end, all of them end. Assumes nothing.
use native.Mathlib.Omega.{arith}
use Rattle.rules.specs.Proof.{encode_proof}
use Rattle.proof.proofs.rule.Items.{some_first, skip-none, turn-some, turn-fits, turn-ahead, turn-skip}
use Rattle.proof.proofs.rule.Rules.{proofs-spelt, tells}
use Rattle.proof.proofs.rule.skip_proofs.Goals as goal

pub look_rule-rule-requires : goal.look_rule-rule-requires
look_rule-rule-requires c = some_first encode_proof _ _ _ c.loop-left-test.true c.loop-left.invariant.0

pub loop-left-preserved : goal.loop-left-preserved
loop-left-preserved c =
    let l = c.loop-left in
    let t = c.loop-left-test.true in
    let h = tells _ _ c.look_rule-rule.ensures in
    (turn-some proofs-spelt _ _ _ _ _ t h l.invariant.0, λ r f. l.invariant.1 r (turn-skip proofs-spelt _ _ _ _ _ t h r f))

pub loop-left-smaller : goal.loop-left-smaller
loop-left-smaller c = omega (arith, turn-ahead proofs-spelt _ _ _ _ _ c.loop-left-test.true (tells _ _ c.look_rule-rule.ensures) c.loop-left.invariant.0)

pub overflow_add-left : goal.overflow_add-left
overflow_add-left c = omega (arith, turn-fits proofs-spelt _ _ _ _ _ c.loop-left-test.true (tells _ _ c.look_rule-rule.ensures) c.loop-left.invariant.0)

pub returns : goal.returns
returns c = c.loop-left.invariant.1 c.loop-left.i (skip-none encode_proof _ _ _ (omega arith))
