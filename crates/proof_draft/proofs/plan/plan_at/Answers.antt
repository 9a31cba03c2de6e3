-- `plan::plan_at` meets its contract: its numbers are those of the rule that a look at it told. Assumes nothing.
use Rattle.proof_draft.proofs.plan.Acting.{plan-tells}
use Rattle.proof_draft.proofs.plan.plan_at.Goals as goal

pub returns : goal.returns
returns c = record { tells = λ p w. plan-tells p (c.look_rule-rule.ensures p w) c.act_of.ensures }
