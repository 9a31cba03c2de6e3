-- `walk::take_leaf` meets its contract: the part that the plan tells. Assumes nothing.
use Rattle.proof_draft.proofs.plan.Planned.{plan-some, leaf-ends}
use Rattle.proof_draft.proofs.walk.take_leaf.Goals as goal

pub returns : goal.returns
returns c = λ at row k ws b w. leaf-ends b c.requires.0 c.skip_proofs.ensures

pub skip_proofs-requires : goal.skip_proofs-requires
skip_proofs-requires c = let (at, row, k, ws, p, w) = c.requires.1 in plan-some p w
