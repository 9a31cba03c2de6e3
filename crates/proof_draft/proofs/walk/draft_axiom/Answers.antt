-- `walk::draft_axiom` meets its contract: the name that was found is the one that the rule takes. Assumes nothing.
use Rattle.proof_draft.proofs.plan.Ruled.{starts-open}
use Rattle.proof_draft.proofs.plan.Planned.{plan-some, axiom-begins, axiom-ends}
use Rattle.proof_draft.proofs.walk.draft_axiom.Goals as goal

pub axiom_name-name-requires : goal.axiom_name-name-requires
axiom_name-name-requires c = let (at, p, w) = c.requires.1 in axiom-begins p w

pub skip_proofs-next-requires : goal.skip_proofs-next-requires
skip_proofs-next-requires c = let (at, p, w) = c.requires.1 in plan-some p w

pub put_identity-requires : goal.put_identity-requires
put_identity-requires c = let (at, p, w) = c.requires.1 in let o = starts-open w in (o.0, o.1, c.axiom_name-name.ensures.1)

pub returns : goal.returns
returns c = λ at b w. axiom-ends b c.axiom_name-name.result c.requires.0 c.skip_proofs-next.ensures c.axiom_name-name.ensures.0 (c.put_identity.ensures _)
