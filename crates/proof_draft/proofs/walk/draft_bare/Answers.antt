-- `walk::draft_bare` meets its contract: a row over the first part. Assumes nothing.
use native.Mathlib.Omega.{arith}
use Rattle.proof_draft.proofs.plan.Ruled.{starts-open}
use Rattle.proof_draft.proofs.plan.Planned.{bare_ends}
use Rattle.proof_draft.proofs.walk.draft_bare.Goals as goal

pub put_over-requires : goal.put_over-requires
put_over-requires c = let (s, at, row, k, p, w) = c.requires.1 in ((starts-open w).0, omega arith, omega arith)

pub returns : goal.returns
returns c = λ s at row k b w. bare_ends b c.requires.0 c.put_over.ensures
