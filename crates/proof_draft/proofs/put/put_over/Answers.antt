-- `put::put_over` meets its contract: the part as it is, or a row over it. Assumes nothing.
use native.Mathlib.Omega.{arith}
use Rattle.proof_draft.proofs.put.put_over.Goals as goal

pub returns-in-Some : goal.returns-in-Some
returns-in-Some c = λ s t d. rw c.in-Some.is (c.push_row.ensures s t t _ (omega arith) d d)
