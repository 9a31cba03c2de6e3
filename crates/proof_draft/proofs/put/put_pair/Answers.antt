-- `put::put_pair` meets its contract: its row has both parts. Assumes nothing.
use native.Mathlib.Omega.{arith}
use Rattle.proof_draft.proofs.put.put_pair.Goals as goal

pub returns : goal.returns
returns c = λ s a b x y. c.push_row.ensures s a b _ (omega arith) x y
