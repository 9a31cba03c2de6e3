-- `put::push_row` meets its contract: the part that was made is what its row makes of two parts. Assumes nothing.
use Rattle.proof_draft.proofs.put.Putting.{put-new}
use Rattle.proof_draft.proofs.put.push_row.Goals as goal

pub returns : goal.returns
returns c = λ s a b n l x y. put-new c.requires.0 c.requires.3 c.put_row.ensures l x y
