-- `put::put_in` meets its contract: the sizes are those of the new whole, and the runs are the bytes of the result.
-- Assumes nothing.
use Rattle.substitution.proofs.put.Puts.{nodes-room, bytes-room, too_many, too_long, splicing, put_whole}
use Rattle.substitution.proofs.put.put_in.Goals as goal

pub grown-requires : goal.grown-requires
grown-requires c = bytes-room c.requires.putting.3

pub grown-nodes-requires : goal.grown-nodes-requires
grown-nodes-requires c = nodes-room c.requires.putting.3

pub returns : goal.returns
returns c = λ x e v j. put_whole j c.grown-nodes.ensures c.if-nodes-gt-MOST_NODES.false c.grown.ensures c.if-grown-gt-MOST_BYTES.false c.requires.room c.splice-tally.ensures

pub returns-then-grown-gt-MOST_BYTES : goal.returns-then-grown-gt-MOST_BYTES
returns-then-grown-gt-MOST_BYTES c = λ x e v j. too_long j c.grown-nodes.ensures c.if-nodes-gt-MOST_NODES.false c.grown.ensures c.if-grown-gt-MOST_BYTES.true

pub returns-then-nodes-gt-MOST_NODES : goal.returns-then-nodes-gt-MOST_NODES
returns-then-nodes-gt-MOST_NODES c = λ x e v j. too_many j c.grown-nodes.ensures c.if-nodes-gt-MOST_NODES.true

pub splice-tally-requires : goal.splice-tally-requires
splice-tally-requires c = splicing c.requires.putting.3 c.grown-nodes.ensures c.if-nodes-gt-MOST_NODES.false c.grown.ensures c.if-grown-gt-MOST_BYTES.false c.requires.room
