-- `size::fits` meets its contract: both limits lie below the cap. Assumes nothing.
use Rattle.draft.proofs.write.Sizing.{nodes-kept, nodes-over}
use Rattle.draft.proofs.size.fits.Goals as goal

pub returns-then-size-le-MOST_NODES : goal.returns-then-size-le-MOST_NODES
returns-then-size-le-MOST_NODES c =
    let z = c.measure.ensures.each c.args.part c.requires.1 in
    λ t x. nodes-kept _ t (z.bytes t x) (z.nodes t x) c.if-size-le-MOST_NODES.true

pub returns-else-size-le-MOST_NODES : goal.returns-else-size-le-MOST_NODES
returns-else-size-le-MOST_NODES c =
    let z = c.measure.ensures.each c.args.part c.requires.1 in
    λ t x. nodes-over _ t (z.bytes t x) (z.nodes t x) c.if-size-le-MOST_NODES.false
