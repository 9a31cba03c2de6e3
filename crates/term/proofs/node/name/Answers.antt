-- `node::name` meets its contract: the part that it gives is the name. Assumes nothing.
use Rattle.term.proofs.node.Names.{name-room}
use Rattle.term.proofs.node.name.Goals as goal

pub slice_bounds-result-end : goal.slice_bounds-result-end
slice_bounds-result-end c = name-room c.args.s.now c.args.at c.requires
