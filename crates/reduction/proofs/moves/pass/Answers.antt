-- `moves::pass` meets its contract: the term goes over, and the search climbs from behind it. Assumes nothing.
use Rattle.reduction.proofs.moves.Passes.{pass-room, done}
use Rattle.reduction.proofs.moves.pass.Goals as goal

pub climb-requires : goal.climb-requires
climb-requires c =
    let a = c.requires in
    (a.0, done a.1 c.copy.ensures)

pub copy-requires : goal.copy-requires
copy-requires c =
    let a = c.requires in
    pass-room a.1

pub returns : goal.returns
returns c = λ w e. c.climb.ensures w (done e c.copy.ensures)
