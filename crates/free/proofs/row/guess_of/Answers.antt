-- `row::guess_of` meets its contract: a rest by the number of guesses is below it. Assumes nothing.
use native.Mathlib.Omega.{arith}
use Rattle.term.proofs.node.Names.{name-room}
use Rattle.free.proofs.row.guess_of.Goals as goal

pub bounds-s-last : goal.bounds-s-last
bounds-s-last c = omega (arith, name-room _ c.args.at c.requires)

pub bounds-s-middle : goal.bounds-s-middle
bounds-s-middle c = omega (arith, name-room _ c.args.at c.requires)
