-- `moves::climb` meets its contract. The loop's invariant: whatever whole the climb began in, it is behind a term of that whole that has
-- no step. Assumes nothing.
use Rattle.reduction.proofs.moves.Ups.{Climbing}
use Rattle.reduction.proofs.moves.climb.Given as goal

abbrev pub invariant-loop-top : goal.invariant-loop-top
invariant-loop-top l = Climbing l.scratch l.initial.out l.initial.stack l.fn.from l.out l.stack l.o l.i l.top
