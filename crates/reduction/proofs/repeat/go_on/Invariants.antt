-- `repeat::go_on` meets its contract. The loop's invariant: what the rules leave to do, of the whole in which the search stands.
-- The measure is what is left of the limit. Assumes nothing.
use Prim.Native.Nat.{◌-◌}
use Rattle.rules.specs.Term.{Term}
use Rattle.reduction.specs.Turning.{Stands}
use Rattle.reduction.proofs.repeat.Turns.{Kept}
use Rattle.reduction.proofs.repeat.go_on.Given as goal

abbrev pub invariant-loop-length : goal.invariant-loop-length
invariant-loop-length l =
    Kept l.initial.out l.initial.scratch l.initial.stack l.out l.scratch l.stack
    × ((t : Term) → Stands l.limit t l.initial.out l.initial.scratch l.initial.stack l.fn.from → Stands l.limit t l.out l.scratch l.stack l.course)

abbrev pub decreases-loop-length : goal.decreases-loop-length
decreases-loop-length l = l.limit - l.course.steps
