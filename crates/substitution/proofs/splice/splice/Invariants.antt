-- `splice::splice` meets its contract: whatever the places that are left give, all give, and each turn moves one run and one value.
-- Assumes nothing.
use Prim.Native.Nat.{◌-◌}
use lib.ListN.{length}
use Rattle.substitution.proofs.splice.Splicing.{Going}
use Rattle.substitution.proofs.splice.splice.Given as goal

abbrev pub invariant-loop-place : goal.invariant-loop-place
invariant-loop-place l = Going l.body l.places l.gap l.value l.initial.out l.out l.tally l.place-index

abbrev pub decreases-loop-place : goal.decreases-loop-place
decreases-loop-place l = length l.places - l.place-index
