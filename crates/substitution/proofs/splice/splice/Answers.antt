-- `splice::splice` meets its contract: whatever the places that are left give, all give, and each turn moves one run and one value.
-- Assumes nothing.
use native.Mathlib.Omega.{arith}
use Rattle.substitution.proofs.splice.Splicing.{begin, run_room, value_room, turn, last-room, done}
use Rattle.substitution.proofs.splice.splice.Goals as goal

pub loop-place-init : goal.loop-place-init
loop-place-init c = begin c.requires c.none-tally.ensures

pub loop-place-preserved : goal.loop-place-preserved
loop-place-preserved c = turn c.loop-place.invariant c.loop-place-test.true c.run-tally.ensures c.value-tally.ensures

pub returns : goal.returns
returns c = done c.loop-place.invariant c.loop-place-test.false c.run.ensures

pub run-requires : goal.run-requires
run-requires c =
    let r = last-room c.loop-place.invariant c.loop-place-test.false in
    (r.0, omega arith, r.1, omega (arith, r.2))

pub run-tally-requires : goal.run-tally-requires
run-tally-requires c =
    let r = run_room c.loop-place.invariant c.loop-place-test.true in
    (r.0, r.1, r.2, omega (arith, r.3))

pub value-tally-requires : goal.value-tally-requires
value-tally-requires c =
    let r = value_room c.loop-place.invariant c.loop-place-test.true c.run-tally.ensures in
    (omega (arith, r.0), r.1, omega (arith, r.2))
