-- `uses::uses_in` meets its contract: whatever the terms that are left have, all of them have that and what was met.
-- Assumes nothing.
use native.Mathlib.Omega.{arith}
use Rattle.straight.proofs.uses.TermRows.{begin, finish, one-here, room, few, turn}
use Rattle.straight.proofs.uses.uses_in.Goals as goal

pub loop-left-init : goal.loop-left-init
loop-left-init c = begin _ _ _ c.requires

pub loop-left-preserved : goal.loop-left-preserved
loop-left-preserved c = turn c.loop-left.invariant c.loop-left-test.true _ c.uses_at-own.ensures

pub loop-left-smaller : goal.loop-left-smaller
loop-left-smaller c =
    let g = c.loop-left.invariant in
    omega (arith, room g c.loop-left-test.true _ c.uses_at-own.ensures)

pub overflow_add-left : goal.overflow_add-left
overflow_add-left c = omega (arith, few c.loop-left.invariant c.loop-left-test.true _ c.uses_at-own.ensures)

pub overflow_add-stands : goal.overflow_add-stands
overflow_add-stands c =
    let g = c.loop-left.invariant in
    omega (arith, g.past, room g c.loop-left-test.true _ c.uses_at-own.ensures)

pub overflow_add-uses : goal.overflow_add-uses
overflow_add-uses c =
    let g = c.loop-left.invariant in
    omega (arith, g.past, room g c.loop-left-test.true _ c.uses_at-own.ensures)

pub returns : goal.returns
returns c = finish c.loop-left.invariant (omega arith)

pub uses_at-own-requires : goal.uses_at-own-requires
uses_at-own-requires c = one-here c.loop-left.invariant c.loop-left-test.true
