-- `straight::all_pass` meets its contract: as the nodes up to here pass, the whole passes if the rest does. Assumes nothing.
use mathlib.Core.Path.{sym, ◌∙◌}
use native.Mathlib.Omega.{arith}
use Rattle.straight.proofs.StraightRows.{begin, finish, one-here, node-here, stop, ahead, few, turn}
use Rattle.straight.proofs.all_pass.Goals as goal

pub loop-left-init : goal.loop-left-init
loop-left-init c = begin _ c.requires

pub loop-left-preserved : goal.loop-left-preserved
loop-left-preserved c =
    turn c.loop-left.invariant c.loop-left-test.true _ c.parts_at-row.ensures
    (λ w t a. sym c.if-not-passes.false ∙ c.passes.ensures w t a)

pub loop-left-smaller : goal.loop-left-smaller
loop-left-smaller c = omega (arith, ahead c.loop-left.invariant c.loop-left-test.true _ c.parts_at-row.ensures)

pub overflow_add-left : goal.overflow_add-left
overflow_add-left c = omega (arith, few c.loop-left.invariant c.loop-left-test.true _ c.parts_at-row.ensures)

pub parts_at-row-requires : goal.parts_at-row-requires
parts_at-row-requires c = one-here c.loop-left.invariant c.loop-left-test.true

pub passes-requires : goal.passes-requires
passes-requires c = node-here c.loop-left.invariant c.loop-left-test.true

pub returns : goal.returns
returns c = finish c.loop-left.invariant (omega arith)

pub returns-then-not-passes : goal.returns-then-not-passes
returns-then-not-passes c = stop c.loop-left.invariant c.loop-left-test.true (λ w t a. sym c.if-not-passes.true ∙ c.passes.ensures w t a)
