-- `span::span_row` meets its contract: whatever the terms that are left have, all of them have that and what was met.
-- Assumes nothing.
use native.Mathlib.Omega.{arith}
use Rattle.term.proofs.node.Terms.{some_first, turn-fits, turn-ahead}
use Rattle.term.proofs.span.Extents.{done, turn}
use Rattle.term.proofs.span.span_row.Goals as goal

pub loop-left-preserved : goal.loop-left-preserved
loop-left-preserved c = turn _ _ _ _ _ _ _ _ c.loop-left.invariant c.parts_at-row.ensures c.loop-left-test.true

pub loop-left-smaller : goal.loop-left-smaller
loop-left-smaller c = omega (arith, turn-ahead _ _ _ _ _ c.parts_at-row.ensures c.loop-left-test.true c.loop-left.invariant.some)

pub overflow_add-left : goal.overflow_add-left
overflow_add-left c = omega (arith, turn-fits _ _ _ _ _ c.parts_at-row.ensures c.loop-left-test.true c.loop-left.invariant.some)

pub overflow_add-nodes : goal.overflow_add-nodes
overflow_add-nodes c = let l = c.loop-left in omega (arith, turn-ahead _ _ _ _ _ c.parts_at-row.ensures c.loop-left-test.true l.invariant.some, l.invariant.past)

pub parts_at-row-requires : goal.parts_at-row-requires
parts_at-row-requires c = some_first _ _ _ c.loop-left-test.true c.loop-left.invariant.some

pub returns : goal.returns
returns c = done _ _ _ _ _ _ c.loop-left.invariant (omega arith)
