-- `straight::abs_passes` meets its contract: the name is behind the tag, and the only part is what it covers. Assumes nothing.
use native.Mathlib.Omega.{arith}
use Rattle.term.proofs.node.Terms.{at-inside}
use Rattle.straight.proofs.Nodes.{abs-binds, abs-passes}
use Rattle.straight.proofs.abs_passes.Goals as goal

pub once-requires : goal.once-requires
once-requires c = let (w, x, e, a) = c.requires in (w, x, e, abs-binds a _ c.parts_at-row.ensures)

pub overflow_add-at : goal.overflow_add-at
overflow_add-at c = let (w, x, e, a) = c.requires in omega (arith, at-inside _ _ _ a.here)

pub returns : goal.returns
returns c w x e a = abs-passes a _ (c.once.ensures w x e (abs-binds a _ c.parts_at-row.ensures))
