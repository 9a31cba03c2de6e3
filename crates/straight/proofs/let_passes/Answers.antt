-- `straight::let_passes` meets its contract: the names are behind the tag, and the second part is what both cover. Assumes nothing.
use mathlib.Core.Path.{refl, sym, ◌∙◌}
use native.Mathlib.Omega.{arith}
use Rattle.term.proofs.node.Names.{some-single}
use Rattle.term.proofs.node.Terms.{at-inside}
use Rattle.straight.proofs.Nodes.{let-pair, first-at, first-binds, second-binds, let-passes}
use Rattle.straight.proofs.let_passes.Goals as goal

pub after_names-second-requires : goal.after_names-second-requires
after_names-second-requires c = let (w, x, y, p, e, a) = c.requires in some-single _ _ (x, first-at a)

pub once-requires : goal.once-requires
once-requires c =
    let (w, x, y, p, e, a) = c.requires in
    (w, x, e, first-binds a _ c.parts_at-row.ensures _ c.skip-body.ensures)

pub once-requires-then-once : goal.once-requires-then-once
once-requires-then-once c =
    let (w, x, y, p, e, a) = c.requires in
    (w, y, e, second-binds a _ c.parts_at-row.ensures _ c.skip-body.ensures _ c.after_names-second.ensures)

pub overflow_add-at : goal.overflow_add-at
overflow_add-at c = let (w, x, y, p, e, a) = c.requires in omega (arith, at-inside _ _ _ a.here)

pub overflow_add-at-2 : goal.overflow_add-at-2
overflow_add-at-2 c = let (w, x, y, p, e, a) = c.requires in omega (arith, at-inside _ _ _ a.here)

pub returns-else-once : goal.returns-else-once
returns-else-once c w x y p e a =
    let b = first-binds a _ c.parts_at-row.ensures _ c.skip-body.ensures in
    c.if-once.false ∙ let-passes a _ _ (sym c.if-once.false ∙ c.once.ensures w x e b) refl

pub returns-then-once : goal.returns-then-once
returns-then-once c w x y p e a =
    let r = c.parts_at-row.ensures in
    let m = c.skip-body.ensures in
    let-passes a _ _ (sym c.if-once.true ∙ c.once.ensures w x e (first-binds a _ r _ m))
    (c.once-then-once.ensures w y e (second-binds a _ r _ m _ c.after_names-second.ensures))

pub skip-body-requires : goal.skip-body-requires
skip-body-requires c = let (w, x, y, p, e, a) = c.requires in let-pair a _ c.parts_at-row.ensures
