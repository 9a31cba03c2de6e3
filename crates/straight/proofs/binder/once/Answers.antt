-- `binder::once` meets its contract: the part of the list that it seeks is the binder's name. Assumes nothing.
use mathlib.Core.Path.{sym, ◌∙◌}
use borrow.Author.Tests.{true-eqb, false-eqb}
use Rattle.straight.proofs.binder.Binding.{elsewhere, not-once, inside}
use Rattle.straight.proofs.binder.once.Goals as goal
use Rattle.straight.proofs.binder.once.Goals.{then-all-eq1, else-all-eq1}

pub returns-then-single : goal.returns-then-single
returns-then-single c w x e b =
    let sought = c.name-sought.ensures in
    let all = c.uses_in-all.ensures in
    let single = c.if-single.true in
    elim c.if-all-eq1.branch [
      | then-all-eq1 u ↦ inside _ sought _ all b u.if-all-eq1.true (true-eqb _ 1 (sym single ∙ u.single-is)) _ c.uses_in.ensures
      | else-all-eq1 u ↦ absurd (u.if-all-eq1.false (true-eqb _ 1 (sym single ∙ u.single-is)))
    ]

pub returns-else-single : goal.returns-else-single
returns-else-single c w x e b =
    let sought = c.name-sought.ensures in
    let all = c.uses_in-all.ensures in
    let single = c.if-single.false in
    elim c.if-all-eq1.branch [
      | then-all-eq1 u ↦ single ∙ not-once _ sought _ all b u.if-all-eq1.true (false-eqb _ 1 (sym single ∙ u.single-is))
      | else-all-eq1 u ↦ single ∙ elsewhere _ sought _ all b u.if-all-eq1.false
    ]
