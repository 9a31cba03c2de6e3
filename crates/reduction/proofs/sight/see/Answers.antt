-- `sight::see` meets its contract: the tag says how many parts are entered, and with the first part's tag whether the node is a redex.
-- Assumes nothing.
use native.Mathlib.Omega.{arith}
use Rattle.term.proofs.node.Terms.{some-names, at-inside, at_small}
use Rattle.reduction.proofs.moves.Sights.{some-row, rests, first_part, tags, redex, inside}
use Rattle.reduction.proofs.sight.see.Goals as goal

pub after_names-start-requires : goal.after_names-start-requires
after_names-start-requires c = some-names _ _ c.requires _ c.names_of.ensures

pub bounds-s-at : goal.bounds-s-at
bounds-s-at c =
    let a = c.requires in
    at-inside _ _ a.0 a.1

pub bounds-s-start : goal.bounds-s-start
bounds-s-start c =
    let b = first_part _ _ _ _ _ c.names_of.ensures c.after_names-start.ensures c.enters_of.ensures c.if-enters_of-eq0.false c.requires in
    at-inside _ _ b.0 b.1

pub enters_of-requires : goal.enters_of-requires
enters_of-requires c =
    let a = c.requires in
    omega (arith, at_small _ _ a.0 a.1)

pub names_of-requires : goal.names_of-requires
names_of-requires c =
    let a = c.requires in
    omega (arith, at_small _ _ a.0 a.1)

pub overflow_add-at : goal.overflow_add-at
overflow_add-at c =
    let a = c.requires in
    omega (arith, at-inside _ _ a.0 a.1)

pub parts_of-requires : goal.parts_of-requires
parts_of-requires c =
    let a = c.requires in
    omega (arith, at_small _ _ a.0 a.1)

pub reduces-requires : goal.reduces-requires
reduces-requires c = tags _ _ _ _ _ c.names_of.ensures c.after_names-start.ensures c.enters_of.ensures c.if-enters_of-eq0.false c.requires

pub returns : goal.returns
returns c = λ t w. inside _ _ _ _ _ c.names_of.ensures c.after_names-start.ensures c.enters_of.ensures c.if-enters_of-eq0.false _ c.reduces.ensures c.if-reduces.false t w

pub returns-then-enters_of-eq0 : goal.returns-then-enters_of-eq0
returns-then-enters_of-eq0 c = λ t w. rests _ _ _ _ _ c.names_of.ensures c.after_names-start.ensures c.enters_of.ensures _ c.parts_of.ensures c.if-enters_of-eq0.true _ c.skip.ensures t w

pub returns-then-reduces : goal.returns-then-reduces
returns-then-reduces c = λ t w. redex _ _ _ _ _ c.names_of.ensures c.after_names-start.ensures c.enters_of.ensures c.if-enters_of-eq0.false _ c.reduces.ensures c.if-reduces.true t w

pub skip-requires : goal.skip-requires
skip-requires c = some-row _ _ _ _ _ c.names_of.ensures c.after_names-start.ensures c.enters_of.ensures _ c.parts_of.ensures c.requires
