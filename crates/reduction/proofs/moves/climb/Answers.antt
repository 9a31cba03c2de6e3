-- `moves::climb` meets its contract. The loop's invariant: whatever whole the climb began in, it is behind a term of that whole that has
-- no step. Assumes nothing.
use mathlib.Core.Path.{◌∙◌}
use native.Mathlib.Omega.{arith}
use Rattle.reduction.proofs.moves.Marks.{start-inside, tag_small}
use Rattle.reduction.proofs.moves.Tops.{top, ended, few, in_stack, under}
use Rattle.reduction.proofs.moves.Ups.{goes_on, from_second, to-second, some-part, some-row, up_room, from_first}
use Rattle.reduction.proofs.moves.climb.Goals as goal

pub bounds-out-start : goal.bounds-out-start
bounds-out-start c =
    let a = c.requires in
    let k = top (c.loop-top.invariant.carries a.0 a.1) c.loop-top-test.true in
    start-inside (under k) c.in-Some.is

pub bounds : goal.bounds
bounds c =
    let a = c.requires in
    let k = top (c.loop-top.invariant.carries a.0 a.1) c.loop-top-test.true in
    in_stack k

pub copy-o-requires : goal.copy-o-requires
copy-o-requires c =
    let a = c.requires in
    let k = top (c.loop-top.invariant.carries a.0 a.1) c.loop-top-test.true in
    up_room k c.in-Some.is _ c.enters_of.ensures _ c.parts_of.ensures _ c.skip-next.ensures

pub enters_of-requires : goal.enters_of-requires
enters_of-requires c =
    let a = c.requires in
    let k = top (c.loop-top.invariant.carries a.0 a.1) c.loop-top-test.true in
    omega (arith, tag_small (under k) c.in-Some.is)

pub loop-top-preserved : goal.loop-top-preserved
loop-top-preserved c =
    let a = c.requires in
    let k = top (c.loop-top.invariant.carries a.0 a.1) c.loop-top-test.true in
    record {
      same_out = c.copy-o.auto.out ∙ c.loop-top.invariant.same_out;
      same-stack = c.loop-top.invariant.same-stack;
      past = omega (arith, c.loop-top.invariant.past, up_room k c.in-Some.is _ c.enters_of.ensures _ c.parts_of.ensures _ c.skip-next.ensures);
      carries = λ w d. from_first (top (c.loop-top.invariant.carries w d) c.loop-top-test.true) c.in-Some.is _ c.enters_of.ensures _ c.parts_of.ensures _ c.skip-next.ensures c.if-enters_of-eq2.false c.copy-o.ensures;
    }

pub loop-top-preserved-in_default : goal.loop-top-preserved-in_default
loop-top-preserved-in_default c =
    record {
      same_out = c.loop-top.invariant.same_out;
      same-stack = c.loop-top.invariant.same-stack;
      past = c.loop-top.invariant.past;
      carries = λ w d. from_second (top (c.loop-top.invariant.carries w d) c.loop-top-test.true) c.in_default.is;
    }

pub offset_bounds-stack-top : goal.offset_bounds-stack-top
offset_bounds-stack-top c =
    let a = c.requires in
    let k = top (c.loop-top.invariant.carries a.0 a.1) c.loop-top-test.true in
    omega (arith, few k)

pub overflow_sub-parts_of : goal.overflow_sub-parts_of
overflow_sub-parts_of c =
    let a = c.requires in
    let k = top (c.loop-top.invariant.carries a.0 a.1) c.loop-top-test.true in
    some-part k c.in-Some.is _ c.enters_of.ensures _ c.parts_of.ensures

pub parts_of-requires : goal.parts_of-requires
parts_of-requires c =
    let a = c.requires in
    let k = top (c.loop-top.invariant.carries a.0 a.1) c.loop-top-test.true in
    omega (arith, tag_small (under k) c.in-Some.is)

pub returns : goal.returns
returns c = λ w d. ended (c.loop-top.invariant.carries w d) (omega (arith, c.loop-top-test.false))

pub returns-then-enters_of-eq2 : goal.returns-then-enters_of-eq2
returns-then-enters_of-eq2 c = λ w d. goes_on _ c.loop-top.invariant.past (omega (arith, c.loop-top-test.true)) (to-second (top (c.loop-top.invariant.carries w d) c.loop-top-test.true) c.in-Some.is _ c.enters_of.ensures c.if-enters_of-eq2.true)

pub skip-next-requires : goal.skip-next-requires
skip-next-requires c =
    let a = c.requires in
    let k = top (c.loop-top.invariant.carries a.0 a.1) c.loop-top-test.true in
    some-row k c.in-Some.is _ c.enters_of.ensures _ c.parts_of.ensures
