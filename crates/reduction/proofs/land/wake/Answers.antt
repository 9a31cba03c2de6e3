-- `land::wake` meets its contract: by the mark and the two tags, the search stays at the new term, or stands at the node above.
-- Assumes nothing.
use native.Mathlib.Omega.{arith}
use Rattle.reduction.proofs.moves.Marks.{start-inside, tag_small}
use Rattle.reduction.proofs.land.Waking.{nearest, in-scratch, new-small, few, in_stack, under, stays-first, back-room, wakes}
use Rattle.reduction.proofs.land.wake.Goals as goal

pub bounds-out-start : goal.bounds-out-start
bounds-out-start c =
    let a = c.requires in
    let k = nearest a.1 c.if-here-eq0.false in
    start-inside (under k) c.in-Some.is

pub bounds-scratch-i : goal.bounds-scratch-i
bounds-scratch-i c =
    let a = c.requires in
    let k = nearest a.1 c.if-here-eq0.false in
    in-scratch k

pub bounds : goal.bounds
bounds c =
    let a = c.requires in
    let k = nearest a.1 c.if-here-eq0.false in
    in_stack k

pub copy-requires : goal.copy-requires
copy-requires c =
    let a = c.requires in
    let k = nearest a.1 c.if-here-eq0.false in
    let r = back-room k c.in-Some.is in
    (r.0, r.2, r.3)

pub offset_bounds-stack-top : goal.offset_bounds-stack-top
offset_bounds-stack-top c =
    let a = c.requires in
    let k = nearest a.1 c.if-here-eq0.false in
    omega (arith, few k)

pub overflow_sub-back : goal.overflow_sub-back
overflow_sub-back c =
    let a = c.requires in
    let k = nearest a.1 c.if-here-eq0.false in
    (back-room k c.in-Some.is).0

pub overflow_sub-back-then-reduces : goal.overflow_sub-back-then-reduces
overflow_sub-back-then-reduces c =
    let a = c.requires in
    let k = nearest a.1 c.if-here-eq0.false in
    (back-room k c.in-Some.is).1

pub reduces-requires : goal.reduces-requires
reduces-requires c =
    let a = c.requires in
    let k = nearest a.1 c.if-here-eq0.false in
    (omega (arith, tag_small (under k) c.in-Some.is), omega (arith, new-small k))

pub returns : goal.returns
returns c = λ w s. stays-first (nearest s c.if-here-eq0.false) c.in-Some.is _ c.reduces.ensures c.if-reduces.false

pub returns-then-reduces : goal.returns-then-reduces
returns-then-reduces c = λ w s. wakes (nearest s c.if-here-eq0.false) c.in-Some.is c.copy.ensures
