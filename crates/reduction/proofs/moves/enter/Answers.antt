-- `moves::enter` meets its contract: the head goes over, and its mark onto the stack. Assumes nothing.
use native.Mathlib.Omega.{arith}
use Rattle.reduction.proofs.moves.Entries.{enter-depth, enter-room, entered}
use Rattle.reduction.proofs.moves.enter.Goals as goal

pub bounds-stack-depth : goal.bounds-stack-depth
bounds-stack-depth c =
    let a = c.requires in
    (enter-depth a.1).1

pub copy-requires : goal.copy-requires
copy-requires c =
    let a = c.requires in
    enter-room a.1

pub offset_bounds-stack-depth : goal.offset_bounds-stack-depth
offset_bounds-stack-depth c =
    let a = c.requires in
    omega (arith, enter-depth a.1)

pub overflow_add-result : goal.overflow_add-result
overflow_add-result c =
    let a = c.requires in
    omega (arith, enter-depth a.1)

pub overflow_cast-stack : goal.overflow_cast-stack
overflow_cast-stack c =
    let a = c.requires in
    omega (arith, enter-depth a.1)

pub returns : goal.returns
returns c = λ w e. entered e c.copy.ensures
