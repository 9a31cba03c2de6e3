-- `repeat::repeat_steps` meets its contract: the term is put at the end of the scratch, and the search begins there. Assumes nothing.
use native.Mathlib.Omega.{arith}
use Rattle.reduction.proofs.repeat.Beginning.{begin-room, begins, first, settled}
use Rattle.reduction.proofs.repeat.repeat_steps.Goals as goal

pub copy-requires : goal.copy-requires
copy-requires c =
    let a = c.requires in
    (omega arith, omega arith, (begin-room a.0.1 c.args.scratch.now a.1).1)

pub overflow_sub-begin : goal.overflow_sub-begin
overflow_sub-begin c =
    let a = c.requires in
    (begin-room a.0.1 c.args.scratch.now a.1).0

pub returns-in-Break : goal.returns-in-Break
returns-in-Break c = λ t d. rw c.stopped.ensures (settled d c.args.scratch.now c.requires.1 c.args.limit _ c.no_counts.ensures (record { o = 0; i = 0; depth = 0 }) (c.in-Break.ensures t (begins d c.args.scratch.now c.requires.1 c.copy.ensures)))

pub returns-in-Continue : goal.returns-in-Continue
returns-in-Continue c = λ t d. c.with_room.ensures t (first d c.args.scratch.now c.requires.1 c.args.limit _ c.no_counts.ensures (c.in-Continue.ensures t (begins d c.args.scratch.now c.requires.1 c.copy.ensures)))

pub to_redex-requires : goal.to_redex-requires
to_redex-requires c =
    let a = c.requires in
    (a.0.0, begins a.0.1 c.args.scratch.now a.1 c.copy.ensures)

pub with_room-requires : goal.with_room-requires
with_room-requires c =
    let a = c.requires in
    (a.0.0, first a.0.1 c.args.scratch.now a.1 c.args.limit _ c.no_counts.ensures (c.in-Continue.ensures a.0.0 (begins a.0.1 c.args.scratch.now a.1 c.copy.ensures)))
