-- `write::put_part` meets its contract: the head, then each part in the room that is left; a part's number falls. Assumes nothing.
use native.Mathlib.Omega.{arith}
use Rattle.draft.proofs.write.Opening.{first-before, second-before}
use Rattle.draft.proofs.write.Rooms.{head-room, first-room, second-room, third-room, some_byte}
use Rattle.draft.proofs.write.Endings.{end-unit, end-trivial, end-head, end-first, end-second, end-third}
use Rattle.draft.proofs.write.+put_part.Goals as goal

pub bounds-out-at : goal.bounds-out-at
bounds-out-at t c =
    let w = c.requires.1.1 in
    omega (arith, w.room, some_byte c.requires.1.0)

pub returns-in-0 : goal.returns-in-0
returns-in-0 t c = let a = c.args in end-unit a.out.now a.at c.in-0.is

pub bounds-out-at-in-1 : goal.bounds-out-at-in-1
bounds-out-at-in-1 t c =
    let w = c.requires.1.1 in
    omega (arith, w.room, some_byte c.requires.1.0)

pub returns-in-1 : goal.returns-in-1
returns-in-1 t c = let a = c.args in end-trivial a.out.now a.at c.in-1.is

pub put_head-past-requires : goal.put_head-past-requires
put_head-past-requires t c =
    head-room c.requires.1.1 (λ e. omega arith) (λ e. omega arith) c.requires.0

pub returns-then-count-eq0 : goal.returns-then-count-eq0
returns-then-count-eq0 t c = let a = c.args in end-head a.s.now a.rows.now _ a.part (λ e. omega arith) (λ e. omega arith) c.put_head-past.ensures c.part_count-count.result c.part_count-count.ensures c.if-count-eq0.true

pub put_part-next-requires : goal.put_part-next-requires
put_part-next-requires t c =
    (omega (arith, c.decreases, first-before c.args.part (λ e. omega arith) (λ e. omega arith) c.requires.1.1.drafts), (c.requires.0, first-room c.requires.1.1 (λ e. omega arith) (λ e. omega arith) c.put_head-past.ensures c.part_count-count.result c.part_count-count.ensures c.if-count-eq0.false))

pub returns-then-count-eq1 : goal.returns-then-count-eq1
returns-then-count-eq1 t c = let a = c.args in end-first a.s.now a.rows.now _ a.part (λ e. omega arith) (λ e. omega arith) c.put_head-past.ensures c.part_count-count.result c.part_count-count.ensures c.put_part-next.ensures c.if-count-eq1.true

pub put_part-last-requires : goal.put_part-last-requires
put_part-last-requires t c =
    (omega (arith, c.decreases, second-before c.args.part (λ e. omega arith) (λ e. omega arith) c.requires.1.1.drafts), (c.requires.0, second-room c.requires.1.1 (λ e. omega arith) (λ e. omega arith) c.put_head-past.ensures c.part_count-count.result c.part_count-count.ensures c.if-count-eq0.false c.put_part-next.ensures c.if-count-eq1.false))

pub returns-then-count-eq2 : goal.returns-then-count-eq2
returns-then-count-eq2 t c = let a = c.args in end-second a.s.now a.rows.now _ a.part (λ e. omega arith) (λ e. omega arith) c.put_head-past.ensures c.part_count-count.result c.part_count-count.ensures c.put_part-next.ensures c.put_part-last.ensures c.if-count-eq2.true

pub put_part-requires : goal.put_part-requires
put_part-requires t c =
    (omega (arith, c.decreases, second-before c.args.part (λ e. omega arith) (λ e. omega arith) c.requires.1.1.drafts), (c.requires.0, third-room c.requires.1.1 (λ e. omega arith) (λ e. omega arith) c.put_head-past.ensures c.part_count-count.result c.part_count-count.ensures c.if-count-eq0.false c.put_part-next.ensures c.if-count-eq1.false c.put_part-last.ensures c.if-count-eq2.false))

pub returns : goal.returns
returns t c = let a = c.args in end-third a.s.now a.rows.now _ a.part (λ e. omega arith) (λ e. omega arith) c.put_head-past.ensures c.part_count-count.result c.part_count-count.ensures c.put_part-next.ensures c.put_part-last.ensures c.put_part.ensures c.if-count-eq0.false c.if-count-eq1.false c.if-count-eq2.false
