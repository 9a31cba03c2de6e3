-- `stored::store` meets its contract: room, then the content, then the blocks. Assumes nothing.
use Rattle.std.specs.Prelude.{Err}
use mathlib.Core.Path.{refl, ap, ◌∙◌}
use Rattle.rules.specs.Limits.{limits}
use Rattle.laws.specs.Handed.{handed}
use Rattle.stored.specs.Answers.{accepted}
use Rattle.stored.specs.Storing.{read_short, store-short, store-refused, store-good, ends}
use Rattle.stored.proofs.store.Goals as goal

pub put_stored-requires : goal.put_stored-requires
put_stored-requires c =
    let a = c.args in
    (read_short limits a.kind 1 a.content.now (c.content_input.ensures ∙ ap accepted c.in_ok-content_input.was), c.if-out-lt-STORED_ROOM.false)

pub returns : goal.returns
returns c =
    let a = c.args in
    let p = c.put_stored.ensures in
    let both =
    ends
    (store-good limits a.kind a.content.now a.out.now c.if-out-lt-STORED_ROOM.false (c.content_input.ensures ∙ ap accepted c.in_ok-content_input.was))
    p.answer
    p.output in
    record { value = both.0; out_after = both.1 }

pub returns-in_err-content_input : goal.returns-in_err-content_input
returns-in_err-content_input c =
    let a = c.args in
    let both =
    ends
    (store-refused limits a.kind a.content.now a.out.now c.if-out-lt-STORED_ROOM.false _
    (c.content_input.ensures ∙ ap accepted c.in_err-content_input.was))
    (handed c.from_residual.result c.from_residual.ensures.1)
    refl in
    record { value = both.0; out_after = both.1 }

pub returns-then-out-lt-STORED_ROOM : goal.returns-then-out-lt-STORED_ROOM
returns-then-out-lt-STORED_ROOM c =
    let a = c.args in
    let both =
    ends (store-short limits a.kind a.content.now a.out.now c.if-out-lt-STORED_ROOM.true) (ap Err c.of_no_input.ensures) refl in
    record { value = both.0; out_after = both.1 }
