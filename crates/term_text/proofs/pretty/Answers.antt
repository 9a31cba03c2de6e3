-- `term_text::pretty` meets its contract: the reader's answer says what the term is, and the walk from its start prints it. Assumes nothing.
use Rattle.std.specs.Prelude.{Ok, Err}
use mathlib.Core.Path.{sym, ap, ◌∙◌}
use native.Mathlib.Omega.{arith}
use Rattle.laws.specs.Handed.{handed}
use Rattle.words.specs.Ends.{from_start, whole_long, whole_room, whole}
use Rattle.term_text.proofs.Whole.{short, not-read, was_read, read, few, size, task}
use Rattle.term_text.proofs.pretty.Goals as goal

pub returns-then-out-lt-TEXT_ROOM : goal.returns-then-out-lt-TEXT_ROOM
returns-then-out-lt-TEXT_ROOM c =
    let a = c.args in
    let e = short a.term.now a.out.now c.if-out-lt-TEXT_ROOM.true in
    record { value = ap Err c.of_no_input.ensures ∙ e.0; out_after = e.1 }

pub walk-past-requires : goal.walk-past-requires
walk-past-requires c =
    let s = c.args.term.now in
    let o = c.args.out.now in
    let h = c.if-out-lt-TEXT_ROOM.false in
    let f = read s o h (sym c.check_term.ensures ∙ c.in_ok-check_term.was) in
    (f.value, task s o h f.value f.is)

pub clear-requires : goal.clear-requires
clear-requires c =
    let s = c.args.term.now in
    let o = c.args.out.now in
    let h = c.if-out-lt-TEXT_ROOM.false in
    let f = read s o h (sym c.check_term.ensures ∙ c.in_ok-check_term.was) in
    whole_room (from_start (c.walk-past.ensures f.value (task s o h f.value f.is)) (size s o h f.value f.is)) (omega (arith, few s o h f.value f.is))

pub returns : goal.returns
returns c =
    let s = c.args.term.now in
    let o = c.args.out.now in
    let h = c.if-out-lt-TEXT_ROOM.false in
    let f = read s o h (sym c.check_term.ensures ∙ c.in_ok-check_term.was) in
    let d = from_start (c.walk-past.ensures f.value (task s o h f.value f.is)) (size s o h f.value f.is) in
    let g = was_read s o h f.value f.is in
    record { value = ap Ok (whole_long d) ∙ g.0; out_after = whole d (omega (arith, few s o h f.value f.is)) c.clear.ensures ∙ g.1 }

pub returns-in_err-check_term : goal.returns-in_err-check_term
returns-in_err-check_term c =
    let e = not-read c.args.term.now c.args.out.now c.if-out-lt-TEXT_ROOM.false _ (sym c.check_term.ensures ∙ c.in_err-check_term.was) in
    record { value = handed c.from_residual.result c.from_residual.ensures.1 ∙ e.0; out_after = e.1 }
