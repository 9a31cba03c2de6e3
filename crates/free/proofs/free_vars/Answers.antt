-- `free::free_vars` meets its contract: the reader's answer says which term it is, and its free names are listed. Assumes nothing.
use mathlib.Core.Path.{sym, ◌∙◌}
use Rattle.laws.specs.Handed.{handed}
use Rattle.free.proofs.Calling.{short-buffer, bad-term, lists, good-term}
use Rattle.free.proofs.free_vars.Goals as goal

pub returns-then-out-lt-OUTPUT_ROOM : goal.returns-then-out-lt-OUTPUT_ROOM
returns-then-out-lt-OUTPUT_ROOM c = let e = short-buffer c.args.term.now c.args.out.now _ c.of_no_input.ensures c.if-out-lt-OUTPUT_ROOM.true in record { value = e.0; out_after = e.1 }

pub list_names-requires : goal.list_names-requires
list_names-requires c = lists c.args.term.now c.args.out.now c.if-out-lt-OUTPUT_ROOM.false _ (sym c.term_input.ensures ∙ c.in_ok-term_input.was)

pub returns-in_err-term_input : goal.returns-in_err-term_input
returns-in_err-term_input c = let e = bad-term c.args.term.now c.args.out.now c.if-out-lt-OUTPUT_ROOM.false _ (sym c.term_input.ensures ∙ c.in_err-term_input.was) in record { value = handed c.from_residual.result c.from_residual.ensures.1 ∙ e.0; out_after = e.1 }

pub returns : goal.returns
returns c =
    let e = sym c.term_input.ensures ∙ c.in_ok-term_input.was in
    let w = lists c.args.term.now c.args.out.now c.if-out-lt-OUTPUT_ROOM.false _ e in
    let g = good-term c.args.term.now c.args.out.now c.if-out-lt-OUTPUT_ROOM.false _ e _ _ (c.list_names.ensures w.0 w.1) in
    record { value = g.0; out_after = g.1 }
