-- `reduction::normalize_bounded` meets its contract, by its tests in the order of document 01. Assumes nothing.
use Rattle.std.proofs.Common.{sym, ◌∙◌}
use Rattle.reduction.proofs.Calling.{too_short, not-read, read, reduced}
use Rattle.reduction.proofs.normalize_bounded.Goals as goal

pub reduce_read-requires : goal.reduce_read-requires
reduce_read-requires c =
    let a = c.args in
    let (h, k) = c.short.ensures.many c.if-short.false in
    (read a.term.now a.limit a.out.now a.scratch.now h k _ (sym c.term_input.ensures ∙ c.in-Ok.is), k)

pub returns-in-Ok : goal.returns-in-Ok
returns-in-Ok c =
    let a = c.args in
    let (h, k) = c.short.ensures.many c.if-short.false in
    let e = sym c.term_input.ensures ∙ c.in-Ok.is in
    let w = read a.term.now a.limit a.out.now a.scratch.now h k _ e in
    let (v, (o, s)) = reduced a.term.now a.limit a.out.now a.scratch.now h k _ e _ _ _ (c.reduce_read.ensures w.0 w.1) in
    record { value = v; out_after = o; scratch_after = s }

pub returns-in-Err : goal.returns-in-Err
returns-in-Err c =
    let a = c.args in
    let (h, k) = c.short.ensures.many c.if-short.false in
    let (v, (o, s)) = not-read a.term.now a.limit a.out.now a.scratch.now h k _ (sym c.term_input.ensures ∙ c.in-Err.is) in
    record { value = v; out_after = o; scratch_after = s }

pub returns-then-short : goal.returns-then-short
returns-then-short c =
    let a = c.args in
    let (v, (o, s)) = too_short a.term.now a.limit a.out.now a.scratch.now _ (c.short.ensures.few c.if-short.true) (rw c.of_no_input.ensures) in
    record { value = v; out_after = o; scratch_after = s }
