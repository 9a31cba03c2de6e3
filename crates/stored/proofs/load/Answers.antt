-- `stored::load` meets its contract: room, the file's size, its blocks, their content, and only then the output. Assumes nothing.
use Rattle.rules.specs.Refusal.{Outcome}
use Rattle.std.specs.Prelude.{Err}
use Prim.Native.Nat.{ℕ, ◌≤◌}
use mathlib.Core.Path.{refl, sym, ap, ◌∙◌}
use native.Mathlib.Omega.{arith}
use lib.ListN.{length, take}
use lib.Seq.{length-take-le}
use Rattle.rules.specs.Limits.{limits}
use Rattle.laws.specs.Handed.{handed}
use Rattle.stored.specs.Answers.{accepted}
use Rattle.stored.specs.Opening.{taken, amount}
use Rattle.stored.specs.Storing.{read_short, load-short, load-size, load-blocks, load-content, load-good, ends}
use Rattle.stored.proofs.load.Goals as goal

pub put_content-requires : goal.put_content-requires
put_content-requires c =
    let a = c.args in
    let o = c.open_blocks in
    let n = c.in_ok-size.size in
    let all : n ≤ length o.new.content = omega (arith, o.ensures.within, ap amount c.in_ok-size.was) in
    let short = read_short limits a.kind 1 (take n o.new.content) (c.content_input.ensures ∙ ap accepted c.in_ok-content_input.was) in
    (all, omega (arith, short, length-take-le n o.new.content all, c.if-out-lt-OUTPUT_ROOM.false))

pub returns : goal.returns
returns c =
    let a = c.args in
    let o = c.open_blocks in
    let p = c.put_content.ensures in
    let both =
    ends
    (load-good limits a.kind a.file.now a.out.now c.if-out-lt-OUTPUT_ROOM.false (sym c.size_wrong.ensures ∙ c.if-size_wrong.false)
    (take c.in_ok-size.size o.new.content) (o.ensures.outcome ∙ ap (λ (r : Outcome ℕ). taken r o.new.content) c.in_ok-size.was)
    (c.content_input.ensures ∙ ap accepted c.in_ok-content_input.was))
    p.answer
    p.output in
    record { value = both.0; out_after = both.1 }

pub returns-in_err-size : goal.returns-in_err-size
returns-in_err-size c =
    let a = c.args in
    let o = c.open_blocks in
    let both =
    ends
    (load-blocks limits a.kind a.file.now a.out.now c.if-out-lt-OUTPUT_ROOM.false (sym c.size_wrong.ensures ∙ c.if-size_wrong.false) _
    (o.ensures.outcome ∙ ap (λ (r : Outcome ℕ). taken r o.new.content) c.in_err-size.was))
    (handed c.from_residual.result c.from_residual.ensures.1)
    refl in
    record { value = both.0; out_after = both.1 }

pub returns-then-size_wrong : goal.returns-then-size_wrong
returns-then-size_wrong c =
    let a = c.args in
    let both =
    ends
    (load-size limits a.kind a.file.now a.out.now c.if-out-lt-OUTPUT_ROOM.false (sym c.size_wrong.ensures ∙ c.if-size_wrong.true))
    c.refused.ensures
    refl in
    record { value = both.0; out_after = both.1 }

pub returns-then-out-lt-OUTPUT_ROOM : goal.returns-then-out-lt-OUTPUT_ROOM
returns-then-out-lt-OUTPUT_ROOM c =
    let a = c.args in
    let both =
    ends (load-short limits a.kind a.file.now a.out.now c.if-out-lt-OUTPUT_ROOM.true) (ap Err c.of_no_input.ensures) refl in
    record { value = both.0; out_after = both.1 }

pub returns-in_err-content_input : goal.returns-in_err-content_input
returns-in_err-content_input c =
    let a = c.args in
    let o = c.open_blocks in
    let both =
    ends
    (load-content limits a.kind a.file.now a.out.now c.if-out-lt-OUTPUT_ROOM.false (sym c.size_wrong.ensures ∙ c.if-size_wrong.false)
    (take c.in_ok-size.size o.new.content) (o.ensures.outcome ∙ ap (λ (r : Outcome ℕ). taken r o.new.content) c.in_ok-size.was) _
    (c.content_input.ensures ∙ ap accepted c.in_err-content_input.was))
    (handed c.from_residual-in_err-content_input.result c.from_residual-in_err-content_input.ensures.1)
    refl in
    record { value = both.0; out_after = both.1 }
