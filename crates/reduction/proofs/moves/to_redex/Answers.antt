-- `moves::to_redex` meets its contract. The loop's invariant: the search stands where it is in the whole in which it began.
-- The measure is what it has yet to see. Assumes nothing.
use mathlib.Core.Path.{◌∙◌}
use native.Mathlib.Omega.{arith}
use Rattle.reduction.proofs.moves.Seeking.{stands_at, in-scratch, entering, passing, reducing, inside_past, behind-past}
use Rattle.reduction.proofs.moves.to_redex.Goals as goal

pub enter-place-requires : goal.enter-place-requires
enter-place-requires c =
    let a = c.requires in
    (a.0, entering (c.loop-start.invariant.carries a.0 a.1) c.see.ensures _ c.in-Inside.is)

pub loop-start-preserved : goal.loop-start-preserved
loop-start-preserved c =
    record {
      same_out = c.pass.auto.out ∙ c.loop-start.invariant.same_out;
      same-stack = c.pass.auto.stack ∙ c.loop-start.invariant.same-stack;
      carries = λ w a. (c.in_ok-place-in-Passed.ensures w (passing (c.loop-start.invariant.carries w a) c.see.ensures _ c.in-Passed.is)).stands;
    }

pub loop-start-preserved-in-Inside : goal.loop-start-preserved-in-Inside
loop-start-preserved-in-Inside c =
    record {
      same_out = c.enter-place.auto.out ∙ c.loop-start.invariant.same_out;
      same-stack = c.enter-place.auto.stack ∙ c.loop-start.invariant.same-stack;
      carries = λ w a. (c.enter-place.ensures w (entering (c.loop-start.invariant.carries w a) c.see.ensures _ c.in-Inside.is)).stands;
    }

pub loop-start-smaller : goal.loop-start-smaller
loop-start-smaller c =
    let a = c.requires in
    let s = c.loop-start.invariant.carries a.0 a.1 in
    omega (arith, in-scratch s, behind-past s c.see.ensures _ c.in-Passed.is, (c.in_ok-place-in-Passed.ensures a.0 (passing s c.see.ensures _ c.in-Passed.is)).past)

pub loop-start-smaller-in-Inside : goal.loop-start-smaller-in-Inside
loop-start-smaller-in-Inside c =
    let a = c.requires in
    let s = c.loop-start.invariant.carries a.0 a.1 in
    omega (arith, in-scratch s, inside_past s c.see.ensures _ c.in-Inside.is, (c.enter-place.ensures a.0 (entering s c.see.ensures _ c.in-Inside.is)).past)

pub pass-requires : goal.pass-requires
pass-requires c =
    let a = c.requires in
    (a.0, passing (c.loop-start.invariant.carries a.0 a.1) c.see.ensures _ c.in-Passed.is)

pub returns-in-Redex : goal.returns-in-Redex
returns-in-Redex c = λ w a. reducing (c.loop-start.invariant.carries w a) c.see.ensures c.in-Redex.is

pub returns-in_err-place-in-Passed : goal.returns-in_err-place-in-Passed
returns-in_err-place-in-Passed c = λ w a. rw c.from_residual.ensures (c.in_err-place-in-Passed.ensures w (passing (c.loop-start.invariant.carries w a) c.see.ensures _ c.in-Passed.is))

pub see-requires : goal.see-requires
see-requires c =
    let a = c.requires in
    let s = c.loop-start.invariant.carries a.0 a.1 in
    (s.at, stands_at s)
