-- `repeat::go_on` meets its contract. The loop's invariant: what the rules leave to do, of the whole in which the search stands.
-- The measure is what is left of the limit. Assumes nothing.
use mathlib.Core.Path.{◌∙◌}
use native.Mathlib.Omega.{arith}
use Rattle.std.proofs.lemmas.Result.{err_from_is_err_and}
use Rattle.reduction.proofs.repeat.Turns.{rests, found, rest-room, at-end}
use Rattle.rules.specs.Term.{Term}
use Rattle.reduction.specs.Turning.{Stands, AtRedex}
use Rattle.reduction.proofs.repeat.go_on.Goals as goal
use Rattle.reduction.proofs.repeat.go_on.Goals.{Else-course-limit}

-- a redex, and the limit is not reached
at-redex : (c : Else-course-limit) (t : Term) → Stands c.args.limit t c.args.out.now c.args.scratch.now c.args.stack.now c.args.from
    → AtRedex c.args.limit t c.to_redex.new.out c.loop-length.scratch c.to_redex.new.stack c.loop-length.course c.in-Continue.place
at-redex c t d =
    let s = c.loop-length.invariant.1 t d in
    found s (c.in-Continue.ensures s.whole s.stands) c.if-course-limit.false (omega (arith, c.ranges.limit.fits))

pub contract_here-requires : goal.contract_here-requires
contract_here-requires c =
    let a = c.requires in
    (c.args.limit, a.0, at-redex (goal.at.contract_here-requires c).Else-course-limit a.0 a.1)

pub copy-length-requires : goal.copy-length-requires
copy-length-requires c =
    let a = c.requires in
    let s = c.loop-length.invariant.1 a.0 a.1 in
    rest-room s (c.in-Continue.ensures s.whole s.stands)

pub loop-length-preserved : goal.loop-length-preserved
loop-length-preserved c =
    let a = c.requires in
    let k = c.loop-length.invariant.0 in (
      record {
        same_out = c.contract_here.auto.out ∙ c.to_redex.auto.out ∙ k.same_out;
        same-scratch = c.contract_here.auto.scratch ∙ k.same-scratch;
        same-stack = c.to_redex.auto.stack ∙ k.same-stack;
      },
      λ t d.
          (c.in_ok-course-in-Continue.ensures c.args.limit t (at-redex (goal.at.loop-length-preserved c).Else-course-limit t d)).stands,
    )

pub loop-length-smaller : goal.loop-length-smaller
loop-length-smaller c =
    let a = c.requires in
    let y = c.in_ok-course-in-Continue.ensures c.args.limit a.0 (at-redex (goal.at.loop-length-smaller c).Else-course-limit a.0 a.1) in
    omega (arith, y.one, y.stands.carried.within)

pub returns-in-Break : goal.returns-in-Break
returns-in-Break c = λ t d.
    let s = c.loop-length.invariant.1 t d in
    rw c.stopped.ensures (rests s.carried (c.in-Break.ensures s.whole s.stands))

pub returns-in_err-course-in-Continue : goal.returns-in_err-course-in-Continue
returns-in_err-course-in-Continue c = λ t d.
    let p = err_from_is_err_and c.from_residual.result c.from_residual.ensures.1 in
    rw (p.1, p.2) (c.in_err-course-in-Continue.ensures c.args.limit t (at-redex (goal.at.returns-in_err-course-in-Continue c).Else-course-limit t d))

pub returns-then-course-limit : goal.returns-then-course-limit
returns-then-course-limit c = λ t d.
    let s = c.loop-length.invariant.1 t d in
    rw c.stopped-then-course-limit.ensures (at-end s (c.in-Continue.ensures s.whole s.stands) c.if-course-limit.true c.copy-length.ensures)

pub to_redex-requires : goal.to_redex-requires
to_redex-requires c =
    let a = c.requires in
    let s = c.loop-length.invariant.1 a.0 a.1 in
    (s.whole, s.stands)
