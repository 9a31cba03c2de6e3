-- `run::print_reduced` meets its contract: what reduction leaves when it stops can be read again, so its text and the counts are printed. Assumes nothing.
use Prim.Native.Nat.{◌+◌, ◌≤◌}
use mathlib.Core.Path.{sym}
use native.Mathlib.Omega.{arith}
use lib.ListN.{length, take, length-set}
use lib.Seq.{length-take-le}
use Rattle.rules.specs.Limits.{limits, text_room}
use Rattle.rules.specs.Term.{Term}
use Rattle.program.proofs.run.Starting.{starts-line, starts-as}
use Rattle.program.proofs.run.Stopping.{Told, told, refused-told}
use Rattle.program.proofs.run.Texts.{never-refused, text-short, both-lines}
use Rattle.program.proofs.run.print_reduced.Goals as goal
use Rattle.program.proofs.run.print_reduced.Goals.{In-Ok, In-Ok-pretty}

-- the term that is left
stopped : (c : In-Ok)
    → (t : Term) × Told (take c.args.n c.args.out.now) c.normalize_bounded.new.out c.in-Ok.told t
stopped c =
    let a = c.args in
    let k = c.normalize_bounded in
    told (take a.n a.out.now) a.term.now a.scratch.now c.requires.1 c.requires.2 k.ensures.value c.in-Ok.told c.in-Ok.is k.new.out k.ensures.out_after

-- its text, with room behind it for the line of the counts
room-behind : (c : In-Ok-pretty) → (c.in-Ok-pretty.past + 1 + 256 ≤ length c.args.out.now) × (c.in-Ok-pretty.past ≤ text_room limits)
room-behind c =
    let a = c.args in
    let k = c.normalize_bounded in
    let left = told (take a.n a.out.now) a.term.now a.scratch.now c.requires.1 c.requires.2 k.ensures.value c.in-Ok.told c.in-Ok.is k.new.out k.ensures.out_after in
    text-short left.1.reads a.out.now c.requires.3 c.pretty.ensures.value c.in-Ok-pretty.is

pub bounds-out-past : goal.bounds-out-past
bounds-out-past c = omega (arith, room-behind (goal.at.bounds-out-past c).In-Ok-pretty, c.pretty.auto.out)

pub overflow_add-past : goal.overflow_add-past
overflow_add-past c = omega (arith, room-behind (goal.at.overflow_add-past c).In-Ok-pretty)

pub put_counts-requires : goal.put_counts-requires
put_counts-requires c = simp length-set (omega (arith, room-behind (goal.at.put_counts-requires c).In-Ok-pretty, c.pretty.auto.out))

pub returns-in-Ok-pretty : goal.returns-in-Ok-pretty
returns-in-Ok-pretty c =
    let t = (stopped (goal.at.returns-in-Ok-pretty c).In-Ok).1 in
    let p = c.pretty in
    let both = both-lines t.reads c.args.out.now c.requires.3 p.ensures.value c.in-Ok-pretty.is p.ensures.out_after p.auto.out c.put_counts.ensures in
    record { starts = starts-as t.prints both; term_after = c.normalize_bounded.ensures.out_after; scratch_after = c.normalize_bounded.ensures.scratch_after }

pub returns-in-Err : goal.returns-in-Err
returns-in-Err c =
    let a = c.args in
    let k = c.normalize_bounded.ensures in
    let q = refused-told (take a.n a.out.now) a.term.now a.scratch.now c.requires.1 c.requires.2 k.value _ _ c.in-Err.is in
    record { starts = starts-as q (starts-line c.put_refusal.ensures (omega (arith, c.requires.3))); term_after = k.out_after; scratch_after = k.scratch_after }

pub returns-in-Err-pretty : goal.returns-in-Err-pretty
returns-in-Err-pretty c =
    absurd (never-refused (stopped (goal.at.returns-in-Err-pretty c).In-Ok).1.reads c.args.out.now c.requires.3 c.pretty.ensures.value c.in-Err-pretty.is)

pub slice_bounds-pretty-end : goal.slice_bounds-pretty-end
slice_bounds-pretty-end c = (stopped (goal.at.slice_bounds-pretty-end c).In-Ok).1.inside

pub slice_bounds-pretty-end-in-Ok : goal.slice_bounds-pretty-end-in-Ok
slice_bounds-pretty-end-in-Ok c = sym (length-take-le _ _ (stopped (goal.at.slice_bounds-pretty-end-in-Ok c).In-Ok).1.inside)
