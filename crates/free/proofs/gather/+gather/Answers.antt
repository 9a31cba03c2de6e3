-- The walk `gather` meets its contract: a node is walked when its parts are. Assumes nothing.
use mathlib.Core.Path.{sym, ◌∙◌}
use Rattle.std.proofs.Common.{true≢false}
use native.Mathlib.Omega.{arith}
use borrow.Author.Rules.{rules}
use Rattle.free.proofs.gather.Gathers.{inside, small, further, var-named, var-some, var-ends, leaf-ends, one-part, one-ends, two-first, two-second, two_ends, abs-named, abs-fits, abs-body, abs-ends, both-named, both-named-2, both-part, both-fits, both-fits-2, both-last, both_ends, branch-named, branch-named-2, branch-part, branch_fits, branch-second-part, branch-fits-2, branch-last, branch-ends}
use Rattle.free.proofs.gather.+gather.Goals as goal

pub overflow_add-first : goal.overflow_add-first
overflow_add-first t c = let g = c.requires in omega (arith, inside g, small g)

pub bounds-s-at : goal.bounds-s-at
bounds-s-at t c = inside c.requires

pub gather-requires : goal.gather-requires
gather-requires t c = further c.requires c.decreases (one-part c.requires (c.one_part.ensures.0 c.if-one_part.true))

pub returns-then-one_part : goal.returns-then-one_part
returns-then-one_part t c = one-ends c.requires (c.one_part.ensures.0 c.if-one_part.true) c.gather.ensures

pub after_names-next-requires : goal.after_names-next-requires
after_names-next-requires t c = var-named c.requires c.in-1.is

pub meet-requires : goal.meet-requires
meet-requires t c = var-some c.requires c.in-1.is

pub gather-next-requires : goal.gather-next-requires
gather-next-requires t c = further c.requires c.decreases (two-first c.requires c.in-3.is)

pub gather-requires-in-3 : goal.gather-requires-in-3
gather-requires-in-3 t c = further c.requires c.decreases (two-second c.requires c.in-3.is c.gather-next.ensures)

pub after_names-start-requires : goal.after_names-start-requires
after_names-start-requires t c = abs-named c.requires c.in-5.is

pub push-inner-requires : goal.push-inner-requires
push-inner-requires t c = abs-fits c.requires c.in-5.is

pub gather-requires-in-5 : goal.gather-requires-in-5
gather-requires-in-5 t c = further c.requires c.decreases (abs-body c.requires c.in-5.is _ c.after_names-start.ensures c.push-inner.ensures)

pub after_names-second-requires : goal.after_names-second-requires
after_names-second-requires t c = both-named c.requires c.in-4.is

pub after_names-start-requires-in-4 : goal.after_names-start-requires-in-4
after_names-start-requires-in-4 t c = both-named-2 c.requires c.in-4.is _ c.after_names-second.ensures

pub gather-body-requires : goal.gather-body-requires
gather-body-requires t c = further c.requires c.decreases (both-part c.requires c.in-4.is _ c.after_names-second.ensures _ c.after_names-start-in-4.ensures)

pub push-outer-requires : goal.push-outer-requires
push-outer-requires t c = both-fits c.requires c.in-4.is _ c.after_names-second.ensures _ c.after_names-start-in-4.ensures c.gather-body.ensures

pub push-inner-requires-in-4 : goal.push-inner-requires-in-4
push-inner-requires-in-4 t c = both-fits-2 c.requires c.in-4.is _ c.after_names-second.ensures _ c.after_names-start-in-4.ensures c.gather-body.ensures c.push-outer.ensures

pub gather-requires-in-4 : goal.gather-requires-in-4
gather-requires-in-4 t c =
    further c.requires c.decreases (both-last c.requires c.in-4.is _ c.after_names-second.ensures _ c.after_names-start-in-4.ensures c.gather-body.ensures c.push-outer.ensures c.push-inner-in-4.ensures)

pub after_names-second-requires-in-9 : goal.after_names-second-requires-in-9
after_names-second-requires-in-9 t c = branch-named c.requires c.in-9.is

pub after_names-start-requires-in-9 : goal.after_names-start-requires-in-9
after_names-start-requires-in-9 t c = branch-named-2 c.requires c.in-9.is _ c.after_names-second-in-9.ensures

pub gather-left-requires : goal.gather-left-requires
gather-left-requires t c = further c.requires c.decreases (branch-part c.requires c.in-9.is _ c.after_names-second-in-9.ensures _ c.after_names-start-in-9.ensures)

pub push-in_left-requires : goal.push-in_left-requires
push-in_left-requires t c = branch_fits c.requires c.in-9.is _ c.after_names-second-in-9.ensures _ c.after_names-start-in-9.ensures c.gather-left.ensures

pub gather-right-requires : goal.gather-right-requires
gather-right-requires t c =
    further c.requires c.decreases (branch-second-part c.requires c.in-9.is _ c.after_names-second-in-9.ensures _ c.after_names-start-in-9.ensures c.gather-left.ensures c.push-in_left.ensures)

pub push-in_right-requires : goal.push-in_right-requires
push-in_right-requires t c = branch-fits-2 c.requires c.in-9.is _ c.after_names-second-in-9.ensures _ c.after_names-start-in-9.ensures c.gather-left.ensures c.push-in_left.ensures c.gather-right.ensures

pub gather-requires-in-9 : goal.gather-requires-in-9
gather-requires-in-9 t c =
    further c.requires c.decreases (branch-last c.requires c.in-9.is _ c.after_names-second-in-9.ensures _ c.after_names-start-in-9.ensures c.gather-left.ensures c.push-in_left.ensures c.gather-right.ensures c.push-in_right.ensures)

pub returns-in-1 : goal.returns-in-1
returns-in-1 t c = var-ends c.requires c.in-1.is _ c.after_names-next.ensures _ _ c.meet.ensures

pub returns-in-3 : goal.returns-in-3
returns-in-3 t c = two_ends c.requires c.in-3.is c.gather-next.ensures c.gather-in-3.ensures

pub returns-in-5 : goal.returns-in-5
returns-in-5 t c = abs-ends c.requires c.in-5.is _ c.after_names-start.ensures c.push-inner.ensures c.gather-in-5.ensures

pub returns-in-4 : goal.returns-in-4
returns-in-4 t c = both_ends c.requires c.in-4.is _ c.after_names-second.ensures _ c.after_names-start-in-4.ensures c.gather-body.ensures c.push-outer.ensures c.push-inner-in-4.ensures c.gather-in-4.ensures

pub returns-in-9 : goal.returns-in-9
returns-in-9 t c =
    branch-ends c.requires c.in-9.is _ c.after_names-second-in-9.ensures _ c.after_names-start-in-9.ensures c.gather-left.ensures c.push-in_left.ensures c.gather-right.ensures
    c.push-in_right.ensures c.gather-in-9.ensures

pub returns-in_default : goal.returns-in_default
returns-in_default t c = leaf-ends c.requires (λ q. true≢false (sym (c.one_part.ensures.1 q) ∙ c.if-one_part.false), search rules)
