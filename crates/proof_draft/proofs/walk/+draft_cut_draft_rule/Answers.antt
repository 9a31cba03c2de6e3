-- `walk::draft_rule` and `draft_cut`, a cycle of two, meet their contracts: what each call is asked and what it comes to follows from the plan. What is left of the proof's bytes falls from rule to rule.
-- Assumes nothing.
use mathlib.Core.Path.{refl, ◌∙◌}
use native.Mathlib.Omega.{arith}
use lib.ListN.{length-set}
use Rattle.proof_draft.specs.declared.entry.CutEntry.{CutEntry}
use Rattle.proof_draft.proofs.plan.Planned.{plan-later, first-begins, first-skips, first-opens, first_done, pair-starts, pair-on, pair-begins, pair-opens, pair-done, cut-starts, cut-room, cut-formula, cut-goes, cut-begins, cut-opens, cut-done}
use Rattle.proof_draft.proofs.plan.Ruled.{starts-open}
use Rattle.proof_draft.proofs.plan.Pushing.{restored}
use Rattle.proof_draft.proofs.walk.+draft_cut_draft_rule.Goals as goal

pub draft_cut-overflow_add-own : goal.draft_cut-overflow_add-own
draft_cut-overflow_add-own t c = omega (arith, (plan-later c.requires.1 c.requires.2).0)

pub draft_cut-draft_rule-one-requires : goal.draft_cut-draft_rule-one-requires
draft_cut-draft_rule-one-requires t c =
    let ahead = plan-later c.requires.1 c.requires.2 in
    (omega (arith, c.decreases, ahead.0, ahead.1), cut-starts c.requires.1 c.requires.0 c.requires.2)

pub draft_cut-bounds-row-k : goal.draft_cut-bounds-row-k
draft_cut-bounds-row-k t c = omega (arith, c.draft_rule-one.auto.row, (cut-room c.requires.1 c.requires.0 c.requires.2).0)

pub draft_cut-draft_rule-two-requires : goal.draft_cut-draft_rule-two-requires
draft_cut-draft_rule-two-requires t c =
    let ahead = plan-later c.requires.1 c.requires.2 in
    let one = c.draft_rule-one in
    (omega (arith, c.decreases, ahead.0, ahead.1, cut-goes c.requires.1 c.requires.0 c.requires.2 one.ensures.1), rw (c.replace-before.ensures.after, one.ensures.0) (cut-begins c.requires.1 c.requires.0 c.requires.2 one.ensures.1 one.auto.rows))

pub draft_cut-bounds-row-k-2 : goal.draft_cut-bounds-row-k-2
draft_cut-bounds-row-k-2 t c = omega (arith, c.draft_rule-two.auto.row, c.draft_rule-one.auto.row, length-set {A = CutEntry}, (cut-room c.requires.1 c.requires.0 c.requires.2).0)

pub draft_cut-put_cut-requires : goal.draft_cut-put_cut-requires
draft_cut-put_cut-requires t c =
    let one = c.draft_rule-one in
    let two = c.draft_rule-two in
    let ends = rw (c.replace-before.ensures.after, one.ensures.0) at two.ensures.1 in
    (cut-formula c.requires.1 c.requires.0 c.requires.2, cut-opens c.requires.1 c.requires.0 c.requires.2 one.ensures.1 one.auto.rows ends (two.auto.rows ∙ one.auto.rows))

pub draft_cut-returns : goal.draft_cut-returns
draft_cut-returns t c =
    let a = c.args in
    let one = c.draft_rule-one in
    let two = c.draft_rule-two in
    let ends = rw (c.replace-before.ensures.after, one.ensures.0) at two.ensures.1 in (
      rw (two.ensures.0, c.replace-before.ensures.after, c.replace-before.ensures.value, one.ensures.0) (restored a.row.now a.k _ (cut-room c.requires.1 c.requires.0 c.requires.2).0),
      cut-done c.requires.1 c.requires.0 c.requires.2 one.ensures.1 one.auto.rows ends c.put_cut.ensures,
    )

pub draft_rule-overflow_add-counter : goal.draft_rule-overflow_add-counter
draft_rule-overflow_add-counter t c =
    omega (arith, (first-begins c.plan_at-plan.ensures c.in-First.is c.requires).1, (starts-open c.requires).1)

pub draft_rule-draft_rule-one-requires : goal.draft_rule-draft_rule-one-requires
draft_rule-draft_rule-one-requires t c =
    let ahead = plan-later c.plan_at-plan.ensures c.requires in
    (omega (arith, c.decreases, ahead.0, ahead.1), (first-begins c.plan_at-plan.ensures c.in-First.is c.requires).0)

pub draft_rule-overflow_sub-plan : goal.draft_rule-overflow_sub-plan
draft_rule-overflow_sub-plan t c = omega (arith, (first-skips c.plan_at-plan.ensures c.in-First.is c.requires c.draft_rule-one.ensures.1).1)

pub draft_rule-skip_proofs-next-requires : goal.draft_rule-skip_proofs-next-requires
draft_rule-skip_proofs-next-requires t c = (first-skips c.plan_at-plan.ensures c.in-First.is c.requires c.draft_rule-one.ensures.1).0

pub draft_rule-put_over-requires : goal.draft_rule-put_over-requires
draft_rule-put_over-requires t c = first-opens c.plan_at-plan.ensures c.in-First.is c.requires c.draft_rule-one.ensures.1 c.draft_rule-one.auto.rows

pub draft_rule-draft_rule-one-requires-in-Pair : goal.draft_rule-draft_rule-one-requires-in-Pair
draft_rule-draft_rule-one-requires-in-Pair t c =
    let ahead = plan-later c.plan_at-plan.ensures c.requires in
    (omega (arith, c.decreases, ahead.0, ahead.1), pair-starts c.plan_at-plan.ensures c.in-Pair.is c.requires)

pub draft_rule-draft_rule-two-requires : goal.draft_rule-draft_rule-two-requires
draft_rule-draft_rule-two-requires t c =
    let ahead = plan-later c.plan_at-plan.ensures c.requires in
    let one = c.draft_rule-one-in-Pair in
    (omega (arith, c.decreases, ahead.0, ahead.1, pair-on c.plan_at-plan.ensures c.in-Pair.is c.requires one.ensures.1), rw one.ensures.0 (pair-begins c.plan_at-plan.ensures c.in-Pair.is c.requires one.ensures.1 one.auto.rows))

pub draft_rule-put_pair-requires : goal.draft_rule-put_pair-requires
draft_rule-put_pair-requires t c =
    let one = c.draft_rule-one-in-Pair in
    let two = c.draft_rule-two in
    let ends = rw one.ensures.0 at two.ensures.1 in
    pair-opens c.plan_at-plan.ensures c.in-Pair.is c.requires one.ensures.1 one.auto.rows ends (two.auto.rows ∙ one.auto.rows)

pub draft_rule-returns-in-Leaf : goal.draft_rule-returns-in-Leaf
draft_rule-returns-in-Leaf t c = (refl, c.take_leaf.ensures _ _ _ _ c.plan_at-plan.ensures c.requires)

pub draft_rule-returns-in-Bare : goal.draft_rule-returns-in-Bare
draft_rule-returns-in-Bare t c = (refl, c.draft_bare.ensures _ _ _ _ c.plan_at-plan.ensures c.requires)

pub draft_rule-returns-in-First : goal.draft_rule-returns-in-First
draft_rule-returns-in-First t c =
    let one = c.draft_rule-one in
    (one.ensures.0, first_done c.plan_at-plan.ensures c.in-First.is c.requires one.ensures.1 c.skip_proofs-next.ensures c.put_over.ensures)

pub draft_rule-returns-in-Pair : goal.draft_rule-returns-in-Pair
draft_rule-returns-in-Pair t c =
    let one = c.draft_rule-one-in-Pair in
    let two = c.draft_rule-two in
    let ends = rw one.ensures.0 at two.ensures.1 in
    (two.ensures.0 ∙ one.ensures.0, pair-done c.plan_at-plan.ensures c.in-Pair.is c.requires one.ensures.1 one.auto.rows ends c.put_pair.ensures)
