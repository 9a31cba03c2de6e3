-- `case::branch` meets its contract: the scrutinee's tag says which branch the injected part goes into, and the other one is passed.
-- Assumes nothing.
use native.Mathlib.Omega.{arith}
use Rattle.term.proofs.span.Rows.{branch-names, scrutinee-inside, scrutinee-tag}
use Rattle.redex.proofs.find.Forms.{is-left, is_right}
use Rattle.contraction.proofs.part.Standing.{inside}
use Rattle.contraction.proofs.case.Jobs.{case-value, case-inside, case-nodes, branches-few, case-left, left-short, left_other, left-nodes, left-placing, case-right, right-short, right-nodes, right-placing}
use Rattle.contraction.proofs.case.branch.Goals as goal

pub bounds-s-scrutinee : goal.bounds-s-scrutinee
bounds-s-scrutinee c =
    let j = c.requires.redex.6 in
    scrutinee-inside j.stands (c.span_names-names.ensures _ _ (branch-names _ _ _ _ _ j.stands))

pub find_in-body-requires-2 : goal.find_in-body-requires-2
find_in-body-requires-2 c =
    let j = c.requires.redex.6 in
    let m = c.span_names-names.ensures _ _ (branch-names _ _ _ _ _ j.stands) in
    let h = c.span-value.ensures _ (case-value j m) in
    let g = c.span-other-2.ensures _ (case-left j m h) in
    let i = case-inside j m in
    record {
      term_at = (_, case-right j m h g, (branches-few j m).1);
      short = (right-short j m h g, c.requires.row.0);
    }

pub find_in-body-requires : goal.find_in-body-requires
find_in-body-requires c =
    let j = c.requires.redex.6 in
    let m = c.span_names-names.ensures _ _ (branch-names _ _ _ _ _ j.stands) in
    let h = c.span-value.ensures _ (case-value j m) in
    let i = case-inside j m in
    record {
      term_at = (_, case-left j m h, (branches-few j m).0);
      short = (left-short j m h, c.requires.row.0);
    }

pub overflow_add-from : goal.overflow_add-from
overflow_add-from c =
    let j = c.requires.redex.6 in
    omega (arith, case-inside j (c.span_names-names.ensures _ _ (branch-names _ _ _ _ _ j.stands)))

pub overflow_add-middle : goal.overflow_add-middle
overflow_add-middle c =
    let j = c.requires.redex.6 in
    omega (arith, case-inside j (c.span_names-names.ensures _ _ (branch-names _ _ _ _ _ j.stands)))

pub overflow_sub-kept : goal.overflow_sub-kept
overflow_sub-kept c =
    let j = c.requires.redex.6 in
    let m = c.span_names-names.ensures _ _ (branch-names _ _ _ _ _ j.stands) in
    let h = c.span-value.ensures _ (case-value j m) in
    let o = c.find_in-body.ensures.kept _ (case-left j m h) in
    omega (arith, left-nodes j m h o (c.span-other.ensures _ (left_other j m h o)))

pub overflow_sub-kept-2 : goal.overflow_sub-kept-2
overflow_sub-kept-2 c =
    let j = c.requires.redex.6 in
    let m = c.span_names-names.ensures _ _ (branch-names _ _ _ _ _ j.stands) in
    let h = c.span-value.ensures _ (case-value j m) in
    omega (arith, right-nodes j m h (c.span-other-2.ensures _ (case-left j m h)))

pub overflow_sub-rest : goal.overflow_sub-rest
overflow_sub-rest c =
    let j = c.requires.redex.6 in
    let m = c.span_names-names.ensures _ _ (branch-names _ _ _ _ _ j.stands) in
    omega (arith, case-nodes j m (c.span-value.ensures _ (case-value j m)))

pub overflow_sub-rest-2 : goal.overflow_sub-rest-2
overflow_sub-rest-2 c =
    let j = c.requires.redex.6 in
    let m = c.span_names-names.ensures _ _ (branch-names _ _ _ _ _ j.stands) in
    omega (arith, case-nodes j m (c.span-value.ensures _ (case-value j m)))

pub put_here-requires-2 : goal.put_here-requires-2
put_here-requires-2 c =
    let j = c.requires.redex.6 in
    let m = c.span_names-names.ensures _ _ (branch-names _ _ _ _ _ j.stands) in
    let h = c.span-value.ensures _ (case-value j m) in
    let g = c.span-other-2.ensures _ (case-left j m h) in
    record {
      placing = (_, _, _, _, right-placing j m h g (c.find_in-body-2.ensures.kept _ (case-right j m h g)));
      room = c.requires.row.1;
    }

pub put_here-requires : goal.put_here-requires
put_here-requires c =
    let j = c.requires.redex.6 in
    let m = c.span_names-names.ensures _ _ (branch-names _ _ _ _ _ j.stands) in
    let h = c.span-value.ensures _ (case-value j m) in
    let o = c.find_in-body.ensures.kept _ (case-left j m h) in
    record {
      placing = (_, _, _, _, left-placing j m h o (c.span-other.ensures _ (left_other j m h o)));
      room = c.requires.row.1;
    }

pub returns : goal.returns
returns c = record {
  contracts = λ x y d v l r j.
      let m = c.span_names-names.ensures _ _ (branch-names _ _ _ _ _ j.stands) in
      let h = c.span-value.ensures _ (case-value j m) in
      let g = c.span-other-2.ensures _ (case-left j m h) in
      let is = is_right d _ (scrutinee-tag j.stands m) c.if-s-scrutinee-eq-INL.false in
      let c' = c.put_here-2.ensures _ _ _ _ (right-placing j m h g (c.find_in-body-2.ensures.kept _ (case-right j m h g))) in
      rw is (rw is at c');
  row_2 = c.find_in-body-2.ensures.row;
}

pub returns-then-s-scrutinee-eq-INL : goal.returns-then-s-scrutinee-eq-INL
returns-then-s-scrutinee-eq-INL c = record {
  contracts = λ x y d v l r j.
      let m = c.span_names-names.ensures _ _ (branch-names _ _ _ _ _ j.stands) in
      let h = c.span-value.ensures _ (case-value j m) in
      let o = c.find_in-body.ensures.kept _ (case-left j m h) in
      let is = is-left d _ (scrutinee-tag j.stands m) c.if-s-scrutinee-eq-INL.true in
      let c' = c.put_here.ensures _ _ _ _ (left-placing j m h o (c.span-other.ensures _ (left_other j m h o))) in
      rw is (rw is at c');
  row_2 = c.find_in-body.ensures.row;
}

pub span-other-requires : goal.span-other-requires
span-other-requires c =
    let j = c.requires.redex.6 in
    let m = c.span_names-names.ensures _ _ (branch-names _ _ _ _ _ j.stands) in
    let h = c.span-value.ensures _ (case-value j m) in
    (_, left_other j m h (c.find_in-body.ensures.kept _ (case-left j m h)))

pub span-other-requires-2 : goal.span-other-requires-2
span-other-requires-2 c =
    let j = c.requires.redex.6 in
    let m = c.span_names-names.ensures _ _ (branch-names _ _ _ _ _ j.stands) in
    (_, case-left j m (c.span-value.ensures _ (case-value j m)))

pub span-value-requires : goal.span-value-requires
span-value-requires c =
    let j = c.requires.redex.6 in
    (_, case-value j (c.span_names-names.ensures _ _ (branch-names _ _ _ _ _ j.stands)))

pub span_names-names-requires : goal.span_names-names-requires
span_names-names-requires c = (_, _, branch-names _ _ _ _ _ c.requires.redex.6.stands)

pub overflow_add-site : goal.overflow_add-site
overflow_add-site c = omega (arith, inside c.requires.redex.6)

pub overflow_add-site-then-s-scrutinee-eq-INL : goal.overflow_add-site-then-s-scrutinee-eq-INL
overflow_add-site-then-s-scrutinee-eq-INL c =
    let j = c.requires.redex.6 in
    omega (arith, case-inside j (c.span_names-names.ensures _ _ (branch-names _ _ _ _ _ j.stands)))

pub slice_bounds-find_in-count : goal.slice_bounds-find_in-count
slice_bounds-find_in-count c =
    let j = c.requires.redex.6 in
    omega (arith, case-inside j (c.span_names-names.ensures _ _ (branch-names _ _ _ _ _ j.stands)))

pub slice_bounds-find_in-end : goal.slice_bounds-find_in-end
slice_bounds-find_in-end c =
    let j = c.requires.redex.6 in
    omega (arith, case-inside j (c.span_names-names.ensures _ _ (branch-names _ _ _ _ _ j.stands)))

pub slice_bounds-find_in-start : goal.slice_bounds-find_in-start
slice_bounds-find_in-start c =
    let j = c.requires.redex.6 in
    omega (arith, case-inside j (c.span_names-names.ensures _ _ (branch-names _ _ _ _ _ j.stands)))

pub slice_bounds-find_in-count-2 : goal.slice_bounds-find_in-count-2
slice_bounds-find_in-count-2 c =
    let j = c.requires.redex.6 in
    omega (arith, case-inside j (c.span_names-names.ensures _ _ (branch-names _ _ _ _ _ j.stands)))

pub slice_bounds-find_in-end-2 : goal.slice_bounds-find_in-end-2
slice_bounds-find_in-end-2 c =
    let j = c.requires.redex.6 in
    omega (arith, case-inside j (c.span_names-names.ensures _ _ (branch-names _ _ _ _ _ j.stands)))

pub slice_bounds-find_in-start-2 : goal.slice_bounds-find_in-start-2
slice_bounds-find_in-start-2 c =
    let j = c.requires.redex.6 in
    omega (arith, case-inside j (c.span_names-names.ensures _ _ (branch-names _ _ _ _ _ j.stands)))
