-- `app::apply` meets its contract: the argument goes into the body, which stands in front of it, or stays where it is.
-- Assumes nothing.
use mathlib.Core.Path.{sym, ◌∙◌}
use native.Mathlib.Omega.{arith}
use Rattle.term.proofs.span.Rows.{app-name}
use Rattle.contraction.proofs.part.Standing.{inside}
use Rattle.contraction.proofs.app.Jobs.{app-body, app-few, app-bounds, app-argument, app-numbers, ends-in, app-placing, tail-room, tail-few, tail-stays}
use Rattle.contraction.proofs.app.apply.Goals as goal

pub after_names-from-requires : goal.after_names-from-requires
after_names-from-requires c = (_, app-name _ _ _ c.requires.redex.3.stands)

pub copy-size-requires : goal.copy-size-requires
copy-size-requires c =
    let j = c.requires.redex.3 in
    let g = c.after_names-from.ensures in
    let r = tail-room j g (c.find_in-body.ensures.kept _ (app-body j g)) (sym (ends-in j g (c.find_in-body.ensures.kept _ (app-body j g)) c.ends_body.ensures) ∙ c.if-ends_body.true) c.requires.row.1 in
    (r.1, r.2, r.3)

pub ends_body-requires : goal.ends_body-requires
ends_body-requires c =
    let j = c.requires.redex.3 in
    let g = c.after_names-from.ensures in
    let b = app-numbers j g (c.find_in-body.ensures.kept _ (app-body j g)) in
    b.gap-small

pub find_in-body-requires : goal.find_in-body-requires
find_in-body-requires c =
    let j = c.requires.redex.3 in
    let g = c.after_names-from.ensures in
    let b = app-bounds j g in
    record { term_at = (_, app-body j g, app-few j g); short = (b.2, c.requires.row.0) }

pub overflow_sub-arg : goal.overflow_sub-arg
overflow_sub-arg c =
    let j = c.requires.redex.3 in
    let g = c.after_names-from.ensures in
    omega (arith, app-numbers j g (c.find_in-body.ensures.kept _ (app-body j g)))

pub overflow_sub-rest : goal.overflow_sub-rest
overflow_sub-rest c =
    let j = c.requires.redex.3 in
    let g = c.after_names-from.ensures in
    omega (arith, (app-numbers j g (c.find_in-body.ensures.kept _ (app-body j g))).count, j.nodes-in)

pub overflow_sub-rest-2 : goal.overflow_sub-rest-2
overflow_sub-rest-2 c =
    let j = c.requires.redex.3 in
    let g = c.after_names-from.ensures in
    let k = c.find_in-body.ensures.kept _ (app-body j g) in
    omega (arith, (app-numbers j g k).count, j.nodes-in, (c.span-value.ensures _ (app-argument j g k)).nodes)

pub overflow_sub-result : goal.overflow_sub-result
overflow_sub-result c =
    let j = c.requires.redex.3 in
    let g = c.after_names-from.ensures in
    omega (arith, tail-few j g (c.find_in-body.ensures.kept _ (app-body j g)) (sym (ends-in j g (c.find_in-body.ensures.kept _ (app-body j g)) c.ends_body.ensures) ∙ c.if-ends_body.true))

pub put_here-requires : goal.put_here-requires
put_here-requires c =
    let j = c.requires.redex.3 in
    let g = c.after_names-from.ensures in
    let k = c.find_in-body.ensures.kept _ (app-body j g) in
    record {
      placing = (_, _, _, _, app-placing j g k (c.span-value.ensures _ (app-argument j g k)) (sym (ends-in j g k c.ends_body.ensures) ∙ c.if-ends_body.false));
      room = c.requires.row.1;
    }

pub returns : goal.returns
returns c =
    record {
      contracts = λ x e a j.
          let g = c.after_names-from.ensures in
          let k = c.find_in-body.ensures.kept _ (app-body j g) in
          c.put_here.ensures _ _ _ _ (app-placing j g k (c.span-value.ensures _ (app-argument j g k)) (sym (ends-in j g k c.ends_body.ensures) ∙ c.if-ends_body.false));
      row_2 = c.find_in-body.ensures.row;
    }

pub returns-then-ends_body : goal.returns-then-ends_body
returns-then-ends_body c =
    record {
      contracts = λ x e a j.
          let g = c.after_names-from.ensures in
          tail-stays j g (c.find_in-body.ensures.kept _ (app-body j g)) (sym (ends-in j g (c.find_in-body.ensures.kept _ (app-body j g)) c.ends_body.ensures) ∙ c.if-ends_body.true) c.requires.row.1 c.copy-size.ensures;
      row_2 = c.find_in-body.ensures.row;
    }

pub span-value-requires : goal.span-value-requires
span-value-requires c =
    let j = c.requires.redex.3 in
    let g = c.after_names-from.ensures in
    (_, app-argument j g (c.find_in-body.ensures.kept _ (app-body j g)))

pub overflow_add-site : goal.overflow_add-site
overflow_add-site c = omega (arith, inside c.requires.redex.3)

pub overflow_add-site-2 : goal.overflow_add-site-2
overflow_add-site-2 c = omega (arith, app-bounds c.requires.redex.3 c.after_names-from.ensures)

pub shared_ref_as_front-kept : goal.shared_ref_as_front-kept
shared_ref_as_front-kept c =
    let j = c.requires.redex.3 in
    let g = c.after_names-from.ensures in
    omega (arith, (app-numbers j g (c.find_in-body.ensures.kept _ (app-body j g))).held_in, c.find_in-body.ensures.row)

pub slice_bounds-find_in-count : goal.slice_bounds-find_in-count
slice_bounds-find_in-count c = omega (arith, app-bounds c.requires.redex.3 c.after_names-from.ensures)

pub slice_bounds-find_in-end : goal.slice_bounds-find_in-end
slice_bounds-find_in-end c = omega (arith, app-bounds c.requires.redex.3 c.after_names-from.ensures)

pub slice_bounds-find_in-start : goal.slice_bounds-find_in-start
slice_bounds-find_in-start c = omega (arith, app-bounds c.requires.redex.3 c.after_names-from.ensures)
