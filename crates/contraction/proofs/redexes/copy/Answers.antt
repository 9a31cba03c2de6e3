-- `redexes::copy` meets its contract: the Promote goes into the body behind it twice, in turn. Assumes nothing.
use native.Mathlib.Omega.{arith}
use Rattle.term.proofs.span.Rows.{both-names}
use Rattle.contraction.proofs.part.Standing.{inside}
use Rattle.contraction.proofs.Jobs.{copy-source, copy-pairing, copy-nodes}
use Rattle.contraction.proofs.redexes.copy.Goals as goal

pub both-requires : goal.both-requires
both-requires c =
    let j = c.requires.redex.4 in
    let m = c.span_names-names.ensures _ _ (both-names _ _ _ _ _ j.stands) in
    record {
      pairing = (_, _, _, _, _, _, copy-pairing j m (c.span-source.ensures _ (copy-source j m)));
      row = c.requires.row;
    }

pub overflow_sub-rest : goal.overflow_sub-rest
overflow_sub-rest c =
    let j = c.requires.redex.4 in
    let m = c.span_names-names.ensures _ _ (both-names _ _ _ _ _ j.stands) in
    omega (arith, copy-nodes j m (c.span-source.ensures _ (copy-source j m)))

pub overflow_sub-rest-2 : goal.overflow_sub-rest-2
overflow_sub-rest-2 c =
    let j = c.requires.redex.4 in
    let m = c.span_names-names.ensures _ _ (both-names _ _ _ _ _ j.stands) in
    omega (arith, copy-nodes j m (c.span-source.ensures _ (copy-source j m)))

pub returns : goal.returns
returns c = record {
  contracts = λ x y v e j.
      let m = c.span_names-names.ensures _ _ (both-names _ _ _ _ _ j.stands) in
      c.both.ensures.contracts _ _ _ _ _ _ (copy-pairing j m (c.span-source.ensures _ (copy-source j m)));
  row_2 = c.both.ensures.row_2;
}

pub span-source-requires : goal.span-source-requires
span-source-requires c =
    let j = c.requires.redex.4 in
    (_, copy-source j (c.span_names-names.ensures _ _ (both-names _ _ _ _ _ j.stands)))

pub span_names-names-requires : goal.span_names-names-requires
span_names-names-requires c = (_, _, both-names _ _ _ _ _ c.requires.redex.4.stands)

pub overflow_add-site : goal.overflow_add-site
overflow_add-site c = omega (arith, inside c.requires.redex.4)
