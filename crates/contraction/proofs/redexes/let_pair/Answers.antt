-- `redexes::let_pair` meets its contract: the parts of the Pair go into the body behind them, one after the other.
-- Assumes nothing.
use native.Mathlib.Omega.{arith}
use Rattle.term.proofs.span.Rows.{both-names}
use Rattle.contraction.proofs.part.Standing.{inside}
use Rattle.contraction.proofs.Jobs.{let-first, let-inside, let-second, let-nodes, let-pairing}
use Rattle.contraction.proofs.redexes.let_pair.Goals as goal

pub both-requires : goal.both-requires
both-requires c =
    let j = c.requires.redex.5 in
    let m = c.span_names-names.ensures _ _ (both-names _ _ _ _ _ j.stands) in
    let h = c.span-first.ensures _ (let-first j m) in
    record {
      pairing = (_, _, _, _, _, _, let-pairing j m h (c.span-second.ensures _ (let-second j m h)));
      row = c.requires.row;
    }

pub overflow_add-from : goal.overflow_add-from
overflow_add-from c =
    let j = c.requires.redex.5 in
    omega (arith, let-inside j (c.span_names-names.ensures _ _ (both-names _ _ _ _ _ j.stands)))

pub overflow_sub-rest : goal.overflow_sub-rest
overflow_sub-rest c =
    let j = c.requires.redex.5 in
    let m = c.span_names-names.ensures _ _ (both-names _ _ _ _ _ j.stands) in
    let h = c.span-first.ensures _ (let-first j m) in
    omega (arith, let-nodes j m h (c.span-second.ensures _ (let-second j m h)))

pub overflow_sub-rest-2 : goal.overflow_sub-rest-2
overflow_sub-rest-2 c =
    let j = c.requires.redex.5 in
    let m = c.span_names-names.ensures _ _ (both-names _ _ _ _ _ j.stands) in
    let h = c.span-first.ensures _ (let-first j m) in
    omega (arith, let-nodes j m h (c.span-second.ensures _ (let-second j m h)))

pub overflow_sub-rest-3 : goal.overflow_sub-rest-3
overflow_sub-rest-3 c =
    let j = c.requires.redex.5 in
    let m = c.span_names-names.ensures _ _ (both-names _ _ _ _ _ j.stands) in
    let h = c.span-first.ensures _ (let-first j m) in
    omega (arith, let-nodes j m h (c.span-second.ensures _ (let-second j m h)))

pub returns : goal.returns
returns c = record {
  contracts = λ x y a b e j.
      let m = c.span_names-names.ensures _ _ (both-names _ _ _ _ _ j.stands) in
      let h = c.span-first.ensures _ (let-first j m) in
      c.both.ensures.contracts _ _ _ _ _ _ (let-pairing j m h (c.span-second.ensures _ (let-second j m h)));
  row_2 = c.both.ensures.row_2;
}

pub span-first-requires : goal.span-first-requires
span-first-requires c =
    let j = c.requires.redex.5 in
    (_, let-first j (c.span_names-names.ensures _ _ (both-names _ _ _ _ _ j.stands)))

pub span-second-requires : goal.span-second-requires
span-second-requires c =
    let j = c.requires.redex.5 in
    let m = c.span_names-names.ensures _ _ (both-names _ _ _ _ _ j.stands) in
    (_, let-second j m (c.span-first.ensures _ (let-first j m)))

pub span_names-names-requires : goal.span_names-names-requires
span_names-names-requires c = (_, _, both-names _ _ _ _ _ c.requires.redex.5.stands)

pub overflow_add-site : goal.overflow_add-site
overflow_add-site c = omega (arith, inside c.requires.redex.5)
