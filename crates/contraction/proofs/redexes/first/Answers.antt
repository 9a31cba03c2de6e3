-- `redexes::first` meets its contract: the parts of the Pair stand in a row, and the first is written. Assumes nothing.
use native.Mathlib.Omega.{arith}
use Rattle.contraction.specs.Stays.{of-fst}
use Rattle.contraction.proofs.part.Standing.{inside}
use Rattle.contraction.proofs.Staying.{in_pair, kept-nodes, first-room, first-kept}
use Rattle.contraction.proofs.redexes.first.Goals as goal

pub copy-size-requires : goal.copy-size-requires
copy-size-requires c =
    let j = c.requires.redex.2 in
    first-room j (in_pair j) (c.span_two-row.ensures _ _ (in_pair j).row) c.requires.room

pub overflow_add-a : goal.overflow_add-a
overflow_add-a c = omega (arith, inside c.requires.redex.2, (in_pair c.requires.redex.2).ends)

pub overflow_sub-result : goal.overflow_sub-result
overflow_sub-result c =
    let j = c.requires.redex.2 in
    omega (arith, kept-nodes j (in_pair j) (c.span_two-row.ensures _ _ (in_pair j).row))

pub overflow_sub-result-2 : goal.overflow_sub-result-2
overflow_sub-result-2 c =
    let j = c.requires.redex.2 in
    omega (arith, kept-nodes j (in_pair j) (c.span_two-row.ensures _ _ (in_pair j).row))

pub returns : goal.returns
returns c a b j = first-kept j (in_pair j) (c.span_two-row.ensures _ _ (in_pair j).row) (of-fst a b) c.requires.room c.copy-size.ensures

pub span_two-row-requires : goal.span_two-row-requires
span_two-row-requires c = (_, _, (in_pair c.requires.redex.2).row)
