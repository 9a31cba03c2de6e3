-- `redexes::discard` meets its contract: the Promote goes, the body stays where it is. Assumes nothing.
use native.Mathlib.Omega.{arith}
use Rattle.contraction.specs.Stays.{of-discard}
use Rattle.contraction.proofs.part.Standing.{inside}
use Rattle.contraction.proofs.Staying.{in_two, first_part, gone-nodes, second-stays}
use Rattle.contraction.proofs.redexes.discard.Goals as goal

pub overflow_sub-result : goal.overflow_sub-result
overflow_sub-result c =
    let j = c.requires.2 in
    omega (arith, gone-nodes j (in_two j) (c.span-gone.ensures _ (first_part j (in_two j))))

pub overflow_sub-result-2 : goal.overflow_sub-result-2
overflow_sub-result-2 c =
    let j = c.requires.2 in
    omega (arith, gone-nodes j (in_two j) (c.span-gone.ensures _ (first_part j (in_two j))))

pub returns : goal.returns
returns c v e j made = second-stays j (in_two j) (c.span-gone.ensures _ (first_part j (in_two j))) (of-discard v e) _ made

pub span-gone-requires : goal.span-gone-requires
span-gone-requires c = (_, first_part c.requires.2 (in_two c.requires.2))

pub overflow_add-site : goal.overflow_add-site
overflow_add-site c = omega (arith, inside c.requires.2, (in_two c.requires.2).ends)
