-- `redexes::second` meets its contract: the first part of the Pair goes, the second stays where it is. Assumes nothing.
use native.Mathlib.Omega.{arith}
use Rattle.contraction.specs.Stays.{of-snd}
use Rattle.contraction.proofs.part.Standing.{inside}
use Rattle.contraction.proofs.Staying.{in_pair, first_part, gone-nodes, second-stays}
use Rattle.contraction.proofs.redexes.second.Goals as goal

pub overflow_sub-result : goal.overflow_sub-result
overflow_sub-result c =
    let j = c.requires.2 in
    omega (arith, gone-nodes j (in_pair j) (c.span-gone.ensures _ (first_part j (in_pair j))))

pub overflow_sub-result-2 : goal.overflow_sub-result-2
overflow_sub-result-2 c =
    let j = c.requires.2 in
    omega (arith, gone-nodes j (in_pair j) (c.span-gone.ensures _ (first_part j (in_pair j))))

pub returns : goal.returns
returns c a b j made = second-stays j (in_pair j) (c.span-gone.ensures _ (first_part j (in_pair j))) (of-snd a b) _ made

pub span-gone-requires : goal.span-gone-requires
span-gone-requires c = (_, first_part c.requires.2 (in_pair c.requires.2))

pub overflow_add-site : goal.overflow_add-site
overflow_add-site c = omega (arith, inside c.requires.2, (in_pair c.requires.2).ends)
