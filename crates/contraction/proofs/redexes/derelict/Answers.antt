-- `redexes::derelict` meets its contract: the part of the Promote stays where it is. Assumes nothing.
use native.Mathlib.Omega.{arith}
use Rattle.contraction.specs.Stays.{of-derelict}
use Rattle.contraction.proofs.Staying.{one-bounds, one-stays}
use Rattle.contraction.proofs.redexes.derelict.Goals as goal

pub overflow_sub-result : goal.overflow_sub-result
overflow_sub-result c = omega (arith, one-bounds c.requires.1)

pub returns : goal.returns
returns c v j made = one-stays j (of-derelict v) _ made

pub overflow_add-result : goal.overflow_add-result
overflow_add-result c = omega (arith, one-bounds c.requires.1)
