-- `name::digit_count` meets its contract: what is counted and what is left make up the digits. Assumes nothing.
use native.Mathlib.Omega.{arith}
use Rattle.draft.proofs.row.Numbering.{count-three, count-one, count-below, count-some}
use Rattle.draft.proofs.name.digit_count.Goals as goal

pub loop-rest-init : goal.loop-rest-init
loop-rest-init c = (omega arith, count-some _ (omega arith))

pub loop-rest-preserved : goal.loop-rest-preserved
loop-rest-preserved c = (omega (arith, count-three c.loop-rest.rest c.loop-rest-test.true), c.loop-rest.invariant.1)

pub returns : goal.returns
returns c = omega (arith, (count-below c.loop-rest.rest (omega arith)).1 (omega arith))

pub returns-then-rest-lt10 : goal.returns-then-rest-lt10
returns-then-rest-lt10 c = omega (arith, count-one c.loop-rest.rest c.if-rest-lt10.true)

pub returns-then-rest-lt100 : goal.returns-then-rest-lt100
returns-then-rest-lt100 c = omega (arith, (count-below c.loop-rest.rest (omega arith)).0 (omega arith) (omega arith))
