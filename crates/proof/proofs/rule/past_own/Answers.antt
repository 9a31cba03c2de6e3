-- `rule::past_own` meets its contract: a tag tells what its rule carries. Assumes nothing.
use native.Mathlib.Omega.{arith}
use Rattle.proof.proofs.rule.Rules.{here-inside, formula-some, formula-past, index-past, nothing-past}
use Rattle.proof.proofs.rule.past_own.Goals as goal

pub bounds-s-at : goal.bounds-s-at
bounds-s-at c = here-inside _ _ c.requires

pub overflow_add-own : goal.overflow_add-own
overflow_add-own c = omega (arith, here-inside _ _ c.requires)

pub returns : goal.returns
returns c = nothing-past _ _ c.if-tag-eq-CUT.false c.if-tag-eq-FOCUS_POSITIVE.false c.if-tag-eq-FOCUS_NEGATIVE.false

pub returns-then-tag-eq-CUT : goal.returns-then-tag-eq-CUT
returns-then-tag-eq-CUT c = formula-past _ _ c.if-tag-eq-CUT.true _ c.skip_formulas.ensures

pub returns-then-tag-eq-FOCUS_POSITIVE : goal.returns-then-tag-eq-FOCUS_POSITIVE
returns-then-tag-eq-FOCUS_POSITIVE c = index-past _ _ c.then-tag-eq-FOCUS_POSITIVE.either

pub skip_formulas-requires : goal.skip_formulas-requires
skip_formulas-requires c = formula-some _ _ c.if-tag-eq-CUT.true c.requires
