-- `rule::look_rule` meets its contract: each piece of a rule starts where the one before it ends. Assumes nothing.
use native.Mathlib.Omega.{arith}
use Rattle.proof.proofs.rule.Rules.{here-inside, own_room, linear-some, count_room, sees}
use Rattle.proof.proofs.rule.look_rule.Goals as goal

pub bounds-s-at : goal.bounds-s-at
bounds-s-at c = here-inside _ _ c.requires

pub bounds-s-count : goal.bounds-s-count
bounds-s-count c = count_room _ _ _ c.past_own-linear.ensures _ c.skip_formulas-count.ensures c.requires

pub bounds-s-linear : goal.bounds-s-linear
bounds-s-linear c = own_room _ _ _ c.past_own-linear.ensures c.requires

pub overflow_add-linear : goal.overflow_add-linear
overflow_add-linear c = omega (arith, own_room _ _ _ c.past_own-linear.ensures c.requires)

pub overflow_add-result : goal.overflow_add-result
overflow_add-result c = omega (arith, count_room _ _ _ c.past_own-linear.ensures _ c.skip_formulas-count.ensures c.requires)

pub returns : goal.returns
returns c = sees _ _ _ c.past_own-linear.ensures _ c.skip_formulas-count.ensures

pub skip_formulas-count-requires : goal.skip_formulas-count-requires
skip_formulas-count-requires c = linear-some _ _ _ c.past_own-linear.ensures c.requires
