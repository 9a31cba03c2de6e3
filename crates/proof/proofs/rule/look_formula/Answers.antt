-- `rule::look_formula` meets its contract: an atom has a name behind its tag, and another formula has none. Assumes nothing.
use native.Mathlib.Omega.{arith}
use Rattle.proof.proofs.rule.Formulas.{formula-inside, formula-small, name-end, spread-atom, spread-other}
use Rattle.proof.proofs.rule.look_formula.Goals as goal

pub bounds-s-at : goal.bounds-s-at
bounds-s-at c = formula-inside _ _ c.requires.0 c.requires.1

pub bounds-s-past : goal.bounds-s-past
bounds-s-past c = omega (arith, name-end _ _ c.requires (omega arith))

pub formula_parts-requires : goal.formula_parts-requires
formula_parts-requires c = formula-small _ _ c.requires.0 c.requires.1

pub overflow_add-past : goal.overflow_add-past
overflow_add-past c = omega (arith, formula-inside _ _ c.requires.0 c.requires.1)

pub overflow_add-result : goal.overflow_add-result
overflow_add-result c = omega (arith, name-end _ _ c.requires (omega arith))

pub overflow_add-result-then-tag-le-NEG_ATOM : goal.overflow_add-result-then-tag-le-NEG_ATOM
overflow_add-result-then-tag-le-NEG_ATOM c = omega (arith, name-end _ _ c.requires (omega arith))

pub returns : goal.returns
returns c = spread-other _ _ (omega arith) _ c.formula_parts.ensures

pub returns-then-tag-le-NEG_ATOM : goal.returns-then-tag-le-NEG_ATOM
returns-then-tag-le-NEG_ATOM c = spread-atom _ _ (omega arith)
