-- `axiom::opposed` meets its contract: tags that add up to 3, and the same name. Assumes nothing.
use mathlib.Core.Path.{refl}
use native.Mathlib.Omega.{arith}
use Rattle.proof.proofs.rule.Formulas.{formula-inside}
use Rattle.proof_draft.proofs.axiom.Opposites.{atom-room, cuts-not, other_name, cuts-same}
use Rattle.proof_draft.proofs.axiom.opposed.Goals as goal

pub bounds-s-atom : goal.bounds-s-atom
bounds-s-atom c = let (k, a, f, v, w) = c.requires in formula-inside _ _ _ v

pub bounds-s-name : goal.bounds-s-name
bounds-s-name c = omega (arith, atom-room _ _ _ c.requires)

pub bounds-s-place : goal.bounds-s-place
bounds-s-place c = let (k, a, f, v, w) = c.requires in formula-inside _ _ _ w

pub overflow_add-end : goal.overflow_add-end
overflow_add-end c = omega (arith, atom-room _ _ _ c.requires)

pub overflow_add-from : goal.overflow_add-from
overflow_add-from c = omega (arith, atom-room _ _ _ c.requires)

pub overflow_add-name : goal.overflow_add-name
overflow_add-name c = omega (arith, atom-room _ _ _ c.requires)

pub overflow_add-place : goal.overflow_add-place
overflow_add-place c = let (k, a, f, v, w) = c.requires in omega (arith, formula-inside _ _ _ w)

pub returns : goal.returns
returns c = cuts-same _ _ _ c.if-own-other-ne3.false _ _ refl c.same_name.ensures

pub returns-then-own-other-ne3 : goal.returns-then-own-other-ne3
returns-then-own-other-ne3 c = cuts-not _ _ _ c.if-own-other-ne3.true

pub same_name-requires : goal.same_name-requires
same_name-requires c = other_name _ _ _ c.if-own-other-ne3.false c.requires

pub slice_bounds-same_name-end : goal.slice_bounds-same_name-end
slice_bounds-same_name-end c = omega (arith, atom-room _ _ _ c.requires)
