-- `uses::uses_at` meets its contract: the tag tells whether the names are used or stand at binders. Assumes nothing.
use native.Mathlib.Omega.{arith}
use borrow.Author.Rules.{rules}
use Rattle.term.proofs.node.Terms.{at-inside, at_small, some-names}
use Rattle.straight.proofs.uses.Meets.{met-variable, met-other}
use Rattle.straight.proofs.uses.uses_at.Goals as goal

pub bounds-s-at : goal.bounds-s-at
bounds-s-at c = at-inside _ _ c.requires.0 c.requires.1

pub names_of-requires : goal.names_of-requires
names_of-requires c = omega (arith, at_small _ _ c.requires.0 c.requires.1)

pub overflow_add-at : goal.overflow_add-at
overflow_add-at c = omega (arith, at-inside _ _ c.requires.0 c.requires.1)

pub parts_of-parts-requires : goal.parts_of-parts-requires
parts_of-parts-requires c = omega (arith, at_small _ _ c.requires.0 c.requires.1)

pub returns-in_default : goal.returns-in_default
returns-in_default c = met-other c.names_of.ensures c.parts_of-parts.ensures _ _ c.same_names-named.ensures (search rules)

pub returns-in-1 : goal.returns-in-1
returns-in-1 c = met-variable c.names_of.ensures c.parts_of-parts.ensures _ _ c.same_names-named.ensures c.in-1.is

pub same_names-named-requires : goal.same_names-named-requires
same_names-named-requires c = some-names _ _ c.requires _ c.names_of.ensures
