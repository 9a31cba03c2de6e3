-- `node::parts_at` meets its contract: the names end where the parts start. Assumes nothing.
use native.Mathlib.Omega.{arith}
use mathlib.Core.Path.{◌∙◌}
use Rattle.term.proofs.node.Terms.{at-inside, at_small, at-count-parts, some-names, starts}
use Rattle.term.proofs.node.parts_at.Goals as goal

pub after_names-start-requires : goal.after_names-start-requires
after_names-start-requires c = some-names _ _ c.requires _ c.names_of.ensures

pub bounds-s-at : goal.bounds-s-at
bounds-s-at c = at-inside _ _ c.requires.0 c.requires.1

pub names_of-requires : goal.names_of-requires
names_of-requires c = omega (arith, at_small _ _ c.requires.0 c.requires.1)

pub overflow_add-at : goal.overflow_add-at
overflow_add-at c = omega (arith, at-inside _ _ c.requires.0 c.requires.1)

pub parts_of-parts-requires : goal.parts_of-parts-requires
parts_of-parts-requires c = omega (arith, at_small _ _ c.requires.0 c.requires.1)

pub returns : goal.returns
returns c t w = (starts _ _ _ _ c.names_of.ensures c.after_names-start.ensures t w, c.parts_of-parts.ensures ∙ at-count-parts _ _ t w)
