-- `straight::passes` meets its contract: the tag says whether the node binds names. Assumes nothing.
use borrow.Author.Rules.{rules}
use Rattle.term.proofs.node.Terms.{at-inside}
use Rattle.straight.proofs.Nodes.{some-abs, so-abs, some-let, so-let, so-plain}
use Rattle.straight.proofs.passes.Goals as goal

pub abs_passes-requires : goal.abs_passes-requires
abs_passes-requires c = some-abs c.in-5.is c.requires

pub bounds-s-at : goal.bounds-s-at
bounds-s-at c = let (w, t, a) = c.requires in at-inside _ _ t a.here

pub let_passes-requires : goal.let_passes-requires
let_passes-requires c = some-let c.in-4.is c.requires

pub returns-in-5 : goal.returns-in-5
returns-in-5 c = so-abs c.in-5.is _ c.abs_passes.ensures

pub returns-in-4 : goal.returns-in-4
returns-in-4 c = so-let c.in-4.is _ c.let_passes.ensures

pub returns-in_default : goal.returns-in_default
returns-in_default c = so-plain _ c.plain.ensures (search rules) (search rules)
