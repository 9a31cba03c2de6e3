-- `node::same_name` meets its contract: the part that it compares is the name. Assumes nothing.
use mathlib.Core.Path.{ap, ◌∙◌}
use Rattle.rules.specs.Name.{Name, same}
use Rattle.term.proofs.node.same_name.Goals as goal

pub returns : goal.returns
returns c y w = c.same.ensures ∙ ap (λ (z : Name). same c.args.sought.now z) (c.name.ensures y w)
