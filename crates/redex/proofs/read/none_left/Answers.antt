-- `read::none_left` meets its contract: where the search ends says whether the rules step. Assumes nothing.
use mathlib.Core.Path.{ap, ◌∙◌}
use Rattle.std.specs.Prelude.{is_err}
use Rattle.term.proofs.node.Terms.{whole}
use Rattle.redex.proofs.read.Rest.{rests}
use Rattle.redex.proofs.read.none_left.Goals as goal

pub returns : goal.returns
returns c = λ t d. c.is_err.ensures.value ∙ ap is_err (c.find.ensures t (whole t _ d)) ∙ rests t
