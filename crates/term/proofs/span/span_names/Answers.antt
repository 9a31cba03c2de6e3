-- `span::span_names` meets its contract: the second name starts where the first ends. Assumes nothing.
use mathlib.Core.List.{[], ◌∷◌}
use Rattle.term.proofs.node.Names.{first-name, single}
use Rattle.term.proofs.span.Extents.{second-name, named}
use Rattle.term.proofs.span.span_names.Goals as goal

pub after_names-end-requires : goal.after_names-end-requires
after_names-end-requires c = let w = c.requires in (w.1 ∷ [], single _ _ w.1 (second-name _ _ _ c.after_names-second.ensures w.0 w.1 w.2))

pub after_names-second-requires : goal.after_names-second-requires
after_names-second-requires c = let w = c.requires in (w.0 ∷ [], single _ _ w.0 (first-name _ _ 2 w.0 (w.1 ∷ []) w.2))

pub returns : goal.returns
returns c = named _ _ _ c.after_names-second.ensures _ c.after_names-end.ensures
