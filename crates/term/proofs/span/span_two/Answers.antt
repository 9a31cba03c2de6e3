-- `span::span_two` meets its contract: each term starts where the one before it ends. Assumes nothing.
use mathlib.Core.List.{[]}
use Rattle.term.proofs.span.Extents.{row-second, both-measured}
use Rattle.term.proofs.span.span_two.Goals as goal

pub returns : goal.returns
returns c = both-measured _ _ _ c.span-a.ensures _ c.span-b.ensures

pub span-b-requires : goal.span-b-requires
span-b-requires c = let w = c.requires in (w.1, row-second _ _ _ c.span-a.ensures 2 w.0 w.1 [] w.2)
