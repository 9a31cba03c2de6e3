-- `span::span` meets its contract: a term by itself is a row of one. Assumes nothing.
use Rattle.term.proofs.node.Terms.{alone, some_alone}
use Rattle.term.proofs.span.Extents.{one-measured}
use Rattle.term.proofs.span.span.Goals as goal

pub span_row-requires : goal.span_row-requires
span_row-requires c = some_alone _ _ c.requires

pub returns : goal.returns
returns c t w = one-measured _ t _ (c.span_row.ensures _ (alone _ _ t w))
