-- `phrase::leaf` meets its contract: its word is all of its text. Assumes nothing.
use Rattle.rules.specs.Term.{leaf}
use Rattle.term_text.proofs.phrase.Shaped.{begun, leaf-asked, leaf-places, leaf-done}
use Rattle.term_text.proofs.phrase.leaf.Goals as goal

pub bounds-s-at : goal.bounds-s-at
bounds-s-at c = let w = c.requires in begun (leaf w.0) w.1

pub places-requires : goal.places-requires
places-requires c = let w = c.requires in leaf-places w.0 w.1 c.sign-o.ensures

pub returns : goal.returns
returns c k t = leaf-done k t c.sign-o.ensures c.places.ensures

pub sign-o-requires : goal.sign-o-requires
sign-o-requires c = let w = c.requires in leaf-asked w.0 w.1
