-- `walk::leaf` meets its contract: its name, or no bytes, then its sign. Assumes nothing.
use Rattle.std.proofs.Common.{arith}
use Rattle.formula_text.proofs.walk.Shapes.{begun}
use Rattle.formula_text.proofs.walk.Leaves.{leafed, leaf-asked, sign-room, leaf-places, leaf-done}
use Rattle.formula_text.proofs.walk.leaf.Goals as goal

pub bounds-s-at : goal.bounds-s-at
bounds-s-at c = let w = c.requires in begun w.0 w.2

pub bounds-s-at-2 : goal.bounds-s-at-2
bounds-s-at-2 c = let w = c.requires in omega (arith, (leafed w.0 w.1 w.2 c.names_of-names.ensures).fits)

pub few-a-requires : goal.few-a-requires
few-a-requires c = let w = c.requires in leaf-asked w.2 (leafed w.0 w.1 w.2 c.names_of-names.ensures)

pub sign-requires : goal.sign-requires
sign-requires c = let w = c.requires in sign-room w.2 (leafed w.0 w.1 w.2 c.names_of-names.ensures) c.few-a.ensures

pub places-requires : goal.places-requires
places-requires c = let w = c.requires in leaf-places w.2 (leafed w.0 w.1 w.2 c.names_of-names.ensures) c.few-a.ensures c.sign.ensures

pub returns : goal.returns
returns c f l t = leaf-done t (leafed f l t c.names_of-names.ensures) c.few-a.ensures c.sign.ensures c.places.ensures
