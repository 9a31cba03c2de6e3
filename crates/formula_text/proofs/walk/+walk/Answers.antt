-- The walk over a formula meets its contract: each shape prints its signs and hands its parts on, further on in the bytes. Assumes nothing.
use Rattle.std.proofs.Common.{sym, ◌∙◌, arith}
use Rattle.formula_text.proofs.walk.Shapes.{leaf-shape, begun}
use Rattle.formula_text.proofs.walk.Walking.{only_part, only-done, first_part, sign-room, second-part, close-room, both-done}
use Rattle.formula_text.proofs.walk.+walk.Goals as goal

pub bounds-s-at : goal.bounds-s-at
bounds-s-at t c = let w = c.requires in begun w.0 w.1

pub leaf-requires : goal.leaf-requires
leaf-requires t c = let w = c.requires in (w.0, leaf-shape (sym c.shape_of.ensures ∙ c.in-Leaf.is) w.0 w.1, w.1)

pub returns-in-Leaf : goal.returns-in-Leaf
returns-in-Leaf t c = λ F w. c.leaf.ensures F (leaf-shape (sym c.shape_of.ensures ∙ c.in-Leaf.is) F w) w

pub walk-requires : goal.walk-requires
walk-requires t c = let w = c.requires in (omega (arith, c.decreases, begun w.0 w.1), only_part c.opening.ensures c.byte-a.ensures (sym c.shape_of.ensures ∙ c.in-Exponential.is) w)

pub returns-in-Exponential : goal.returns-in-Exponential
returns-in-Exponential t c = only-done c.opening.ensures c.byte-a.ensures (sym c.shape_of.ensures ∙ c.in-Exponential.is) c.walk.ensures

pub walk-l-requires : goal.walk-l-requires
walk-l-requires t c = let w = c.requires in (omega (arith, c.decreases, begun w.0 w.1), first_part c.byte-a-in-Connective.ensures (sym c.shape_of.ensures ∙ c.in-Connective.is) w)

pub sign-b-requires : goal.sign-b-requires
sign-b-requires t c = (sign-room c.byte-a-in-Connective.ensures (sym c.shape_of.ensures ∙ c.in-Connective.is) c.walk-l.ensures c.requires).0

pub walk-r-requires : goal.walk-r-requires
walk-r-requires t c =
    let w = c.requires in
    let is = sym c.shape_of.ensures ∙ c.in-Connective.is in
    (omega (arith, c.decreases, begun w.0 w.1, (sign-room c.byte-a-in-Connective.ensures is c.walk-l.ensures w).1), second-part c.byte-a-in-Connective.ensures is c.walk-l.ensures c.sign-b.ensures w)

pub closed-requires : goal.closed-requires
closed-requires t c = close-room c.byte-a-in-Connective.ensures (sym c.shape_of.ensures ∙ c.in-Connective.is) c.walk-l.ensures c.sign-b.ensures c.walk-r.ensures c.requires

pub returns-in-Connective : goal.returns-in-Connective
returns-in-Connective t c = both-done c.byte-a-in-Connective.ensures (sym c.shape_of.ensures ∙ c.in-Connective.is) c.walk-l.ensures c.sign-b.ensures c.walk-r.ensures c.closed.ensures
