-- The walk `find` meets its contract: what its parts give, the node gives. Assumes nothing.
use Rattle.std.proofs.Common.{arith}
use Rattle.term.proofs.node.Terms.{some_alone}
use Rattle.substitution.proofs.place.Finds.{inside, hidden-is, hidden-fits, hit-room, hit-is, hit-fits, bare-is, bare-fits, first_part, single-is, second-part, two_is, third-part, three-is}
use Rattle.substitution.proofs.place.+find.Goals as goal

pub skip-past-requires : goal.skip-past-requires
skip-past-requires t c = some_alone _ _ (c.requires.term, c.requires.stands)

pub come_to-requires : goal.come_to-requires
come_to-requires t c = hidden-fits c.requires c.if-hide-eq1.true _ c.skip-past.ensures

pub returns-then-hide-eq1 : goal.returns-then-hide-eq1
returns-then-hide-eq1 t c = λ t w. rw (c.come_to.ensures.0, c.come_to.ensures.1) (hidden-is c.requires c.if-hide-eq1.true _ c.skip-past.ensures t w)

pub overflow_cast-row : goal.overflow_cast-row
overflow_cast-row t c = omega (arith, inside c.requires)

pub bounds-row-to : goal.bounds-row-to
bounds-row-to t c = omega (arith, hit-room c.requires c.if-hide-eq1.false _ c.look-node.ensures c.if-node.true)

pub come_to-requires-then-node : goal.come_to-requires-then-node
come_to-requires-then-node t c = hit-fits c.requires c.if-hide-eq1.false _ c.look-node.ensures c.if-node.true

pub returns-then-node : goal.returns-then-node
returns-then-node t c = λ t w. rw (c.come_to-then-node.ensures.0, c.come_to-then-node.ensures.1) (hit-is c.requires c.if-hide-eq1.false _ c.look-node.ensures c.if-node.true t w)

pub come_to-requires-then-parts-eq0 : goal.come_to-requires-then-parts-eq0
come_to-requires-then-parts-eq0 t c = bare-fits c.requires c.if-hide-eq1.false _ c.look-node.ensures c.if-node.false

pub returns-then-parts-eq0 : goal.returns-then-parts-eq0
returns-then-parts-eq0 t c = λ t w. rw (c.come_to-then-parts-eq0.ensures.0, c.come_to-then-parts-eq0.ensures.1) (bare-is c.requires c.if-hide-eq1.false _ c.look-node.ensures c.if-node.false c.if-parts-eq0.true t w)

pub find-requires : goal.find-requires
find-requires t c =
    let o = first_part c.requires c.if-hide-eq1.false _ c.look-node.ensures c.if-node.false (omega (arith, c.if-parts-eq0.false)) in
    (omega (arith, c.decreases, inside c.requires, o.0), o.1)

pub returns-then-parts-eq1 : goal.returns-then-parts-eq1
returns-then-parts-eq1 t c =
    single-is c.requires c.if-hide-eq1.false _ c.look-node.ensures c.if-node.false (omega (arith, c.if-parts-eq0.false)) c.find.ensures c.if-parts-eq1.true

pub find-a-requires : goal.find-a-requires
find-a-requires t c =
    let o = first_part c.requires c.if-hide-eq1.false _ c.look-node.ensures c.if-node.false (omega (arith, c.if-parts-eq0.false)) in
    (omega (arith, c.decreases, inside c.requires, o.0), o.1)

pub find-requires-then-parts-eq2 : goal.find-requires-then-parts-eq2
find-requires-then-parts-eq2 t c =
    let o = second-part c.requires c.if-hide-eq1.false _ c.look-node.ensures c.if-node.false (omega (arith, c.if-parts-eq0.false)) c.find-a.ensures (omega (arith, c.if-parts-eq0.false, c.if-parts-eq1.false)) in
    (omega (arith, c.decreases, inside c.requires, o.0), o.1)

pub returns-then-parts-eq2 : goal.returns-then-parts-eq2
returns-then-parts-eq2 t c =
    two_is c.requires c.if-hide-eq1.false _ c.look-node.ensures c.if-node.false (omega (arith, c.if-parts-eq0.false)) c.find-a.ensures (omega (arith, c.if-parts-eq0.false, c.if-parts-eq1.false)) c.find-then-parts-eq2.ensures c.if-parts-eq2.true

pub find-b-requires : goal.find-b-requires
find-b-requires t c =
    let o = second-part c.requires c.if-hide-eq1.false _ c.look-node.ensures c.if-node.false (omega (arith, c.if-parts-eq0.false)) c.find-a.ensures (omega (arith, c.if-parts-eq0.false, c.if-parts-eq1.false)) in
    (omega (arith, c.decreases, inside c.requires, o.0), o.1)

pub find-requires-2 : goal.find-requires-2
find-requires-2 t c =
    let o = third-part c.requires c.if-hide-eq1.false _ c.look-node.ensures c.if-node.false (omega (arith, c.if-parts-eq0.false)) c.find-a.ensures (omega (arith, c.if-parts-eq0.false, c.if-parts-eq1.false)) c.find-b.ensures (omega (arith, c.if-parts-eq0.false, c.if-parts-eq1.false, c.if-parts-eq2.false)) in
    (omega (arith, c.decreases, inside c.requires, o.0), o.1)

pub returns : goal.returns
returns t c =
    three-is c.requires c.if-hide-eq1.false _ c.look-node.ensures c.if-node.false (omega (arith, c.if-parts-eq0.false)) c.find-a.ensures (omega (arith, c.if-parts-eq0.false, c.if-parts-eq1.false)) c.find-b.ensures (omega (arith, c.if-parts-eq0.false, c.if-parts-eq1.false, c.if-parts-eq2.false)) c.find-2.ensures
