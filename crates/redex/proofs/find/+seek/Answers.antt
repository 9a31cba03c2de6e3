-- The walk `seek` meets its contract: what its parts give, the node gives. Assumes nothing.
use mathlib.Core.Path.{◌∙◌}
use native.Mathlib.Omega.{arith}
use Rattle.term.proofs.node.Terms.{some-names, at-inside, at_small}
use Rattle.redex.proofs.find.Searching.{looked, ended, odd, even, some-row, further, not_entered, first_part, some-part, tags, hit, single, deep, beyond, some-rest, passed, second-part, second}
use Rattle.redex.proofs.find.+seek.Goals as goal

pub bounds-s-at : goal.bounds-s-at
bounds-s-at t c = let w = c.requires.0 in at-inside _ _ w.0 w.1

pub parts_of-parts-requires : goal.parts_of-parts-requires
parts_of-parts-requires t c = let w = c.requires.0 in omega (arith, at_small _ _ w.0 w.1)

pub names_of-names-requires : goal.names_of-names-requires
names_of-names-requires t c = let w = c.requires.0 in omega (arith, at_small _ _ w.0 w.1)

pub overflow_add-at : goal.overflow_add-at
overflow_add-at t c = let w = c.requires.0 in omega (arith, at-inside _ _ w.0 w.1, c.requires.1)

pub after_names-start-requires : goal.after_names-start-requires
after_names-start-requires t c = some-names _ _ c.requires.0 _ c.names_of-names.ensures

pub enters_of-enters-requires : goal.enters_of-enters-requires
enters_of-enters-requires t c = let w = c.requires.0 in omega (arith, at_small _ _ w.0 w.1)

pub skip-requires : goal.skip-requires
skip-requires t c =
    let a = looked c.args.s.now.now c.args.at c.requires.0 c.names_of-names.ensures c.parts_of-parts.ensures c.after_names-start.ensures c.enters_of-enters.ensures in
    some-row a

pub after-requires : goal.after-requires
after-requires t c =
    let a = looked c.args.s.now.now c.args.at c.requires.0 c.names_of-names.ensures c.parts_of-parts.ensures c.after_names-start.ensures c.enters_of-enters.ensures in
    omega (arith, c.requires.1, ended _ _ _ c.requires.0 (not_entered a c.if-enters-eq0.true c.skip.ensures))

pub returns-then-enters-eq0 : goal.returns-then-enters-eq0
returns-then-enters-eq0 t c =
    let a = looked c.args.s.now.now c.args.at c.requires.0 c.names_of-names.ensures c.parts_of-parts.ensures c.after_names-start.ensures c.enters_of-enters.ensures in
    λ t w. c.after.ensures ∙ not_entered a c.if-enters-eq0.true c.skip.ensures t w

pub bounds-s-start : goal.bounds-s-start
bounds-s-start t c =
    let a = looked c.args.s.now.now c.args.at c.requires.0 c.names_of-names.ensures c.parts_of-parts.ensures c.after_names-start.ensures c.enters_of-enters.ensures in
    let b = first_part a c.if-enters-eq0.false in at-inside _ _ b.0 b.1

pub reduces-requires : goal.reduces-requires
reduces-requires t c =
    let a = looked c.args.s.now.now c.args.at c.requires.0 c.names_of-names.ensures c.parts_of-parts.ensures c.after_names-start.ensures c.enters_of-enters.ensures in
    tags a c.if-enters-eq0.false

pub returns-then-reduces : goal.returns-then-reduces
returns-then-reduces t c =
    let a = looked c.args.s.now.now c.args.at c.requires.0 c.names_of-names.ensures c.parts_of-parts.ensures c.after_names-start.ensures c.enters_of-enters.ensures in
    λ t w. c.redex.ensures ∙ hit a c.if-enters-eq0.false c.reduces.ensures c.if-reduces.true t w

pub seek-requires : goal.seek-requires
seek-requires t c =
    let a = looked c.args.s.now.now c.args.at c.requires.0 c.names_of-names.ensures c.parts_of-parts.ensures c.after_names-start.ensures c.enters_of-enters.ensures in
    (omega (arith, c.decreases, further a), (first_part a c.if-enters-eq0.false, c.requires.1))

pub returns-then-parts-eq1 : goal.returns-then-parts-eq1
returns-then-parts-eq1 t c =
    let a = looked c.args.s.now.now c.args.at c.requires.0 c.names_of-names.ensures c.parts_of-parts.ensures c.after_names-start.ensures c.enters_of-enters.ensures in
    single a c.if-enters-eq0.false c.reduces.ensures c.if-reduces.false c.if-parts-eq1.true c.seek.ensures

pub seek-r-requires : goal.seek-r-requires
seek-r-requires t c =
    let a = looked c.args.s.now.now c.args.at c.requires.0 c.names_of-names.ensures c.parts_of-parts.ensures c.after_names-start.ensures c.enters_of-enters.ensures in
    (omega (arith, c.decreases, further a), (first_part a c.if-enters-eq0.false, c.requires.1))

pub returns-then-r-eq1 : goal.returns-then-r-eq1
returns-then-r-eq1 t c =
    let a = looked c.args.s.now.now c.args.at c.requires.0 c.names_of-names.ensures c.parts_of-parts.ensures c.after_names-start.ensures c.enters_of-enters.ensures in
    λ t w. odd _ c.if-r-eq1.true ∙ deep a c.if-enters-eq0.false c.reduces.ensures c.if-reduces.false c.if-parts-eq1.false c.seek-r.ensures (odd _ c.if-r-eq1.true) t w

pub overflow_sub-parts : goal.overflow_sub-parts
overflow_sub-parts t c =
    let a = looked c.args.s.now.now c.args.at c.requires.0 c.names_of-names.ensures c.parts_of-parts.ensures c.after_names-start.ensures c.enters_of-enters.ensures in
    omega (arith, some-part a c.if-enters-eq0.false)

pub skip-requires-then-enters-eq1 : goal.skip-requires-then-enters-eq1
skip-requires-then-enters-eq1 t c =
    let a = looked c.args.s.now.now c.args.at c.requires.0 c.names_of-names.ensures c.parts_of-parts.ensures c.after_names-start.ensures c.enters_of-enters.ensures in
    some-rest a c.if-enters-eq0.false c.reduces.ensures c.if-reduces.false c.if-parts-eq1.false c.seek-r.ensures (even _ c.if-r-eq1.false)

pub after-requires-then-enters-eq1 : goal.after-requires-then-enters-eq1
after-requires-then-enters-eq1 t c =
    let a = looked c.args.s.now.now c.args.at c.requires.0 c.names_of-names.ensures c.parts_of-parts.ensures c.after_names-start.ensures c.enters_of-enters.ensures in
    omega (arith, c.requires.1, ended _ _ _ c.requires.0 (passed a c.if-enters-eq0.false c.reduces.ensures c.if-reduces.false c.if-parts-eq1.false c.seek-r.ensures (even _ c.if-r-eq1.false) c.if-enters-eq1.true c.skip-then-enters-eq1.ensures))

pub returns-then-enters-eq1 : goal.returns-then-enters-eq1
returns-then-enters-eq1 t c =
    let a = looked c.args.s.now.now c.args.at c.requires.0 c.names_of-names.ensures c.parts_of-parts.ensures c.after_names-start.ensures c.enters_of-enters.ensures in
    λ t w. c.after-then-enters-eq1.ensures ∙ passed a c.if-enters-eq0.false c.reduces.ensures c.if-reduces.false c.if-parts-eq1.false c.seek-r.ensures (even _ c.if-r-eq1.false) c.if-enters-eq1.true c.skip-then-enters-eq1.ensures t w

pub seek-requires-2 : goal.seek-requires-2
seek-requires-2 t c =
    let a = looked c.args.s.now.now c.args.at c.requires.0 c.names_of-names.ensures c.parts_of-parts.ensures c.after_names-start.ensures c.enters_of-enters.ensures in
    (omega (arith, c.decreases, further a, beyond a c.if-enters-eq0.false c.reduces.ensures c.if-reduces.false c.if-parts-eq1.false c.seek-r.ensures (even _ c.if-r-eq1.false)), (second-part a c.if-enters-eq0.false c.reduces.ensures c.if-reduces.false c.if-parts-eq1.false c.seek-r.ensures (even _ c.if-r-eq1.false) c.if-enters-eq1.false, c.requires.1))

pub returns : goal.returns
returns t c =
    let a = looked c.args.s.now.now c.args.at c.requires.0 c.names_of-names.ensures c.parts_of-parts.ensures c.after_names-start.ensures c.enters_of-enters.ensures in
    second a c.if-enters-eq0.false c.reduces.ensures c.if-reduces.false c.if-parts-eq1.false c.seek-r.ensures (even _ c.if-r-eq1.false) c.if-enters-eq1.false c.seek-2.ensures
