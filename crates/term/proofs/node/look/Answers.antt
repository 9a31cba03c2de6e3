-- `node::look` meets its contract: what a tag's counts leave open of a node, its names settle. Assumes nothing.
use native.Mathlib.Omega.{arith}
use Rattle.term.proofs.node.Names.{some-single}
use Rattle.term.proofs.node.Terms.{at-inside, at_small}
use Rattle.term.proofs.node.Looks.{seen-bare, one_name, seen-var, seen-abs, two-names, seen-two}
use Rattle.term.proofs.node.look.Goals as goal

pub after_names-second-requires : goal.after_names-second-requires
after_names-second-requires c =
    let q = c.names_of-names.ensures in
    let p = c.parts_of-parts.ensures in
    let ne = c.if-names-eq0.false in
    some-single _ _ (one_name _ _ _ _ c.args.name.now q p ne c.requires)

pub after_names-requires : goal.after_names-requires
after_names-requires c =
    let q = c.names_of-names.ensures in
    let p = c.parts_of-parts.ensures in
    let ne = c.if-names-eq0.false in
    some-single _ _ (two-names _ _ _ _ c.args.name.now q p ne _ _ c.same_name-x.ensures c.after_names-second.ensures c.in_default.is-1.1 c.in_default.is-0.1 c.requires)

pub bounds-s-at : goal.bounds-s-at
bounds-s-at c = at-inside _ _ c.requires.0 c.requires.1

pub names_of-names-requires : goal.names_of-names-requires
names_of-names-requires c = omega (arith, at_small _ _ c.requires.0 c.requires.1)

pub overflow_add-first : goal.overflow_add-first
overflow_add-first c = omega (arith, at-inside _ _ c.requires.0 c.requires.1)

pub parts_of-parts-requires : goal.parts_of-parts-requires
parts_of-parts-requires c = omega (arith, at_small _ _ c.requires.0 c.requires.1)

pub returns-in_default : goal.returns-in_default
returns-in_default c =
    let q = c.names_of-names.ensures in
    let p = c.parts_of-parts.ensures in
    let ne = c.if-names-eq0.false in
    seen-two _ _ _ _ c.args.name.now q p ne _ _ c.same_name-x.ensures c.after_names-second.ensures c.in_default.is-1.1 c.in_default.is-0.1 _ _ _ c.same_name-y.ensures c.after_names.ensures c.by_two.ensures

pub returns-then-names-eq0 : goal.returns-then-names-eq0
returns-then-names-eq0 c = seen-bare _ _ _ _ c.args.name.now c.names_of-names.ensures c.parts_of-parts.ensures c.if-names-eq0.true

pub returns-in-1-default : goal.returns-in-1-default
returns-in-1-default c =
    let q = c.names_of-names.ensures in
    let p = c.parts_of-parts.ensures in
    let ne = c.if-names-eq0.false in
    seen-abs _ _ _ _ c.args.name.now q p ne _ _ c.same_name-x.ensures c.after_names-second.ensures c.in-1-default.is-1.1 c.in-1-default.is-0 _ c.by_one.ensures

pub returns-in_default-eq0 : goal.returns-in_default-eq0
returns-in_default-eq0 c =
    let q = c.names_of-names.ensures in
    let p = c.parts_of-parts.ensures in
    let ne = c.if-names-eq0.false in
    seen-var _ _ _ _ c.args.name.now q p ne _ _ c.same_name-x.ensures c.after_names-second.ensures c.in_default-eq0.is-1

pub same_name-x-requires : goal.same_name-x-requires
same_name-x-requires c =
    let q = c.names_of-names.ensures in
    let p = c.parts_of-parts.ensures in
    let ne = c.if-names-eq0.false in
    one_name _ _ _ _ c.args.name.now q p ne c.requires

pub same_name-y-requires : goal.same_name-y-requires
same_name-y-requires c =
    let q = c.names_of-names.ensures in
    let p = c.parts_of-parts.ensures in
    let ne = c.if-names-eq0.false in
    two-names _ _ _ _ c.args.name.now q p ne _ _ c.same_name-x.ensures c.after_names-second.ensures c.in_default.is-1.1 c.in_default.is-0.1 c.requires
