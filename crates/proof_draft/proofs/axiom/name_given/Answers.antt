-- `axiom::name_given` meets its contract: a formula that is no atom gives nothing; the oldest entry that is an atom's opposite decides, and else the atom's sign. Assumes nothing.
use Prim.Native.Nat.{◌+◌, ◌<◌}
use mathlib.Core.Path.{refl}
use mathlib.Core.Option.{some, none}
use native.Mathlib.Omega.{arith}
use lib.ListN.{length, get_or}
use Rattle.draft.specs.Draft.{name_of}
use Rattle.proof_draft.specs.Entry.{in_row}
use Rattle.proof_draft.proofs.axiom.Opposites.{left-next, finds-none, finds-here, entry-two, entry-room}
use Rattle.proof_draft.proofs.axiom.Axioms.{given_inside, gives-silent, atom-sought, gives-own, gives-entry, gives_nothing}
use Rattle.proof_draft.proofs.axiom.name_given.Goals as goal

pub bounds-s-at : goal.bounds-s-at
bounds-s-at c = given_inside _ _ _ _ c.requires

pub returns-then-tag-gt-NEG_ATOM : goal.returns-then-tag-gt-NEG_ATOM
returns-then-tag-gt-NEG_ATOM c = (gives-silent _ _ _ _ c.if-tag-gt-NEG_ATOM.true, tt)

pub opposed-requires : goal.opposed-requires
opposed-requires c = let a = c.args in
    entry-two a.s.now a.at a.entries.now (length a.entries.now) c.loop-i.i c.loop-i-test.true (atom-sought _ _ _ _ (omega (arith, c.if-tag-gt-NEG_ATOM.false)) c.requires)

pub overflow_add-result : goal.overflow_add-result
overflow_add-result c = let a = c.args in
    omega (arith, (entry-room a.s.now a.at a.entries.now (length a.entries.now) c.loop-i.i c.loop-i-test.true (atom-sought _ _ _ _ (omega (arith, c.if-tag-gt-NEG_ATOM.false)) c.requires)).0)

pub returns-then-opposed : goal.returns-then-opposed
returns-then-opposed c = let a = c.args in
    let low : get_or a.s.now a.at 0 < 3 = omega (arith, c.if-tag-gt-NEG_ATOM.false) in
    let e = in_row a.entries.now c.loop-i.i in
    let y = name_of a.s.now (e.place + 1) (e.counter + 1) in (
      gives-entry a.s.now a.entries.now (length a.entries.now) a.at low (some y) (finds-here a.s.now a.at a.entries.now (length a.entries.now) c.loop-i.i c.loop-i-test.true c.loop-i.invariant _ c.opposed.ensures c.if-opposed.true) y refl,
      (entry-room a.s.now a.at a.entries.now (length a.entries.now) c.loop-i.i c.loop-i-test.true (atom-sought _ _ _ _ low c.requires)).1,
    )

pub loop-i-preserved : goal.loop-i-preserved
loop-i-preserved c = let a = c.args in left-next a.s.now a.at a.entries.now (length a.entries.now) c.loop-i.i c.loop-i-test.true c.loop-i.invariant _ c.opposed.ensures c.if-opposed.false

pub returns-then-tag-eq-ATOM : goal.returns-then-tag-eq-ATOM
returns-then-tag-eq-ATOM c = let a = c.args in
    let f = finds-none a.s.now a.at a.entries.now (length a.entries.now) c.loop-i.i (omega (arith, c.loop-i-test.false)) c.loop-i.invariant in
    (gives-own a.s.now a.entries.now (length a.entries.now) a.at (omega (arith, c.if-tag-gt-NEG_ATOM.false)) none f c.if-tag-eq-ATOM.true refl, omega arith)

pub returns : goal.returns
returns c = let a = c.args in
    let f = finds-none a.s.now a.at a.entries.now (length a.entries.now) c.loop-i.i (omega (arith, c.loop-i-test.false)) c.loop-i.invariant in
    (gives_nothing a.s.now a.entries.now (length a.entries.now) a.at (omega (arith, c.if-tag-gt-NEG_ATOM.false)) none f c.if-tag-eq-ATOM.false refl, tt)
