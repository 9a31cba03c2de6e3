-- `ahead::go_ahead` meets its contract: what was gone over stays good with each node more. Assumes nothing.
use native.Mathlib.Omega.{arith}
use mathlib.Core.Path.{refl}
use Rattle.reader.specs.Form.{layout_of}
use Rattle.reader.proofs.ahead.Further.{begun, few-names, gone-more, inside-all, not-far}
use Rattle.reader.proofs.ahead.go_ahead.Goals as goal

pub loop-gone-init : goal.loop-gone-init
loop-gone-init c = let a = c.args in record { good = begun (layout_of a.form) a.s.now a.at a.n; near = omega arith }

pub loop-gone-preserved : goal.loop-gone-preserved
loop-gone-preserved c =
    let a = c.args in
    let g = c.loop-gone.gone in
    let i = c.loop-gone.invariant in
    let k = c.code_of-code in
    let inside = inside-all _ _ g.next _ c.last_pair-stop.ensures c.if-stop-gone.false c.requires.at_le_end.1 in
    let few = few-names a.form a.s.now a.at a.n g.next g.met g.known g.names i.good c.loop-gone-test.true inside k.result k.ensures c.if-code-eq0.false in
    record {
      good = gone-more a.form a.s.now a.at a.n g.next g.met g.known g.names i.good c.loop-gone-test.true inside k.result k.ensures c.if-code-eq0.false _ refl _ refl c.in-Some.past c.in-Some.ensures;
      near = not-far _ _ g.next _ _ c.last_pair-stop.ensures c.if-stop-gone.false c.in-Some.ensures.near few;
    }
