-- `go_calmly` meets its contract: what was gone over stays good with each node more, and calm if the node is no redex. Assumes nothing.
use Prim.Native.Nat.{◌<◌}
use native.Mathlib.Omega.{arith}
use mathlib.Core.Path.{refl, sym, ◌∙◌}
use Rattle.std.proofs.lemmas.Bool.{false≢true}
use lib.ListN.{length}
use Rattle.reader.specs.Form.{layout_of}
use Rattle.reader.specs.declared.class.Form.TheVariants.{Term}
use Rattle.reader.proofs.ahead.Further.{begun, few-names, gone-more, not-far}
use Rattle.redex.proofs.calm.Sweeping.{begin}
use Rattle.redex.proofs.ahead.Turning.{calm_more}
use Rattle.redex.proofs.ahead.go_calmly.Goals as goal
use Rattle.redex.proofs.ahead.go_calmly.Goals.{then-calm, else-calm}

pub loop-gone-init : goal.loop-gone-init
loop-gone-init c = let s = c.args.s.now in record { good = begun (layout_of Term) s 0 1; near = omega arith; swept = λ e. begin s }

pub loop-gone-preserved : goal.loop-gone-preserved
loop-gone-preserved c =
    let s = c.args.s.now in
    let g = c.loop-gone.gone in
    let i = c.loop-gone.invariant in
    let k = c.code_of-code in
    let inside : g.next < length s = omega arith in
    let few = few-names Term s 0 1 g.next g.met g.known g.names i.good c.loop-gone-test.true inside k.result k.ensures c.if-code-eq0.false in
    record {
      good = gone-more Term s 0 1 g.next g.met g.known g.names i.good c.loop-gone-test.true inside k.result k.ensures c.if-code-eq0.false _ refl _ refl c.in-Some.past c.in-Some.ensures;
      near = not-far _ _ g.next _ _ c.last_pair-stop.ensures c.if-gone-stop.true c.in-Some.ensures.near few;
      swept =
          λ e. elim c.if-calm.branch [
            | then-calm w ↦ calm_more s g.next (i.swept w.if-calm.true) inside k.result k.ensures c.in-Some.past c.in-Some.ensures (w.is_calm-calm.ensures (sym w.calm-is ∙ e))
            | else-calm w ↦ absurd (false≢true (sym w.if-calm.false ∙ sym w.calm-is ∙ e))
          ];
    }
