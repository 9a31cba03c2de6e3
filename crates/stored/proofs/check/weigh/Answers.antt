-- `check::weigh` meets its contract: the two sums are those of the bytes that are passed, from the end. Assumes nothing.
use Prim.Native.Nat.{ℕ, ◌+◌, ◌-◌, ◌<◌}
use mathlib.Core.Path.{◌≡◌, sym, ap, ◌∙◌}
use mathlib.Core.List.{[], ◌∷◌, ◌++◌}
use native.Mathlib.Omega.{arith}
use native.Mathlib.Nat.{sub-zero}
use lib.ListN.{drop, get_or, length}
use lib.Seq.{drop-length}
use Rattle.std.proofs.lemmas.Iterator.Consumers.{YieldsList-turn}
use Rattle.std.proofs.lemmas.Iterator.Adapters.{YieldsList-from_rev_slice}
use Rattle.std.proofs.lemmas.List.{length-reverse, get_or-reverse, length_push}
use Rattle.std.proofs.lemmas.Grind.{get_or_default_zero}
use Rattle.rules.specs.Stored.{weighed}
use Rattle.stored.specs.Weights.{total, weighed-cons, drop-down}
use Rattle.stored.proofs.check.weigh.Goals as goal

pub loop-byte-init : goal.loop-byte-init
unfolding total weighed
loop-byte-init c =
    let body = c.args.body.now in
    let e : drop (length body - 0) body ≡ _ = ap (λ (n : ℕ). drop n body) (sub-zero (length body)) ∙ drop-length body in
    (omega arith, omega arith, omega arith, sym (ap total e), sym (ap (weighed 0) e))

pub loop-byte-preserved : goal.loop-byte-preserved
unfolding total
loop-byte-preserved c =
    let body = c.args.body.now in
    let k = length c.loop-byte.yielded in
    let turn = YieldsList-turn (YieldsList-from_rev_slice body cc) c.loop-byte.yielded _ c.loop-byte.yielded_by _ _ c.in-Some.byte c.in-Some.is c.next.ensures.steps in
    let few : k < length body = omega (arith, turn.0, length-reverse body) in
    let i = length body - k in
    let more = length_push c.loop-byte.yielded c.in-Some.byte in
    let next : length body - length (c.loop-byte.yielded ++ c.in-Some.byte ∷ []) ≡ i - 1 = omega (arith, more) in
    let at : length body - 1 - k ≡ i - 1 = omega arith in
    let here : c.from-bytes.result ≡ get_or body (i - 1) 0 =
    c.from-bytes.ensures
    ∙ turn.1
    ∙ get_or-reverse body k c.in-Some.byte.now few
    ∙ get_or_default_zero body (length body - 1 - k) c.in-Some.byte.now (omega arith)
    ∙ ap (λ (n : ℕ). get_or body n 0) at in
    let e : drop (i - 1) body ≡ get_or body (i - 1) 0 ∷ drop i body = drop-down body i (omega arith) (omega arith) in
    let t : total (drop (i - 1) body) ≡ get_or body (i - 1) 0 + total (drop i body) = ap total e in
    let w : weighed 0 (drop (i - 1) body) ≡ weighed 0 (drop i body) + (total (drop i body) + get_or body (i - 1) 0) = ap (weighed 0) e ∙ weighed-cons (get_or body (i - 1) 0) (drop i body) in
    let b = c.type_inv.body (i - 1) in (
      omega (arith, more),
      omega (arith, more),
      omega (arith, more),
      omega (arith, t, here) ∙ ap (λ (n : ℕ). total (drop n body)) (sym next),
      omega (arith, w, here) ∙ ap (λ (n : ℕ). weighed 0 (drop n body)) (sym next),
    )
