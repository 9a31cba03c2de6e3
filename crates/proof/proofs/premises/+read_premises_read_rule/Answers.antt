-- `premises::read_rule` and `premises::read_premises`, which call each other, meet their contracts: what is left of the bytes falls.
-- In the row's loop, whatever the premises that are still to be read come to, the row comes to. Assumes nothing.
use native.Mathlib.Omega.{arith}
use Prim.Native.Nat.{◌+◌, ◌-◌}
use mathlib.Core.Path.{◌≡◌, sym, ◌∙◌}
use Rattle.proof.specs.Seen.{reached_at}
use Rattle.proof.specs.OneNumber.{told}
use Rattle.proof.proofs.Above.{fault-near, rule-off, rule-further, rule-far, rule-on, going-none, going-last, going-off, going_on}
use Rattle.proof.proofs.premises.+read_premises_read_rule.Goals as goal

pub read_premises-returns-then-n-eq0 : goal.read_premises-returns-then-n-eq0
read_premises-returns-then-n-eq0 t c =
    let a = c.args in λ d h. c.come_to.ensures ∙ going-none a.s.now.now a.n a.from c.if-n-eq0.true d h

pub read_premises-returns-in-Err : goal.read_premises-returns-in-Err
read_premises-returns-in-Err t c =
    let a = c.args in
    going-off a.s.now.now a.n a.from c.loop.invariant (told c.read_rule-r.result) c.read_rule-r.ensures (sym c.told.ensures ∙ c.in-Err.is)

pub read_premises-loop-preserved : goal.read_premises-loop-preserved
read_premises-loop-preserved t c =
    let a = c.args in
    let e : a.n + 1 - (c.loop.counter + 1) ≡ a.n + 1 - c.loop.counter - 1 = omega arith in
    rw e (going_on a.s.now.now a.n a.from c.loop.invariant (told c.read_rule-r.result) c.read_rule-r.ensures (sym c.told.ensures ∙ c.in-Ok.is) (omega arith))

pub read_premises-returns : goal.read_premises-returns
read_premises-returns t c =
    let a = c.args in
    going-last a.s.now.now a.n a.from c.loop.invariant (told c.read_rule.result) c.read_rule.ensures (omega arith)

pub read_rule-read_premises-requires : goal.read_rule-read_premises-requires
read_rule-read_premises-requires t c =
    let a = c.args in
    let k = c.read_conclusion in
    let from = reached_at a.next a.rules a.formulas in
    let far = rule-far a.s.now.now from c.requires.far k.result k.ensures c.in-Ok.is in
    let further = rule-further a.s.now.now from c.requires.far k.result k.ensures c.in-Ok.is in
    (omega (arith, c.decreases, further, far.inside), (c.requires.classes, far))

pub read_rule-fault_at-requires : goal.read_rule-fault_at-requires
read_rule-fault_at-requires t c =
    let a = c.args in
    let k = c.read_conclusion in
    fault-near a.s.now.now (reached_at a.next a.rules a.formulas) c.requires.far k.result k.ensures c.in-Err.is

pub read_rule-returns-in-Ok : goal.read_rule-returns-in-Ok
read_rule-returns-in-Ok t c =
    let a = c.args in
    let k = c.read_conclusion in
    rule-on a.s.now.now (reached_at a.next a.rules a.formulas) c.requires.far k.result k.ensures c.in-Ok.is (told c.read_premises.result) c.read_premises.ensures

pub read_rule-returns-in-Err : goal.read_rule-returns-in-Err
read_rule-returns-in-Err t c =
    let a = c.args in
    let k = c.read_conclusion in
    λ d h. c.fault_at.ensures ∙ rule-off a.s.now.now (reached_at a.next a.rules a.formulas) c.requires.far k.result k.ensures c.in-Err.is d h
