-- `read_row` meets its contract: whatever the nodes that are still to be read come to, the whole comes to. Assumes nothing.
use Prim.Native.Nat.{◌+◌, ◌-◌, ◌/◌}
use native.Mathlib.Omega.{arith}
use mathlib.Core.Path.{◌≡◌, sym, ◌∙◌}
use Rattle.laws.specs.Handed.{handed}
use Rattle.reader.specs.Form.{layout_of}
use Rattle.reader.proofs.node.Rest.{rest-is, rest-none, rest-same}
use Rattle.reader.proofs.node.Turn.{turn-out, turn-full, turn-unknown, few-parts, turn-off, turn_on}
use Rattle.reader.proofs.node.read_row.Goals as goal

pub loop-met-init : goal.loop-met-init
loop-met-init c = let a = c.args in
    (omega arith, omega arith, omega arith, rest-same (layout_of a.form) a.most a.s.now (omega arith) (omega arith) a.at ∙ rest-is (layout_of a.form) a.most a.s.now a.n a.used a.at)

pub loop-met-preserved : goal.loop-met-preserved
loop-met-preserved c = let a = c.args in
    let l = c.loop-met in
    let k = c.code_of-code in
    let names = c.skip_names in
    let few = few-parts a.form a.most a.s.now (l.known - l.met) (a.used + l.met) l.next (omega arith) (omega arith) (omega (arith, c.room_for-room.ensures)) k.result k.ensures c.if-code-eq0.false in
    let less : l.known + k.result / 8 - (l.met + 1) ≡ l.known - l.met - 1 + k.result / 8 = omega arith in
    let more : a.used + (l.met + 1) ≡ a.used + l.met + 1 = omega arith in (
      omega arith,
      omega (arith, l.invariant.1),
      omega (arith, c.room_for-room.ensures),
      rest-same (layout_of a.form) a.most a.s.now less more _
          ∙ sym (turn_on a.form a.most a.s.now (l.known - l.met) (a.used + l.met) l.next (omega arith)
          (omega arith) (omega (arith, c.room_for-room.ensures)) k.result k.ensures c.if-code-eq0.false names.result names.ensures _ c.in_ok-next.was) ∙ l.invariant.3,
    )

pub returns : goal.returns
returns c = let a = c.args in
    let l = c.loop-met in
    sym (rest-none (layout_of a.form) a.most a.s.now (l.known - l.met) (a.used + l.met) l.next (omega arith)) ∙ l.invariant.3

pub returns-in_err-next : goal.returns-in_err-next
returns-in_err-next c = let a = c.args in
    let l = c.loop-met in
    let k = c.code_of-code in
    let names = c.skip_names in
    handed c.from_residual.result c.from_residual.ensures.1
    ∙ sym (turn-off a.form a.most a.s.now (l.known - l.met) (a.used + l.met) l.next (omega arith)
    (omega arith) (omega (arith, c.room_for-room.ensures)) k.result k.ensures c.if-code-eq0.false names.result names.ensures _ _ c.in_err-next.was)
    ∙ l.invariant.3

pub returns-then-code-eq0 : goal.returns-then-code-eq0
returns-then-code-eq0 c = let a = c.args in
    let l = c.loop-met in
    let k = c.code_of-code in
    c.fault-then-code-eq0.ensures
    ∙ sym (turn-unknown a.form a.most a.s.now (l.known - l.met) (a.used + l.met) l.next (omega arith) (omega arith) (omega (arith, c.room_for-room.ensures)) k.result k.ensures c.if-code-eq0.true) ∙ l.invariant.3

pub returns-then-room-met : goal.returns-then-room-met
returns-then-room-met c = let a = c.args in
    let l = c.loop-met in
    c.fault-then-room-met.ensures ∙ sym (turn-full a.form a.most a.s.now (l.known - l.met) (a.used + l.met) l.next (omega arith) (omega arith) (omega (arith, c.room_for-room.ensures))) ∙ l.invariant.3

pub returns-then-s-next : goal.returns-then-s-next
returns-then-s-next c = let a = c.args in
    let l = c.loop-met in
    c.fault.ensures ∙ sym (turn-out a.form a.most a.s.now (l.known - l.met) (a.used + l.met) l.next (omega arith) (omega arith)) ∙ l.invariant.3
