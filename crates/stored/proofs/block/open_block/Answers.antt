-- `block::open_block` meets its contract: what is computed of a block decides its first fault. Assumes nothing.
use mathlib.Core.Path.{sym, ap, ◌∙◌}
use Prim.Native.Nat.{ℕ}
use native.Mathlib.Omega.{arith}
use lib.Seq.{length-take-le}
use Rattle.rules.specs.Limits.{limits}
use Rattle.rules.specs.Stored.{used_bytes_in}
use Rattle.stored.specs.Opening.{fault-is, block_refused, block-opened}
use Rattle.stored.proofs.block.open_block.Goals as goal

pub returns-in-None : goal.returns-in-None
returns-in-None c =
    let a = c.args in
    let u = c.used_in-used.ensures ∙ ap (λ (n : ℕ). used_bytes_in n a.number) c.two_bytes.ensures in
    block-opened limits a.kind a.file.now a.number a.block.now c.first_fault.result
    (fault-is limits a.kind a.file.now a.number a.block.now c.two_bytes-2.ensures c.check_of.ensures c.head_wrong-head.ensures
    u c.zero_from-clean.ensures c.first_fault.ensures)
    c.used_in-used.result c.in-None.is u

pub returns-in-Some : goal.returns-in-Some
returns-in-Some c =
    let a = c.args in
    let u = c.used_in-used.ensures ∙ ap (λ (n : ℕ). used_bytes_in n a.number) c.two_bytes.ensures in
    block_refused limits a.kind a.file.now a.number a.block.now c.first_fault.result
    (fault-is limits a.kind a.file.now a.number a.block.now c.two_bytes-2.ensures c.check_of.ensures c.head_wrong-head.ensures
    u c.zero_from-clean.ensures c.first_fault.ensures)
    c.refused.result _ c.in-Some.is c.refused.ensures

pub slice_bounds-zero_from-end : goal.slice_bounds-zero_from-end
slice_bounds-zero_from-end c = sym (length-take-le 510 c.args.block.now (omega arith))
