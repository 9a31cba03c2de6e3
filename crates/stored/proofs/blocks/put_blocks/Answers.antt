-- `blocks::put_blocks` meets its contract: what is left to write makes up the whole. Assumes nothing.
use Prim.Native.Nat.{ℕ, ◌+◌, ◌-◌, ◌*◌, ◌≤◌}
use mathlib.Core.Path.{◌≡◌, refl, sym, ap, ◌∙◌}
use native.Mathlib.Omega.{arith}
use mathlib.Core.List.{[], ◌++◌}
use native.Mathlib.Nat.{sub-zero}
use lib.ListN.{length, take, drop}
use lib.Seq.{sets}
use Rattle.rules.specs.Limits.{block_bytes}
use Rattle.rules.specs.Stored.{blocks, stored}
use Rattle.stored.specs.Blocks.{length-stored, length-middle, more-blocks}
use Rattle.stored.proofs.blocks.put_blocks.Goals as goal

pub loop-number-init : goal.loop-number-init
unfolding stored
loop-number-init c =
    let a = c.args in
    let e = c.blocks_for-many.ensures in
    (e, omega (arith, e), refl, ap (λ (n : ℕ). sets a.out.now 0 (blocks a.kind 0 n a.content.now)) (sub-zero c.blocks_for-many.result ∙ e))

pub loop-number-preserved : goal.loop-number-preserved
loop-number-preserved c =
    let i = c.loop-number.invariant in
    let p = c.put_block in
    let k = c.args.kind in
    let s = c.args.content.now in
    let n = c.loop-number.number in
    let many = c.blocks_for-many.result in
    let at = block_bytes * n in
    let t = c.loop-number-test.true in
    let room : at + block_bytes ≤ length c.loop-number.out = omega (arith, i.1, i.2, c.requires, t) in
    let out = take at c.loop-number.out ++ (p.new.block ++ drop (at + block_bytes - at) (drop at c.loop-number.out)) in
    let next : block_bytes * (n + 1) ≡ at + block_bytes = omega arith in (
      i.0,
      i.1,
      length-middle k s c.loop-number.out p.new.block [] n many at t room p.ensures ∙ i.2,
      ap (λ (m : ℕ). sets out m (blocks k (n + 1) (many - (n + 1)) s)) next
          ∙ more-blocks k s c.loop-number.out p.new.block _ n many at t room p.ensures i.3,
    )

pub returns : goal.returns
unfolding blocks
returns c =
    let a = c.args in
    let l = c.loop-number in
    let i = l.invariant in
    let m = c.blocks_for-many.result in
    let z : m - l.number ≡ 0 = omega (arith, c.loop-number-test.false) in
    record {
      holds =
          sym (ap (λ (n : ℕ). sets l.out (block_bytes * l.number) (blocks a.kind l.number n a.content.now)) z)
          ∙ i.3;
      ends = omega (arith, i.0, length-stored a.kind a.content.now);
    }
