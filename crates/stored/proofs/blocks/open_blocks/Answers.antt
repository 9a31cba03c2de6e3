-- `blocks::open_blocks` meets its contract: what is gathered and what is left make up the whole. Assumes nothing.
use Rattle.std.specs.Prelude.{Ok}
use Prim.Native.Nat.{ℕ, ◌+◌, ◌-◌, ◌*◌, ◌/◌, ◌≤◌}
use mathlib.Core.Path.{◌≡◌, sym, ap, ◌∙◌}
use mathlib.Core.List.{◌++◌, append-nil}
use native.Mathlib.Omega.{arith}
use lib.ListN.{length, take, drop}
use Rattle.rules.specs.Basic.{Bytes}
use Rattle.rules.specs.Limits.{limits, block_bytes, block_content}
use Rattle.rules.specs.Stored.{opened_blocks}
use Rattle.stored.specs.Gathering.{behind, block-at, length-block-at, copied, wrote-take, stops, goes_on}
use Rattle.rules.specs.Refusal.{Outcome}
use Rattle.laws.specs.Handed.{handed}
use Rattle.stored.specs.Opening.{taken, amount}
use Rattle.stored.proofs.blocks.open_blocks.Goals as goal

pub loop-number-preserved : goal.loop-number-preserved
loop-number-preserved c =
    let l = c.loop-number in
    let a = c.args in
    let f = a.file.now in
    let t = c.loop-number-test.true in
    let b = take (block_bytes * l.number + block_bytes - block_bytes * l.number) (drop (block_bytes * l.number) f) in
    let o = c.open_block in
    let u = c.in_ok-used.used in
    let e = c.in_ok-used.was in
    let w = c.copy-at in
    let k = copied b u (omega (arith, ap amount e, o.ensures.few, length-block-at f l.number (omega arith))) in
    let few : u ≤ block_content = omega (arith, ap amount e, o.ensures.few) in (
      omega (arith, w.ensures.ends, k.1, l.invariant.0),
      w.auto.out ∙ l.invariant.1,
      goes_on limits a.kind f l.content b l.number (length f / block_bytes) l.at o.result t (block-at f l.number) o.ensures l.invariant.2 u w.result
          w.new.out e (wrote-take w.ensures (omega (arith, k.1, l.invariant.0, l.invariant.1, c.requires)) ∙ ap (λ (r : Bytes). take l.at l.content ++ r) k.0),
    )

pub returns : goal.returns
unfolding opened_blocks
returns c =
    let l = c.loop-number in
    let a = c.args in
    let f = a.file.now in
    let z : length f / block_bytes - l.number ≡ 0 = omega (arith, c.loop-number-test.false) in
    record {
      outcome =
          l.invariant.2
          ∙ ap (λ (n : ℕ). behind (take l.at l.content) (opened_blocks limits a.kind f l.number n)) z
          ∙ ap Ok (append-nil (take l.at l.content));
      within = omega (arith, l.invariant, c.requires);
    }

pub returns-in_err-used : goal.returns-in_err-used
returns-in_err-used c =
    let l = c.loop-number in
    let a = c.args in
    let h = handed c.from_residual.result c.from_residual.ensures.1 in
    record {
      outcome =
          stops limits a.kind a.file.now l.content (take (block_bytes * l.number + block_bytes - block_bytes * l.number) (drop (block_bytes * l.number) a.file.now)) l.number
          (length a.file.now / block_bytes) l.at c.open_block.result c.loop-number-test.true (block-at a.file.now l.number)
          c.open_block.ensures l.invariant.2 _ c.in_err-used.was
          ∙ ap (λ (r : Outcome ℕ). taken r l.content) (sym h);
      within = let z = ap amount h in omega arith;
    }
