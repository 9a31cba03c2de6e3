-- Filling the table: what is left to write makes up the whole.
-- Assumes nothing.
use Prim.Native.Nat.{ℕ, suc, ◌+◌, ◌-◌, ◌<◌}
use native.Mathlib.Numerals.{add-one}
use native.Mathlib.Omega.{arith}
use mathlib.Core.Path.{◌≡◌, sym, ap, ◌∙◌}
use lib.ListN.{set, replicate}
use lib.Seq.{sets}
use Rattle.rules.specs.Basic.{Bytes}

pub mark-more : (t all : Bytes) (b to v : ℕ) → b < to → sets t b (replicate (to - b) v) ≡ all → sets (set t b v) (b + 1) (replicate (to - (b + 1)) v) ≡ all
mark-more t all b to v h e =
    let z : to - b ≡ suc (to - (b + 1)) = omega arith in
    ap (λ i. sets (set t b v) i (replicate (to - (b + 1)) v)) (add-one b) ∙ sym (ap (λ n. sets t b (replicate n v)) z) ∙ e
