-- `check::put_check` meets its contract: two bytes behind the body. Assumes nothing.
use Prim.Native.Nat.{ℕ, ◌-◌, ◌/◌, ◌%◌}
use mathlib.Core.Path.{◌≡◌, ap, ◌∙◌}
use mathlib.Core.List.{[], ◌∷◌, ◌++◌, append-nil}
use native.Mathlib.Omega.{arith}
use lib.ListN.{length, take, drop}
use Rattle.std.proofs.Common.{length-drop, drop_of_length-le}
use Rattle.rules.specs.Basic.{Bytes, low-high}
use Rattle.rules.specs.Stored.{check}
use Rattle.stored.proofs.check.put_check.Goals as goal

pub returns : goal.returns
returns c =
    let b = c.args.block.now in
    let ys = c.copy_from_slice.new.self in
    let n = c.check_of-check.result in
    let high : n / 256 % 256 ≡ n / 256 = omega (arith, c.check_of-check.ensures) in
    let new : ys ≡ low-high (check (take 510 b)) =
    c.copy_from_slice.ensures.after ∙ c.to_le_bytes.ensures ∙ ap (λ (h : ℕ). n % 256 ∷ h ∷ []) high ∙ ap low-high c.check_of-check.ensures in
    ap (λ (r : Bytes). take 510 b ++ (ys ++ r)) (drop_of_length-le (drop 510 b) {i = length b - 510} (omega (arith, length-drop 510 b)))
    ∙ ap (λ (r : Bytes). take 510 b ++ r) (append-nil ys ∙ new)
