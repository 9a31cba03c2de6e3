-- How many digits a number has, and what stands behind a stem. Assumes nothing.
use Prim.Native.Nat.{ℕ, zero, suc, ◌+◌, ◌/◌, ◌%◌, ◌^◌, ◌<◌, ◌≤◌}
use mathlib.Core.Path.{◌≡◌, ap, ◌∙◌}
use mathlib.Core.List.{[], ◌∷◌, ◌++◌, append_assoc}
use native.Mathlib.Omega.{arith}
use lib.ListN.{length, set, length-append}
use Rattle.rules.specs.Basic.{Bytes, decimal}
use Rattle.buffer.specs.Wrote.{Wrote}
use Rattle.buffer.specs.Writing.{chain}
use Rattle.words.specs.Digits.{decimal-one, decimal-more, decimal-few, wrote_one}
use Rattle.draft.specs.Draft.{numbered, last_two, x_name}

-- one digit more than a tenth has
pub count-more : (n : ℕ) → 10 ≤ n → length (decimal n) ≡ length (decimal (n / 10)) + 1
count-more n h = ap length (decimal-more n h) ∙ length-append (decimal (n / 10)) ((48 + n % 10) ∷ [])

pub count-one : (n : ℕ) → n < 10 → length (decimal n) ≡ 1
count-one n h = ap length (decimal-one n h)

-- three digits more than a thousandth has
pub count-three : (n : ℕ) → 1000 ≤ n → length (decimal n) ≡ length (decimal (n / 1000)) + 3
count-three n h =
    let e : n / 10 / 10 / 10 ≡ n / 1000 = omega arith in
    omega (
      arith,
      count-more n (omega arith),
      count-more (n / 10) (omega arith),
      count-more (n / 10 / 10) (omega arith),
      ap (λ (m : ℕ). length (decimal m)) e,
    )

pub count-below : (n : ℕ) → n < 1000 → (10 ≤ n → n < 100 → length (decimal n) ≡ 2) × (100 ≤ n → length (decimal n) ≡ 3)
count-below n h = (
  λ a b. omega (arith, count-more n a, count-one (n / 10) (omega arith)),
  λ a. omega (arith, count-more n (omega arith), count-more (n / 10) (omega arith), count-one (n / 10 / 10) (omega arith)),
)

-- a number of two digits, of three, and of more
pub two_digits : (n : ℕ) → 10 ≤ n → n < 100 → decimal n ≡ last_two n
two_digits n h l =
    let e : n / 10 ≡ n / 10 % 10 = omega arith in
    decimal-more n h ∙ ap (λ (s : Bytes). s ++ ((48 + n % 10) ∷ [])) (decimal-one (n / 10) (omega arith))
    ∙ ap (λ (m : ℕ). (48 + m) ∷ (48 + n % 10) ∷ []) e

pub last-two : (n : ℕ) → 100 ≤ n → decimal n ≡ decimal (n / 100) ++ last_two n
last-two n h =
    let e : n / 10 / 10 ≡ n / 100 = omega arith in
    decimal-more n (omega arith) ∙ ap (λ (s : Bytes). s ++ ((48 + n % 10) ∷ [])) (decimal-more (n / 10) (omega arith))
    ∙ append_assoc (decimal (n / 10 / 10)) ((48 + n / 10 % 10) ∷ []) ((48 + n % 10) ∷ [])
    ∙ ap (λ (m : ℕ). decimal m ++ last_two n) e

pub count-two-more : (n : ℕ) → 100 ≤ n → length (decimal n) ≡ length (decimal (n / 100)) + 2
count-two-more n h = ap length (last-two n h) ∙ length-append (decimal (n / 100)) (last_two n)

pub three-digits : (n : ℕ) → 100 ≤ n → n < 1000 → decimal n ≡ (48 + n / 100) ∷ last_two n
three-digits n h l = last-two n h ∙ ap (λ (s : Bytes). s ++ last_two n) (decimal-one (n / 100) (omega arith))

pub count-some : (n : ℕ) → n < 2 ^ 64 → length (decimal n) ≤ 20
count-some n h = decimal-few 19 n (omega arith)

pub numbered-few : (n : ℕ) → n < 2 ^ 64 → length (numbered n) ≤ 20
numbered-few zero h = omega arith
numbered-few (suc n) h = count-some n (omega arith)

pub x-length : (n : ℕ) → length (x_name n) ≡ 1 + length (decimal n)
x-length n = omega arith

-- a byte, and what is written behind it
pub then-byte : {out₂ ys : Bytes} {p : ℕ} (out : Bytes) (at b : ℕ) → Wrote (set out at b) (at + 1) ys out₂ p → Wrote out at (b ∷ ys) out₂ p
then-byte out at b w = chain (wrote_one out at b) w
