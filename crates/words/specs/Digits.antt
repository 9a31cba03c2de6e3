-- Laws of decimal digits: the last one is by itself, and a number below a power of ten has few. Assumes nothing.
use Rattle.std.specs.Prelude.{ℕ, zero, suc, ◌+◌, ◌/◌, ◌%◌, ◌^◌, ◌≤◌, ◌<◌, ◌≡◌, refl, Bool, true, false, [], ◌∷◌, ◌++◌, ltb, length, set}
use Rattle.std.proofs.Common.{sym, ap, ◌∙◌, div-lt_iff_lt-mul, pow-suc, arith, length-append, lt-ltb, le-ltb, ltb-true, ltb-false}
use Rattle.buffer.specs.Wrote.{Wrote}
use Rattle.rules.specs.Basic.{Bytes, digits, decimal}

-- one digit, or the digits of a tenth and the last
digits-one : (f n : ℕ) → n < 10 → digits (suc f) n ≡ (48 + n) ∷ []
unfolding digits
digits-one f n h = rw (lt-ltb n 10 h, digits)

digits_more : (f n : ℕ) → 10 ≤ n → digits (suc f) n ≡ digits f (n / 10) ++ ((48 + n % 10) ∷ [])
unfolding digits
digits_more f n h = rw (le-ltb n 10 h, digits)

-- more steps than the number change nothing
step : (f g n : ℕ) (t : Bool) → ltb n 10 ≡ t → (10 ≤ n → digits f (n / 10) ≡ digits g (n / 10)) → digits (suc f) n ≡ digits (suc g) n
step f g n true e r = let l = ltb-true n 10 e in digits-one f n l ∙ sym (digits-one g n l)
step f g n false e r = let l = ltb-false n 10 e in digits_more f n l ∙ ap (λ (s : Bytes). s ++ ((48 + n % 10) ∷ [])) (r l) ∙ sym (digits_more g n l)

enough : (f g n : ℕ) → n < f → n < g → digits f n ≡ digits g n
enough zero g n h k = absurd (omega arith)
enough (suc f) zero n h k = absurd (omega arith)
enough (suc f) (suc g) n h k = step f g n (ltb n 10) refl (λ l. enough f g (n / 10) (omega arith) (omega arith))

pub decimal-one : (n : ℕ) → n < 10 → decimal n ≡ (48 + n) ∷ []
decimal-one n h = digits-one n n h

pub decimal-more : (n : ℕ) → 10 ≤ n → decimal n ≡ decimal (n / 10) ++ ((48 + n % 10) ∷ [])
decimal-more n h = digits_more n n h ∙ ap (λ (s : Bytes). s ++ ((48 + n % 10) ∷ [])) (enough n (suc (n / 10)) (n / 10) (omega arith) (omega arith))

pub length-decimal : (n : ℕ) → 10 ≤ n → length (decimal n) ≡ length (decimal (n / 10)) + 1
length-decimal n h = ap length (decimal-more n h) ∙ length-append (decimal (n / 10)) ((48 + n % 10) ∷ [])

-- a number below a power of ten
few-more : (f n m : ℕ) (t : Bool) → ltb n 10 ≡ t → (10 ≤ n → length (digits f (n / 10)) ≤ m) → length (digits (suc f) n) ≤ suc m
few-more f n m true e r = let l = ap length (digits-one f n (ltb-true n 10 e)) in omega arith
few-more f n m false e r =
    let h = ltb-false n 10 e in
    let l = ap length (digits_more f n h) ∙ length-append (digits f (n / 10)) ((48 + n % 10) ∷ []) in
    let k = r h in
    omega arith

few : (k f n : ℕ) → n < 10 ^ suc k → length (digits f n) ≤ suc k
unfolding digits
few k zero n h = omega arith
few zero (suc f) n h = few-more f n zero (ltb n 10) refl (λ l. absurd (omega arith))
few (suc k) (suc f) n h = few-more f n (suc k) (ltb n 10) refl (λ l. few k f (n / 10) ((div-lt_iff_lt-mul (omega arith)).1 (rw (pow-suc 10 (suc k)) at h)))

pub decimal-few : (k n : ℕ) → n < 10 ^ suc k → length (decimal n) ≤ suc k
decimal-few k n h = few k (suc n) n h

-- one byte written; what is written, in other words
pub wrote_one : (out : Bytes) (at b : ℕ) → Wrote out at (b ∷ []) (set out at b) (at + 1)
wrote_one out at b = record { holds = refl; ends = refl }

pub wrote_as : {out out' xs ys : Bytes} {at past : ℕ} → xs ≡ ys → Wrote out at xs out' past → Wrote out at ys out' past
wrote_as e w = rw e at w
