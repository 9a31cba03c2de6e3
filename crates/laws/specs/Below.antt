-- A test that passes when it is computed at each number below n passes at each of them: by induction on n.
-- Assumes nothing.
use Rattle.std.specs.Prelude.{ℕ, zero, suc, ◌<◌, ◌≡◌, refl, Bool, true, false, ◌&&◌, eqb}
use Rattle.std.proofs.Common.{arith, eqb-true}
use Rattle.std.proofs.lemmas.Bool.{eqb-false}
use Rattle.laws.specs.free.Same.{both_true}

abbrev pub all : (ℕ → Bool) → ℕ → Bool
all f zero = true
all f (suc n) = f n && all f n

last_or : (f : ℕ → Bool) (n k : ℕ) (b : Bool) → eqb k n ≡ b → k < suc n → f n ≡ true → (k < n → f k ≡ true) → f k ≡ true
last_or f n k true q h e r = rw (eqb-true k n q) e
last_or f n k false q h e r = r (omega (arith, eqb-false k n q))

pub below : (f : ℕ → Bool) (n : ℕ) → all f n ≡ true → (k : ℕ) → k < n → f k ≡ true
below f zero e k h = absurd (omega arith)
below f (suc n) e k h = let p = both_true (f n) (all f n) e in last_or f n k (eqb k n) refl h p.0 (below f n p.1 k)
