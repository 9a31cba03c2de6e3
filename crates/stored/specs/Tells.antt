-- The check tells any one changed byte: the change of the weighed sum is a weight up to 510 times a difference up to 255, and no such product is a
-- multiple of the prime 65,521. Assumes nothing.
use Rattle.std.specs.Prelude.{ℕ, zero, suc, ◌+◌, ◌-◌, ◌*◌, ◌%◌, ◌≤◌, ◌<◌, ◌≡◌, refl, Bool, true, false, not, ◌||◌, [], ◌∷◌, eqb, ltb, leb, length, get_or, set}
use Rattle.std.proofs.Common.{sym, ap, ◌∙◌, le_of_lt, mul-le-mul, mul-le-mul_left, mul-pos, arith, ltb-true, ltb-false, leb-true, leb-false, le-ltb, eq-eqb}
use Rattle.std.proofs.Math.Nat.{mul-sub, mul-mod_left}
use Rattle.rules.specs.Basic.{Bytes}
use Rattle.rules.specs.Stored.{weighed, check}
use Rattle.laws.specs.Below.{below}

-- a changed byte changes the sum by its weight times the change
pub weighed-set : (i : ℕ) (s : Bytes) (p v : ℕ) → p < length s → weighed i (set s p v) + (i + p + 1) * get_or s p 0 ≡ weighed i s + (i + p + 1) * v
unfolding weighed
weighed-set i [] p v h = absurd (omega arith)
weighed-set i (b ∷ s) zero v h =
    let e : i + 0 + 1 ≡ i + 1 = omega arith in
    rw e (omega arith)
weighed-set i (b ∷ s) (suc p) v h =
    let w = weighed-set (i + 1) s p v (omega arith) in
    let e : i + suc p + 1 ≡ i + 1 + p + 1 = omega arith in
    rw e (omega arith)

-- 65,521 has no divisor from 2 to 255
divides-not : ℕ → Bool
divides-not d = ltb d 2 || not (eqb (65521 % d) 0)

no-divisor : (d : ℕ) → 2 ≤ d → d < 256 → 65521 % d ≡ 0 → ⊥
unfolding divides-not
no-divisor d h l e =
    let t : (ltb d 2 || not (eqb (65521 % d) 0)) ≡ true = below divides-not 256 refl d l in
    let f : (ltb d 2 || not (eqb (65521 % d) 0)) ≡ false = rw (le-ltb d 2 h, eq-eqb (65521 % d) 0 e) in
    let z : ◌≡◌ {A = ℕ} 0 1 = cc in
    omega arith

-- so no weight times a change is a multiple of it
no-multiple : (a d : ℕ) → 1 ≤ a → a ≤ 510 → 1 ≤ d → d < 256 → (a * d) % 65521 ≡ 0 → ⊥
no-multiple a d ka ha kd hd e =
    let least = mul-pos ka kd in
    let hd' : d ≤ 255 = omega arith in
    let most : a * d ≤ 510 * 255 = mul-le-mul ha hd' in
    let q : a * d ≡ 65521 = omega arith in
    at d (leb 2 d) refl kd hd q
  where
    at : (d : ℕ) (t : Bool) → leb 2 d ≡ t → 1 ≤ d → d < 256 → a * d ≡ 65521 → ⊥
    at d true e kd hd q = no-divisor d (leb-true 2 d e) hd (ap (λ (n : ℕ). n % d) (sym q) ∙ mul-mod_left a d)
    at d false e kd hd q =
        let one : d ≡ 1 = omega (arith, leb-false 2 d e) in
        let f : a * 1 ≡ 65521 = ap (λ (n : ℕ). a * n) (sym one) ∙ q in
        omega arith

neither : (v x : ℕ) (t u : Bool) → ltb x v ≡ t → ltb v x ≡ u → (x < v → ⊥) → (v < x → ⊥) → v ≡ x
neither v x true u e f a b = absurd (a (ltb-true x v e))
neither v x false true e f a b = absurd (b (ltb-true v x f))
neither v x false false e f a b = omega (arith, ltb-false x v e, ltb-false v x f)

-- a changed byte changes the check
module _ (t : Bytes) (p v : ℕ) (long : length t ≡ 510) (in-it : p < 510) (old : get_or t p 0 < 256) (new : v < 256) (same : check (set t p v) ≡ check t) where
  abbrev x : ℕ
  x = get_or t p 0

  sum : weighed 0 (set t p v) + (p + 1) * x ≡ weighed 0 t + (p + 1) * v
  sum = let w = weighed-set 0 t p v (omega arith) in let e : 0 + p + 1 ≡ p + 1 = omega arith in rw e at w

  not_more : x < v → ⊥
  not_more h =
      let m = mul-sub (p + 1) v x in
      let l : (p + 1) * x ≤ (p + 1) * v = mul-le-mul_left (p + 1) (le_of_lt h) in
      no-multiple (p + 1) (v - x) (omega arith) (omega arith) (omega arith) (omega arith) (omega (arith, sum, same))

  not-less : v < x → ⊥
  not-less h =
      let m = mul-sub (p + 1) x v in
      let l : (p + 1) * v ≤ (p + 1) * x = mul-le-mul_left (p + 1) (le_of_lt h) in
      no-multiple (p + 1) (x - v) (omega arith) (omega arith) (omega arith) (omega arith) (omega (arith, sum, same))

  pub check-tells : v ≡ x
  check-tells = neither v x (ltb x v) (ltb v x) refl refl not_more not-less
