-- Laws of the weighed sum of a block and of bytes that are all zero, by recursion on the bytes. Assumes nothing.
use Rattle.std.specs.Prelude.{ℕ, zero, suc, ◌+◌, ◌-◌, ◌*◌, ◌≤◌, ◌<◌, ◌≡◌, refl, Bool, true, false, ◌&&◌, [], ◌∷◌, ◌++◌, eqb, length, take, drop, get_or, replicate, fold}
use Rattle.std.proofs.Common.{sym, ap, ◌∙◌, add-mul, one-mul, mul-zero, add-one, arith, drop_of_length-le, take-append-drop, drop-cons, eqb-true, ne_eqb}
use Rattle.std.proofs.Math.Bool.{and-true}
use Rattle.std.specs.Int.Bits.{bit_or, or_add_and, or_zero_l}
use Rattle.std.proofs.lemmas.Nat.{and_le_r}
use Rattle.rules.specs.Basic.{Bytes}
use Rattle.rules.specs.Stored.{weighed, all_zero}
use Rattle.laws.specs.free.Same.{both_true}

unfoldable pub total : Bytes → ℕ
total [] = 0
total (b ∷ bs) = b + total bs

-- one place further on, each byte weighs once more
pub weighed-up : (i : ℕ) (s : Bytes) → weighed (i + 1) s ≡ total s + weighed i s
unfolding weighed total
weighed-up i [] = refl
weighed-up i (b ∷ bs) =
    let e = weighed-up (i + 1) bs in
    let m : (i + 1 + 1) * b ≡ (i + 1) * b + 1 * b = add-mul (i + 1) 1 b in
    omega (arith, one-mul b)

-- so a byte put in front adds the sum of all
pub weighed-cons : (b : ℕ) (s : Bytes) → weighed 0 (b ∷ s) ≡ weighed 0 s + (total s + b)
unfolding weighed
weighed-cons b s = let e = weighed-up 0 s in omega (arith, one-mul b)

-- zeros behind weigh nothing
pub weighed-zeros : (i : ℕ) (s : Bytes) (n : ℕ) → weighed i (s ++ replicate n 0) ≡ weighed i s
unfolding weighed
weighed-zeros i [] zero = refl
weighed-zeros i [] (suc n) = let e = weighed-zeros (i + 1) [] n in omega (arith, mul-zero (i + 1))
weighed-zeros i (b ∷ s) n = ap (λ (k : ℕ). (i + 1) * b + k) (weighed-zeros (i + 1) s n)

-- a bit set in either is set in both together
or-zero : (a b : ℕ) → eqb (bit_or a b) 0 ≡ (eqb a 0 && eqb b 0)
or-zero zero b = ap (λ (k : ℕ). eqb k 0) (or_zero_l b)
or-zero (suc a) b =
    let e = or_add_and (suc a) b in
    let f = and_le_r (suc a) b in
    ne_eqb (bit_or (suc a) b) 0 (λ z. omega arith) ∙ sym (ap (λ (t : Bool). t && eqb b 0) (ne_eqb (suc a) 0 (λ z. omega arith)))

and_assoc : (a b c : Bool) → ((a && b) && c) ≡ (a && (b && c))
and_assoc true b c = refl
and_assoc false b c = refl

-- bytes that are gathered by their bits are all zero exactly if the whole is
pub all-gathered : (any : ℕ) (s : Bytes) → eqb (fold bit_or any s) 0 ≡ (eqb any 0 && all_zero s)
all-gathered any [] = sym (and-true (eqb any 0))
all-gathered any (b ∷ s) =
    all-gathered (bit_or any b) s ∙ ap (λ (u : Bool). u && all_zero s) (or-zero any b) ∙ and_assoc (eqb any 0) (eqb b 0) (all_zero s)

-- one byte more is gathered; the end of the bytes
module _ (s : Bytes) (i any : ℕ) (t : Bool) where
  pub zero_turn : i < length s → (eqb any 0 && all_zero (drop i s)) ≡ t → (eqb (bit_or any (get_or s i 0)) 0 && all_zero (drop (i + 1) s)) ≡ t
  zero_turn h e =
      ap (λ (u : Bool). u && all_zero (drop (i + 1) s)) (or-zero any (get_or s i 0))
      ∙ and_assoc (eqb any 0) (eqb (get_or s i 0) 0) (all_zero (drop (i + 1) s))
      ∙ ap (λ (k : ℕ). eqb any 0 && (eqb (get_or s i 0) 0 && all_zero (drop k s))) (add-one i)
      ∙ sym (ap (λ (r : Bytes). eqb any 0 && all_zero r) (drop-cons s i 0 h))
      ∙ e

  pub zero-end : length s ≤ i → (eqb any 0 && all_zero (drop i s)) ≡ t → eqb any 0 ≡ t
  zero-end h e = sym (ap (λ (r : Bytes). eqb any 0 && all_zero r) (drop_of_length-le s h) ∙ and-true (eqb any 0)) ∙ e

-- the byte before a place
pub drop-down : (s : Bytes) (i : ℕ) → 0 < i → i ≤ length s → drop (i - 1) s ≡ get_or s (i - 1) 0 ∷ drop i s
drop-down s i p h =
    let q : suc (i - 1) ≡ i = omega arith in
    drop-cons s (i - 1) 0 (omega arith) ∙ ap (λ (k : ℕ). get_or s (i - 1) 0 ∷ drop k s) q

pub zeros-are : (s : Bytes) → all_zero s ≡ true → s ≡ replicate (length s) 0
zeros-are [] e = refl
zeros-are (b ∷ s) e = let h = both_true (eqb b 0) (all_zero s) e in rw (eqb-true b 0 h.0, ← (zeros-are s h.1))

pub are-zeros : (n : ℕ) → all_zero (replicate n 0) ≡ true
are-zeros zero = refl
are-zeros (suc n) = are-zeros n

-- bytes that are zero from a place on weigh what those before it weigh
pub weighed-clean : (s : Bytes) (end : ℕ) → all_zero (drop end s) ≡ true → weighed 0 (take end s) ≡ weighed 0 s
weighed-clean s end e =
    sym (weighed-zeros 0 (take end s) (length (drop end s)))
    ∙ ap (λ (r : Bytes). weighed 0 (take end s ++ r)) (sym (zeros-are (drop end s) e))
    ∙ ap (weighed 0) (take-append-drop end s)
