-- Runs of bytes: a slice cut in two, two writes one after the other, and zeros behind the last. By induction on the lists. Assumes nothing.
use Rattle.std.specs.Prelude.{ℕ, zero, suc, ◌+◌, ◌-◌, ◌≤◌, ◌≡◌, refl, List, [], ◌∷◌, ◌++◌, length, take, drop, set, replicate}
use Rattle.std.proofs.Common.{sym, ap, ◌∙◌, append_assoc, append-nil, add-zero, zero-add, suc-add, le_of_suc-le-suc, not-suc-le-zero, arith, length-append, drop-drop}
use Rattle.std.proofs.lemmas.List.{length-replicate}
use Rattle.std.proofs.lemmas.List.Edits.{sets, sets-eq}
use Rattle.std.proofs.Math.Seq.{length-sets, drop-length, slice, take-append_seam, take-nil}
use Rattle.buffer.specs.Wrote.{Wrote}

pub slice-split : (i j k : ℕ) (s : List ℕ) → i ≤ j → j ≤ k → slice i k s ≡ slice i j s ++ slice j k s
slice-split zero zero k s h g = refl
slice-split zero (suc j) zero s h g = absurd (not-suc-le-zero g)
slice-split zero (suc j) (suc k) [] h g = refl
slice-split zero (suc j) (suc k) (x ∷ s) h g = ap (λ (l : List ℕ). x ∷ l) (slice-split zero j k s (omega arith) (le_of_suc-le-suc g))
slice-split (suc i) zero k s h g = absurd (not-suc-le-zero h)
slice-split (suc i) (suc j) zero s h g = absurd (not-suc-le-zero g)
slice-split (suc i) (suc j) (suc k) [] h g = refl
slice-split (suc i) (suc j) (suc k) (x ∷ s) h g = slice-split i j k s (le_of_suc-le-suc h) (le_of_suc-le-suc g)

-- a run of bytes, as a slice
pub slice_is : (i : ℕ) (s a b : List ℕ) → drop i s ≡ a ++ b → slice i (i + length a) s ≡ a
slice_is zero s a b e = rw (zero-add, e) (take-append_seam a b)
slice_is (suc i) [] [] b e = rw take-nil
slice_is (suc i) [] (x ∷ a) b e = absurd (omega (arith, ap (λ (z : List ℕ). length z) e))
slice_is (suc i) (x ∷ s) a b e = rw suc-add (slice_is i s a b e)

-- what stands before a part, what the part became and what stands behind it: a write
pub put-sets : (out xs : List ℕ) (to k : ℕ) → to + k ≤ length out → length xs ≡ k → take to out ++ (xs ++ drop k (drop to out)) ≡ sets out to xs
put-sets out xs to k fits long =
    let q : to + k ≡ to + length xs = omega arith in
    ap (λ l. take to out ++ (xs ++ l)) (drop-drop k to out ∙ ap (λ n. drop n out) q) ∙ sym (sets-eq xs out to (omega arith) ∙ append_assoc (take to out) xs (drop (to + length xs) out))

pub sets-app : (xs ys l : List ℕ) (i : ℕ) → sets l i (xs ++ ys) ≡ sets (sets l i xs) (i + length xs) ys
sets-app [] ys l i = rw add-zero
sets-app (x ∷ xs) ys l i = sets-app xs ys (set l i x) (suc i) ∙ ap (λ (k : ℕ). sets (sets (set l i x) (suc i) xs) k ys) (omega arith)

pub chain : {out out₁ out₂ xs ys : List ℕ} {to o p : ℕ} → Wrote out to xs out₁ o → Wrote out₁ o ys out₂ p → Wrote out to (xs ++ ys) out₂ p
chain {out} {out₁} {out₂} {xs} {ys} {to} {o} {p} a b =
    record {
      holds = b.holds ∙ ap (λ (z : List ℕ). sets z o ys) a.holds ∙ ap (λ (k : ℕ). sets (sets out to xs) k ys) a.ends ∙ sym (sets-app xs ys out to);
      ends = omega (arith, a.ends, b.ends, length-append xs ys);
    }

pub wrote_none : (out : List ℕ) (to : ℕ) → Wrote out to [] out to
wrote_none out to = record { holds = refl; ends = omega arith }

pub wrote-length : {out out₁ xs : List ℕ} {to o : ℕ} → Wrote out to xs out₁ o → length out₁ ≡ length out
wrote-length {out} {out₁} {xs} {to} {o} w = ap (λ (z : List ℕ). length z) w.holds ∙ length-sets out to xs

-- what is written from the start, with zeros behind it to the end
pub filled-up : {out out₁ out₂ xs : List ℕ} {p : ℕ} → Wrote out 0 xs out₁ p → out₂ ≡ sets out₁ p (replicate (length out₁ - p) 0) → length xs ≤ length out
    → out₂ ≡ xs ++ replicate (length out - length xs) 0
filled-up {out} {out₁} {out₂} {xs} {p} w e h =
    let zs : List ℕ = replicate (length out - length xs) 0 in
    let a : length out₁ - p ≡ length out - length xs = omega (arith, wrote-length w, w.ends) in
    let b : length (xs ++ zs) ≡ length out = length-append xs zs ∙ omega (arith, length-replicate {A = ℕ} (length out - length xs) 0) in
    let c : 0 + length (xs ++ zs) ≡ length out = zero-add (length (xs ++ zs)) ∙ b in
    e ∙ ap (λ k. sets out₁ p (replicate k 0)) a ∙ ap (λ z. sets z p zs) w.holds ∙ ap (λ k. sets (sets out 0 xs) k zs) w.ends ∙ sym (sets-app xs zs out 0)
    ∙ sets-eq (xs ++ zs) out 0 (omega arith) ∙ ap (λ k. xs ++ zs ++ drop k out) c ∙ ap (λ z. xs ++ zs ++ z) (drop-length out) ∙ append-nil (xs ++ zs)
