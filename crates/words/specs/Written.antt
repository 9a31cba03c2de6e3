-- A word that is written whole, of which the first n bytes count: what stands before it is kept, and printing goes on after the n.
-- Assumes nothing.
use Rattle.std.specs.Prelude.{ℕ, ◌+◌, ◌≤◌, ◌≡◌, List, ◌++◌, length, take, drop}
use Rattle.std.proofs.Common.{sym, ap, ◌∙◌, append_assoc, arith, length-take-le, take-add, drop_at}
use Rattle.std.proofs.lemmas.List.{take-append-le}
use Rattle.std.proofs.lemmas.List.Edits.{sets, sets-eq}
use Rattle.std.proofs.Math.Seq.{length-sets, take-append-add, take-length, slice, length-slice}
use Rattle.buffer.specs.Wrote.{Wrote}
use Rattle.buffer.specs.Writing.{put-sets}
use Rattle.words.specs.Prints.{Prints}

module _ (out xs : List ℕ) (to n : ℕ) (most : n ≤ length xs) (room : to + length xs ≤ length out) where
  prefix : take (to + n) (sets out to xs) ≡ take to out ++ take n xs
  prefix =
      let k : length (take to out) ≡ to = length-take-le to out (omega arith) in
      ap (take (to + n)) (sets-eq xs out to room ∙ append_assoc (take to out) xs (drop (to + length xs) out))
      ∙ ap (λ (m : ℕ). take (m + n) (take to out ++ (xs ++ drop (to + length xs) out))) (sym k)
      ∙ take-append-add (take to out) (xs ++ drop (to + length xs) out) n
      ∙ ap (λ (l : List ℕ). take to out ++ l) (take-append-le n xs (drop (to + length xs) out) most)

  pub prints : (out' : List ℕ) → out' ≡ sets out to xs → Prints out to (take n xs) out' (to + n)
  prints out' e =
      record {
        long = ap length e ∙ length-sets out to xs;
        ends = ap (λ (m : ℕ). to + m) (sym (length-take-le n xs most));
        holds = ap (take (to + n)) e ∙ prefix;
      }

-- the first n of m bytes that were written over a part
pub put : (out xs ys : List ℕ) (to m n : ℕ) → n ≤ m → to + m ≤ length out → length ys ≡ m → xs ≡ ys → Prints out to (take n ys) (take to out ++ (xs ++ drop m (drop to out))) (to + n)
put out xs ys to m n few room long e =
    prints out ys to n (omega arith) (omega arith) _ (put-sets out xs to m room (ap length e ∙ long) ∙ ap (sets out to) e)

-- a name of n bytes, copied with n
pub exact : (s out out' : List ℕ) (i to n past : ℕ) → i + n ≤ length s → to + n ≤ length out → Wrote out to (slice i (i + n) s) out' past
    → Prints out to (take n (drop i s)) out' past
exact s out out' i to n past fits room w =
    let e : slice i (i + n) s ≡ take n (drop i s) =
    ap (drop i) (take-add i n s) ∙ drop_at (take i s) (take n (drop i s)) i (length-take-le i s (omega arith)) in
    let k : length (slice i (i + n) s) ≡ n = length-slice i (i + n) s fits ∙ omega arith in
    let p = prints out (slice i (i + n) s) to n (omega arith) (omega arith) out' w.holds in
    let q : to + n ≡ past = omega (arith, w.ends) in
    rw (← q) (rw (ap (λ (m : ℕ). take m (slice i (i + n) s)) (sym k) ∙ take-length (slice i (i + n) s) ∙ e) at p)
