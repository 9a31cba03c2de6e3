-- What was written from the start of a list, up to where it ends or over all of it. Assumes nothing.
use Prim.Native.Nat.{ℕ, ◌+◌, ◌-◌, ◌≤◌}
use mathlib.Core.Path.{◌≡◌, sym, ap, ◌∙◌}
use mathlib.Core.List.{List, ◌++◌, append-nil}
use native.Mathlib.Omega.{arith}
use lib.ListN.{length, drop, take, replicate, length-replicate, drop_of_length-le}
use lib.Seq.{sets, sets-eq, take_at}
use Rattle.buffer.specs.Wrote.{Wrote}
use Rattle.buffer.specs.Writing.{wrote-length}
use Rattle.substitution.specs.Places.{Held}

-- a write that fills the list
sets-all : (l zs : List ℕ) → length zs ≡ length l → sets l 0 zs ≡ zs
sets-all l zs e =
    sets-eq zs l 0 (omega arith)
    ∙ ap (λ (z : List ℕ). zs ++ z) (drop_of_length-le l {i = 0 + length zs} (omega arith))
    ∙ append-nil zs

-- what was written from the start, as the part up to where it ends
pub wrote-part : {out out₁ xs : List ℕ} {k : ℕ} → Wrote out 0 xs out₁ k → k ≤ length out → take k out₁ ≡ xs
wrote-part {out} {out₁} {xs} {k} w h =
    ap (λ (z : List ℕ). take k z) (w.holds ∙ sets-eq xs out 0 (omega (arith, w.ends))) ∙ take_at xs (drop (0 + length xs) out) k (omega (arith, w.ends))

pub held : {row row₁ ps : List ℕ} {count : ℕ} → Wrote row 0 ps row₁ count → count ≤ length row → Held row₁ count ps
held w h = record { are = wrote-part w h; inside = omega (arith, wrote-length w) }

-- a slice from 0 on
pub from_start : (k : ℕ) (l : List ℕ) → take (k - 0) l ≡ take k l
from_start k l = let e : k - 0 ≡ k = omega arith in ap (λ (n : ℕ). take n l) e

pub zeros : (l : List ℕ) (n : ℕ) → length l ≡ n → sets l 0 (replicate (length l - 0) 0) ≡ replicate n 0
zeros l n e =
    let d : length l - 0 ≡ n = omega arith in
    ap {B = List ℕ} (λ (k : ℕ). sets l 0 (replicate k 0)) d ∙ sets-all l (replicate n 0) (length-replicate {A = ℕ} n 0 ∙ sym e)
