-- A text from the start of an output, with zeros behind it: what a call leaves.
-- Assumes nothing.
use Rattle.std.specs.Prelude.{ℕ, ◌+◌, ◌*◌, ◌-◌, ◌/◌, ◌≤◌, ◌<◌, ◌≡◌, List, ◌++◌, length, take, replicate}
use Rattle.std.proofs.Common.{sym, ap, ◌∙◌, append-nil, zero-add, arith, drop_of_length-le}
use Rattle.std.proofs.lemmas.List.{length-replicate}
use Rattle.std.proofs.lemmas.List.Edits.{sets, sets-eq}
use Rattle.words.specs.Prints.{Prints}
use Rattle.words.specs.Task.{Done}

-- what a walk from the start has printed
pub from_start : {out e x o : List ℕ} {r : ℕ} → Done 0 out 0 e x o r → length e < 65536 → Prints out 0 x o (r / 65536)
from_start {e = e} {x} {r = r} d short =
    let q : r / 65536 ≡ 0 + length x = ap (λ (n : ℕ). n / 65536) d.ends ∙ high (0 + length e) (0 + length x) (omega arith) in
    rw q d.prints
  where
    high : (a t : ℕ) → a < 65536 → (t * 65536 + a) / 65536 ≡ t
    high a t h = omega arith

module _ {out x o : List ℕ} {r : ℕ} (d : Prints out 0 x o r) where
  -- where the text ends
  pub whole_long : r ≡ length x
  whole_long = d.ends ∙ zero-add (length x)

  module _ (room : length x ≤ length out) where
    pub whole_room : r ≤ length o
    whole_room = omega (arith, whole_long, d.long)

    pub whole : {o' : List ℕ} → o' ≡ sets o r (replicate (length o - r) 0) → o' ≡ x ++ replicate (length out - length x) 0
    whole {o'} h =
        let n = length x in
        let zeros : List ℕ = replicate (length o - n) 0 in
        let k : length zeros ≡ length o - n = length-replicate (length o - n) 0 in
        let z : o' ≡ sets o n zeros = h ∙ ap (λ (i : ℕ). sets o i (replicate (length o - i) 0)) whole_long in
        let p : take n o ≡ x = ap (λ (i : ℕ). take i o) (sym whole_long) ∙ d.holds in
        z ∙ sets-eq zeros o n (omega (arith, d.long))
        ∙ ap (λ (l : List ℕ). (take n o ++ zeros) ++ l) (drop_of_length-le o {i = n + length zeros} (omega (arith, d.long)))
        ∙ append-nil (take n o ++ zeros) ∙ ap (λ (l : List ℕ). l ++ zeros) p
        ∙ ap (λ (i : ℕ). x ++ replicate (i - n) 0) d.long
