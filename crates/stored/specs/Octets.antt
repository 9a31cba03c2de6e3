-- Each number of a stored form is a byte if each of its content is: by recursion on the parts that it is put together from. Assumes nothing.
use Rattle.std.specs.Prelude.{ℕ, zero, suc, ◌+◌, ◌-◌, ◌*◌, ◌≤◌, ◌<◌, [], ◌∷◌, ◌++◌, length, get_or, take, drop, replicate}
use Rattle.std.proofs.Common.{arith}
use Rattle.rules.specs.Basic.{Bytes, low-high}
use Rattle.rules.specs.Limits.{block_content, block_count_for}
use Rattle.rules.specs.declared.Kind.{Kind}
use Rattle.rules.specs.declared.Kind.TheVariants.{Term, Proof}
use Rattle.rules.specs.Stored.{kind_byte, check, padded, block_body, block, blocks, stored}
use Rattle.laws.specs.reading.Octets.{Octets}

pub octet-at : (s : Bytes) → Octets s → (i : ℕ) → get_or s i 0 < 256
octet-at [] o i = omega arith
octet-at (b ∷ s) o zero = o.0
octet-at (b ∷ s) o (suc i) = octet-at s o.1 i

append : (s t : Bytes) → Octets s → Octets t → Octets (s ++ t)
append [] t a b = b
append (x ∷ s) t a b = (a.0, append s t a.1 b)

first : (n : ℕ) (s : Bytes) → Octets s → Octets (take n s)
first zero s o = tt
first (suc n) [] o = tt
first (suc n) (b ∷ s) o = (o.0, first n s o.1)

rest : (n : ℕ) (s : Bytes) → Octets s → Octets (drop n s)
rest zero s o = o
rest (suc n) [] o = tt
rest (suc n) (b ∷ s) o = rest n s o.1

zeros : (n : ℕ) → Octets (replicate n 0)
zeros zero = tt
zeros (suc n) = (omega arith, zeros n)

two : (n : ℕ) → n ≤ 65535 → Octets (low-high n)
two n h = (omega arith, (omega arith, tt))

kind : (k : Kind) → kind_byte k < 256
kind Term = omega arith
kind Proof = omega arith

body-octets : (k : Kind) (i n : ℕ) (s : Bytes) → i < 256 → n ≤ 65535 → Octets s → Octets (block_body k i n s)
body-octets k i n s h l o =
    let t = drop (block_content * i) s in
    let pad = append (take block_content t) (replicate (block_content - length t) 0) (first block_content t (rest (block_content * i) s o)) (zeros (block_content - length t)) in
    (kind k, (h, append (low-high n) (padded block_content t) (two n l) pad))

block-octets : (k : Kind) (i : ℕ) (s : Bytes) → i < 256 → length s ≤ 65535 → Octets s → Octets (block k i s)
block-octets k i s h l o =
    let b = block_body k i (length s) s in
    append b (low-high (check b)) (body-octets k i (length s) s h l o) (two (check b) (omega arith))

blocks-octets : (k : Kind) (i n : ℕ) (s : Bytes) → i + n ≤ 256 → length s ≤ 65535 → Octets s → Octets (blocks k i n s)
unfolding blocks
blocks-octets k i zero s h l o = tt
blocks-octets k i (suc n) s h l o =
    append (block k i s) (blocks k (suc i) n s) (block-octets k i s (omega arith) l o) (blocks-octets k (suc i) n s (omega arith) l o)

pub stored-octets : (k : Kind) (s : Bytes) → Octets s → length s ≤ 65535 → Octets (stored k s)
unfolding stored
stored-octets k s o l = blocks-octets k 0 (block_count_for (length s)) s (omega arith) l o
