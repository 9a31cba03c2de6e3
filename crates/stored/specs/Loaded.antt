-- A file that loads is the stored form of its content: each opened block is the block that storing writes. Over any limits. Assumes nothing.
use Prim.Native.Nat.{ℕ, zero, suc, ◌+◌, ◌-◌, ◌*◌, ◌/◌, ◌%◌, ◌<◌}
use Rattle.std.specs.Prelude.{◌≡◌, Bool, true, false, [], ◌∷◌, ◌++◌, ltb, replicate, if◌then◌else◌, Ok}
use Rattle.std.proofs.Math.Path.{refl, sym, ap}
use Rattle.std.proofs.Common.{◌∙◌, zero-add, length-append, length-drop, take-append-drop, drop-cons, drop-drop, take-take, drop_at, get_or-take, length-take-le, ltb-true, ltb-false}
use Rattle.std.proofs.Math.Nat.{sub-zero}
use native.Mathlib.Omega.{arith}
use Rattle.std.proofs.Math.ListN.{length, get_or, take, drop, drop_of_length-le}
use Rattle.std.proofs.Math.Seq.{take_at, get_or-drop}
use Rattle.rules.specs.Basic.{Bytes, low-high}
use Rattle.rules.specs.Limits.{Limits, block_bytes, block_content, block_count_for}
use Rattle.rules.specs.declared.Kind.{Kind}
use Rattle.rules.specs.Stored.{kind_byte, check, block_body, block, blocks, stored, block_at, length_in, used_bytes_in, padded, all_zero, open_block, opened_blocks, opened}
use Rattle.laws.specs.reading.Octets.{Octets}
use Rattle.stored.specs.Octets.{octet-at}
use Rattle.stored.specs.Weights.{zeros-are}
use Rattle.stored.specs.Opening.{used_le}
use Rattle.stored.specs.Blocks.{padded-used}
use Rattle.stored.specs.Inverse.{BlockRight, block-right, length-content, Joined, blocks-right, blocks-none, opens}

-- two bytes that make a number are its low and its high byte
two-are : (a b n : ℕ) → a < 256 → a + 256 * b ≡ n → (a ∷ b ∷ []) ≡ low-high n
two-are a b n h e =
    let x : a ≡ n % 256 = omega arith in
    let y : b ≡ n / 256 = omega arith in
    rw (x, y)

-- the block that storing writes
module _ (L : Limits) (k : Kind) (f : Bytes) (i : ℕ) (s b : Bytes) (room : length b ≡ block_bytes) (low₂ : get_or b 2 0 < 256) (low₅₁₀ : get_or b 510 0 < 256)
    (right : BlockRight L k f i b (take (used_bytes_in (length s) i) (drop (block_content * i) s))) (size : length_in b ≡ length s) where
  abbrev u : ℕ
  u = used_bytes_in (length s) i

  abbrev tail : Bytes
  tail = take block_content (drop 4 b)

  four : b ≡ get_or b 0 0 ∷ get_or b 1 0 ∷ get_or b 2 0 ∷ get_or b 3 0 ∷ drop 4 b
  four =
      drop-cons b 0 0 (omega arith)
      ∙ ap (λ (r : Bytes). get_or b 0 0 ∷ r) (drop-cons b 1 0 (omega arith))
      ∙ ap (λ (r : Bytes). get_or b 0 0 ∷ get_or b 1 0 ∷ r) (drop-cons b 2 0 (omega arith))
      ∙ ap (λ (r : Bytes). get_or b 0 0 ∷ get_or b 1 0 ∷ get_or b 2 0 ∷ r) (drop-cons b 3 0 (omega arith))

  first : take 510 b ≡ get_or b 0 0 ∷ get_or b 1 0 ∷ get_or b 2 0 ∷ get_or b 3 0 ∷ tail
  first = ap (take 510) four

  length-tail : length tail ≡ block_content
  length-tail = length-take-le block_content (drop 4 b) (omega (arith, length-drop 4 b))

  tail-is : tail ≡ padded block_content (drop (block_content * i) s)
  tail-is =
      let le = used_le (length s) i in
      let content : take u tail ≡ take u (drop (block_content * i) s) = take-take u block_content (drop 4 b) le ∙ ap (λ (n : ℕ). take (used_bytes_in n i) (drop 4 b)) (sym size) ∙ right.content in
      let z : all_zero (drop u tail) ≡ true =
      ap all_zero (ap (λ (r : Bytes). drop u (drop 4 r)) (sym first) ∙ drop-drop u 4 (take 510 b))
      ∙ ap (λ (n : ℕ). all_zero (drop (4 + used_bytes_in n i) (take 510 b))) (sym size)
      ∙ right.clean in
      let l : length (drop u tail) ≡ block_content - u = length-drop u tail ∙ ap (λ (n : ℕ). n - u) length-tail in
      sym (take-append-drop u tail)
      ∙ ap (λ (r : Bytes). r ++ drop u tail) content
      ∙ ap (λ (r : Bytes). take u (drop (block_content * i) s) ++ r) (zeros-are (drop u tail) z ∙ ap (λ (n : ℕ). replicate n 0) l)
      ∙ sym (padded-used i s)

  body_is : take 510 b ≡ block_body k i (length s) s
  body_is =
      first
      ∙ ap (λ (a : ℕ). a ∷ get_or b 1 0 ∷ get_or b 2 0 ∷ get_or b 3 0 ∷ tail) right.head.kind
      ∙ ap (λ (a : ℕ). kind_byte k ∷ a ∷ get_or b 2 0 ∷ get_or b 3 0 ∷ tail) right.head.number
      ∙ ap (λ (r : Bytes). kind_byte k ∷ i ∷ (r ++ tail)) (two-are (get_or b 2 0) (get_or b 3 0) (length s) low₂ size)
      ∙ ap (λ (r : Bytes). kind_byte k ∷ i ∷ (low-high (length s) ++ r)) tail-is

  last : drop 510 b ≡ low-high (check (take 510 b))
  last =
      drop-cons b 510 0 (omega arith)
      ∙ ap (λ (r : Bytes). get_or b 510 0 ∷ r) (drop-cons b 511 0 (omega arith))
      ∙ ap (λ (r : Bytes). get_or b 510 0 ∷ get_or b 511 0 ∷ r) (drop_of_length-le b {i = block_bytes} (omega arith))
      ∙ two-are (get_or b 510 0) (get_or b 511 0) (check (take 510 b)) low₅₁₀ right.sum

  pub same_block : b ≡ block k i s
  same_block =
      sym (take-append-drop 510 b)
      ∙ ap (λ (r : Bytes). take 510 b ++ r) last
      ∙ ap (λ (r : Bytes). r ++ low-high (check r)) body_is

-- what is used in a block, and what the later ones have
used-sum : (x : ℕ) (t : Bool) → ltb x block_content ≡ t → (if t then x else block_content) + (x - block_content) ≡ x
used-sum x true e = let h = ltb-true x block_content e in omega arith
used-sum x false e = let h = ltb-false x block_content e in omega arith

-- the later parts begin where this one ends: either it is full, or they are empty
later : (x : ℕ) (t : Bool) → ltb x block_content ≡ t → (here rest : Bytes) → length here ≡ (if t then x else block_content) → length rest ≡ x - block_content → drop block_content (here ++ rest) ≡ rest
later x true e here [] l m = let h = ltb-true x block_content e in drop_of_length-le (here ++ []) {i = block_content} (omega (arith, length-append here []))
later x true e here (b ∷ rest) l m = let h = ltb-true x block_content e in absurd (omega arith)
later x false e here rest l m = drop_at here rest block_content l

module _ (L : Limits) (k : Kind) (f : Bytes) (many : ℕ) (octets : Octets f) (whole : length f ≡ block_bytes * many) (count : block_count_for (length_in (block_at f 0)) ≡ many) where
  abbrev size : ℕ
  size = length_in (block_at f 0)

  length_at : (i : ℕ) → i < many → length (block_at f i) ≡ block_bytes
  length_at i h = length-take-le block_bytes (drop (block_bytes * i) f) (omega (arith, length-drop (block_bytes * i) f))

  -- the parts from a block on
  module _ (i n : ℕ) (t : Bytes) (e : i + suc n ≡ many) (o : opened_blocks L k f i (suc n) ≡ Ok t) where
    abbrev j : Joined (open_block L k f i (block_at f i)) (opened_blocks L k f (suc i) n) t
    j = blocks-right L k f i n t o

    abbrev right : BlockRight L k f i (block_at f i) j.here
    right = block-right L k f i (block_at f i) j.here j.first

    length-here : length j.here ≡ used_bytes_in size i
    length-here =
        ap length (sym right.content)
        ∙ length-content i (block_at f i) (length_at i (omega arith))
        ∙ ap (λ (m : ℕ). used_bytes_in m i) right.head.alike

  length_from : (i n : ℕ) (t : Bytes) → i + n ≡ many → opened_blocks L k f i n ≡ Ok t → length t ≡ size - block_content * i
  length_from i zero t e o = ap length (blocks-none L k f i t o) ∙ omega arith
  length_from i (suc n) t e o =
      let j = blocks-right L k f i n t o in
      let h = length-here i n t e o in
      let r = length_from (suc i) n j.rest (omega arith) j.others in
      let s = used-sum (size - block_content * i) (ltb (size - block_content * i) block_content) refl in
      ap length (sym j.all) ∙ length-append j.here j.rest ∙ omega arith

  module _ (s : Bytes) (length-s : length s ≡ size) where
    blocks_from : (i n : ℕ) (t : Bytes) → i + n ≡ many → opened_blocks L k f i n ≡ Ok t → t ≡ drop (block_content * i) s → drop (block_bytes * i) f ≡ blocks k i n s
    unfolding blocks
    blocks_from i zero t e o d = drop_of_length-le f {i = block_bytes * i} (omega arith)
    blocks_from i (suc n) t e o d =
        let j = blocks-right L k f i n t o in
        let right = block-right L k f i (block_at f i) j.here j.first in
        let b = block_at f i in
        let h : length j.here ≡ used_bytes_in size i = length-here i n t e o in
        let r = length_from (suc i) n j.rest (omega arith) j.others in
        let all : j.here ++ j.rest ≡ drop (block_content * i) s = j.all ∙ d in
        let part : take (used_bytes_in (length s) i) (drop (block_content * i) s) ≡ j.here =
        ap (λ (m : ℕ). take (used_bytes_in m i) (drop (block_content * i) s)) length-s ∙ ap (take (used_bytes_in size i)) (sym all) ∙ take_at j.here j.rest (used_bytes_in size i) h in
        let x : size - block_content * suc i ≡ size - block_content * i - block_content = omega arith in
        let y : block_content * i + block_content ≡ block_content * suc i = omega arith in
        let z : block_bytes * i + block_bytes ≡ block_bytes * suc i = omega arith in
        let after : j.rest ≡ drop (block_content * suc i) s =
        sym
        (ap (λ (m : ℕ). drop m s) (sym y)
        ∙ sym (drop-drop block_content (block_content * i) s)
        ∙ ap (drop block_content) (sym all)
        ∙ later (size - block_content * i) (ltb (size - block_content * i) block_content) refl j.here j.rest h (r ∙ x)) in
        let same : b ≡ block k i s =
        same_block L k f i s b (length_at i (omega arith)) (low 2 i (omega arith)) (low 510 i (omega arith))
        (rw part right) (right.head.alike ∙ sym length-s) in
        sym (take-append-drop block_bytes (drop (block_bytes * i) f))
        ∙ ap (λ (r : Bytes). b ++ r) (drop-drop block_bytes (block_bytes * i) f ∙ ap (λ (m : ℕ). drop m f) z ∙ blocks_from (suc i) n j.rest (omega arith) j.others after)
        ∙ ap (λ (r : Bytes). r ++ blocks k (suc i) n s) same
      where
        low : (p i : ℕ) → p < block_bytes → get_or (block_at f i) p 0 < 256
        low p i h = rw (get_or-take block_bytes (drop (block_bytes * i) f) p 0 h, get_or-drop (block_bytes * i) f p 0) (octet-at f octets (block_bytes * i + p))

-- a file that loads is the stored form of its content
pub loaded-stored : (L : Limits) (k : Kind) (f s : Bytes) → Octets f → opened L k f ≡ Ok s → f ≡ stored k s
unfolding stored
loaded-stored L k f s octets o =
    let p = opens L k f s o in
    let many = length f / block_bytes in
    let some = p.size.some in
    let whole : length f ≡ block_bytes * many = omega (arith, p.size.blocks) in
    let one : many ≡ suc (many - 1) = omega arith in
    let j = blocks-right L k f 0 (many - 1) s (ap (opened_blocks L k f 0) (sym one) ∙ p.parts) in
    let count : block_count_for (length_in (block_at f 0)) ≡ many = (block-right L k f 0 (block_at f 0) j.here j.first).head.count in
    let l : length s ≡ length_in (block_at f 0) = length_from L k f many octets whole count 0 many s (zero-add many) p.parts ∙ sub-zero (length_in (block_at f 0)) in
    blocks_from L k f many octets whole count s l 0 many s (zero-add many) p.parts refl
    ∙ ap (λ (n : ℕ). blocks k 0 n s) (sym count ∙ ap block_count_for (sym l))

-- so one file holds it
pub one-file : (L : Limits) (k : Kind) (f g s : Bytes) → Octets f → Octets g → opened L k f ≡ Ok s → opened L k g ≡ Ok s → f ≡ g
one-file L k f g s a b e h = loaded-stored L k f s a e ∙ sym (loaded-stored L k g s b h)
