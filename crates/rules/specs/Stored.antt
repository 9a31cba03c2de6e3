-- The stored form: blocks of 512 bytes (01, "Stored form", refusals 10 to 13).
-- Assumes nothing: these are definitions.
use Rattle.std.specs.Prelude.{ℕ, zero, suc, ◌+◌, ◌-◌, ◌*◌, ◌/◌, ◌%◌, Bool, true, not, ◌&&◌, ◌||◌, [], ◌∷◌, length, take, drop, get_or, replicate, if◌then◌else◌, ◌==◌, Ok}
use Rattle.rules.specs.Basic.{Bytes, ◌<?◌, between, ◌‥◌, low-high}
use Rattle.rules.specs.Limits.{Limits, block_bytes, block_content, block_count_for, stored_room}
use Rattle.rules.specs.Refusal.{Outcome, refuse, ◌>>=◌, mapped}
use Rattle.rules.specs.declared.Reason.TheVariants.{StoredLength, BlockCheck, BlockHead, UnusedNotZero}
use Rattle.rules.specs.Reading.{read_term, read_proof}
pub use Rattle.rules.specs.declared.Kind.{Kind}
use Rattle.rules.specs.declared.Kind.TheVariants.{Term, Proof}

-- The caller says which kind it wants: 1 term, 2 proof.
abbrev pub kind_byte : Kind → ℕ
kind_byte Term = 1
kind_byte Proof = 2

-- the sum of (position + 1) times the byte, modulo 65,521
unfoldable pub weighed : (position : ℕ) → Bytes → ℕ
weighed i [] = 0
weighed i (b ∷ bs) = (i + 1) * b + weighed (i + 1) bs

abbrev pub check : Bytes → ℕ
check s = weighed 0 s % 65521

-- Content, with zeros behind it to the end of the block.
abbrev pub padded : ℕ → Bytes → Bytes
padded n s = take n s ‥ replicate (n - length s) 0

-- kind, block number, content length L, 506 content bytes; then the check of these 510
abbrev pub block_body : Kind → (number content_length : ℕ) → (content : Bytes) → Bytes
block_body k i n s = kind_byte k ∷ i ∷ (low-high n ‥ padded block_content (drop (block_content * i) s))

abbrev pub block : Kind → (number : ℕ) → (content : Bytes) → Bytes
block k i s = block_body k i (length s) s ‥ low-high (check (block_body k i (length s) s))

unfoldable pub blocks : Kind → (first many : ℕ) → (content : Bytes) → Bytes
blocks k i zero s = []
blocks k i (suc n) s = block k i s ‥ blocks k (suc i) n s

unfoldable pub stored : Kind → (content : Bytes) → Bytes
stored k s = blocks k 0 (block_count_for (length s)) s

-- what the content must read as
abbrev pub read_kind : Limits → Kind → (input : ℕ) → Bytes → Outcome (Unit {0})
read_kind L Term i s = mapped (λ t. tt) (read_term L i s)
read_kind L Proof i s = mapped (λ p. tt) (read_proof L i s)

-- block i of a file, its content length, and its check
abbrev pub block_at : Bytes → ℕ → Bytes
block_at f i = take block_bytes (drop (block_bytes * i) f)

abbrev pub two_bytes : Bytes → ℕ → ℕ
two_bytes b p = get_or b p 0 + 256 * get_or b (p + 1) 0

abbrev pub length_in : Bytes → ℕ
length_in b = two_bytes b 2

-- how much of block i is content, of n bytes in all
abbrev pub used_bytes_in : (n i : ℕ) → ℕ
used_bytes_in n i = if n - block_content * i <? block_content then n - block_content * i else block_content

abbrev pub all_zero : Bytes → Bool
all_zero [] = true
all_zero (b ∷ bs) = (b == 0) && all_zero bs

-- 11: a block's check is wrong.
abbrev pub check_wrong : Bytes → Bool
check_wrong b = not (two_bytes b 510 == check (take 510 b))

-- 12: kind not as asked, number not the block's, L outside 1 to 4,096, unlike block 0's or not giving the file's block count.
abbrev pub is_head_wrong : Limits → Kind → (file : Bytes) → (number : ℕ) → Bytes → Bool
is_head_wrong L k f i b =
    not (get_or b 0 0 == kind_byte k) || (not (get_or b 1 0 == i) || (not (between 1 L.bytes (length_in b))
    || (not (length_in b == length_in (block_at f 0)) || not (block_count_for (length_in b) == length f / block_bytes))))

-- 13: unused content not zero.
abbrev pub rest_wrong : (number : ℕ) → Bytes → Bool
rest_wrong i b = not (all_zero (drop (4 + used_bytes_in (length_in b) i) (take 510 b)))

-- Block by block 11, 12, 13; else the block's content.
unfoldable pub open_block : Limits → Kind → (file : Bytes) → (number : ℕ) → Bytes → Outcome Bytes
open_block L k f i b =
    if check_wrong b then refuse BlockCheck i 1
    else (if is_head_wrong L k f i b then refuse BlockHead i 1
    else (if rest_wrong i b then refuse UnusedNotZero i 1
    else Ok (take (used_bytes_in (length_in b) i) (drop 4 b))))

unfoldable pub opened_blocks : Limits → Kind → (file : Bytes) → (first many : ℕ) → Outcome Bytes
opened_blocks L k f i zero = Ok []
opened_blocks L k f i (suc n) = do
  here ← open_block L k f i (block_at f i)
  rest ← opened_blocks L k f (suc i) n
  Ok (here ‥ rest)

-- 10: stored length 0, no multiple of 512, or over 4,608. Then the blocks, then the content from 3 on, places counted in the content.
unfoldable pub opened : Limits → Kind → (file : Bytes) → Outcome Bytes
opened L k f =
    if (length f == 0) || (not (length f % block_bytes == 0) || (stored_room L <? length f)) then refuse StoredLength 0 1
    else do
      s ← opened_blocks L k f 0 (length f / block_bytes)
      _ ← read_kind L k 1 s
      Ok s
