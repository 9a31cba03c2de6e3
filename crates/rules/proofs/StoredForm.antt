-- Document 01's own facts of the stored form, and each of its refusals once, as one table that antt computes. Assumes nothing.
use Rattle.std.specs.Prelude.{Ok, Err}
use Prim.Native.Nat.{ℕ}
use mathlib.Core.Path.{◌≡◌, refl}
use mathlib.Core.List.{List, [], ◌∷◌, ◌++◌, map}
use lib.ListN.{length, set, take, drop, replicate}
use Rattle.rules.specs.Basic.{Bytes, low-high}
use Rattle.rules.specs.Limits.{limits, wide_limits, block_count_for, output_room, text_room, formula_text_room, stored_room, scratch_room, entry_room}
use Rattle.rules.specs.Refusal.{Outcome, number_of}
use Rattle.rules.specs.declared.Kind.TheVariants.{Term, Proof}
use Rattle.rules.specs.Reading.{byte, times, tag, too_many, node, whole, read_term}
use Rattle.rules.specs.Stored.{check, weighed, block_body, blocks, stored, open_block, opened_blocks, opened, two_bytes}

-- The numbers: stored `()` has check 14; sizes in blocks; the room that a call asks, before and after request (ix).
pub numbers : List (ℕ × ℕ)
numbers =
    (check (block_body Term 0 1 (2 ∷ [])), 14)
    ∷ (two_bytes (stored Term (2 ∷ [])) 510, 14)
    ∷ (length (stored Term (2 ∷ [])), 512)
    ∷ (block_count_for 1, 1)
    ∷ (block_count_for 506, 1)
    ∷ (block_count_for 507, 2)
    ∷ (block_count_for 4096, 9)
    ∷ (output_room limits, 4096)
    ∷ (text_room limits, 20480)
    ∷ (formula_text_room limits, 11264)
    ∷ (stored_room limits, 4608)
    ∷ (scratch_room limits, 8192)
    ∷ (entry_room limits, 512)
    ∷ (stored_room wide_limits, 12800)
    ∷ []

pub numbers-are : map (λ (n : ℕ × ℕ). n.0) numbers ≡ map (λ (n : ℕ × ℕ). n.1) numbers
unfolding numbers weighed stored blocks
numbers-are = refl

-- what a file opens as: 0 and the content, or the number, place and input of its refusal
pub shown : Outcome Bytes → Bytes
shown (Ok s) = 0 ∷ s
shown (Err r) = number_of r.reason ∷ r.place ∷ r.input ∷ []

-- a file with its first block's check put right
repaired : Bytes → Bytes
repaired f = take 510 f ++ (low-high (check (take 510 f)) ++ drop 512 f)

unit : Bytes
unit = stored Term (2 ∷ [])

-- 510 Promotes and a Unit: two blocks
promotes : Bytes
promotes = replicate 510 14 ++ (2 ∷ [])

long : Bytes
long = stored Term promotes

pub files : List (Bytes × Bytes)
files =
    (unit, 0 ∷ 2 ∷ [])
    ∷ ([], 10 ∷ 0 ∷ 1 ∷ [])
    ∷ (take 511 unit, 10 ∷ 0 ∷ 1 ∷ [])
    ∷ (set unit 4 10, 11 ∷ 0 ∷ 1 ∷ [])
    ∷ (set unit 510 15, 11 ∷ 0 ∷ 1 ∷ [])
    ∷ (replicate 512 0, 12 ∷ 0 ∷ 1 ∷ [])
    ∷ (stored Proof (2 ∷ []), 12 ∷ 0 ∷ 1 ∷ [])
    ∷ (repaired (set unit 1 1), 12 ∷ 0 ∷ 1 ∷ [])
    ∷ (repaired (set unit 2 0), 12 ∷ 0 ∷ 1 ∷ [])
    ∷ (repaired (set unit 3 2), 12 ∷ 0 ∷ 1 ∷ [])
    ∷ (unit ++ unit, 12 ∷ 0 ∷ 1 ∷ [])
    ∷ (repaired (set unit 5 1), 13 ∷ 0 ∷ 1 ∷ [])
    ∷ (repaired (set unit 509 1), 13 ∷ 0 ∷ 1 ∷ [])
    ∷ (stored Term (18 ∷ []), 4 ∷ 0 ∷ 1 ∷ [])
    ∷ (stored Term (2 ∷ 2 ∷ []), 7 ∷ 1 ∷ 1 ∷ [])
    ∷ (stored Term (14 ∷ []), 3 ∷ 1 ∷ 1 ∷ [])
    ∷ (long, 0 ∷ promotes)
    ∷ (take 512 long, 12 ∷ 0 ∷ 1 ∷ [])
    ∷ (drop 512 long ++ take 512 long, 12 ∷ 0 ∷ 1 ∷ [])
    ∷ (set long 600 1, 11 ∷ 1 ∷ 1 ∷ [])
    ∷ (take 512 long ++ unit, 12 ∷ 1 ∷ 1 ∷ [])
    ∷ (take 512 long ++ repaired (set (drop 512 long) 2 254), 12 ∷ 1 ∷ 1 ∷ [])
    ∷ (take 512 long ++ repaired (set (drop 512 long) 508 1), 13 ∷ 1 ∷ 1 ∷ [])
    ∷ []

pub files-are : map (λ (f : Bytes × Bytes). shown (opened limits Term f.0)) files ≡ map (λ (f : Bytes × Bytes). f.1) files
unfolding files shown repaired unit promotes long weighed stored blocks opened opened_blocks open_block whole read_term node tag byte too_many times
files-are = refl
