-- What writing a word and a number, or a line of them, leaves. Assumes nothing: these are definitions.
use Rattle.std.specs.Prelude.{ℕ, ◌+◌, ◌≤◌, List, [], ◌∷◌, ◌++◌, length}
use denote.Ref.{Bor}
use Rattle.rules.specs.Basic.{Bytes, decimal}
use Rattle.buffer.specs.Wrote.{Wrote}

-- the word and the digits are written, of which there are at most 20
pub record Field (out : Bytes) (at : ℕ) (word : Bytes) (n : ℕ) (out' : Bytes) (past : ℕ) : Type 0 where
  pub wrote : Wrote out at (word ++ decimal n) out' past
  pub most : past ≤ at + (length word + 20)

-- words, each with its number, one after the other; and how many bytes they have at most
abbrev pub fields_text : List (Bor Bytes × ℕ) → Bytes
fields_text [] = []
fields_text (f ∷ fs) = (f.0.now ++ decimal f.1) ++ fields_text fs

abbrev pub fields_room : List (Bor Bytes × ℕ) → ℕ
fields_room [] = 0
fields_room (f ∷ fs) = length f.0.now + 20 + fields_room fs

pub record Fields (out : Bytes) (at : ℕ) (fields : List (Bor Bytes × ℕ)) (out' : Bytes) (past : ℕ) : Type 0 where
  pub wrote : Wrote out at (fields_text fields) out' past
  pub most : past ≤ at + fields_room fields

-- a line is written, of at most so many bytes
pub record Line (out : Bytes) (at : ℕ) (line : Bytes) (long : ℕ) (out' : Bytes) (past : ℕ) : Type 0 where
  pub wrote : Wrote out at line out' past
  pub most : past ≤ at + long
