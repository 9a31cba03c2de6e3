-- What a walk is asked to print, and what it leaves. Assumes nothing: these are definitions.
use Rattle.std.specs.Prelude.{ℕ, ◌+◌, ◌*◌, ◌<◌, ◌≤◌, ◌≡◌, List, ◌++◌, length, drop}
use Rattle.rules.specs.Name.{name_most}
use Rattle.words.specs.Prints.{Prints}

-- The bytes e stand in s at `at`; the text x has room in out from `to` on, with the bytes that a name may write.
pub record Task (s : List ℕ) (at : ℕ) (out : List ℕ) (to : ℕ) (e x : List ℕ) : Type 0 where
  pub inside : at ≤ length s
  pub rest : List ℕ
  pub bytes : drop at s ≡ e ++ rest
  pub room : to + length x + name_most ≤ length out
  pub short : length s < 65536
  pub low : to + length x < 65536

-- A place in the bytes and a place in the text, each below 65,536, in one number, which a call hands back in a register.
abbrev pub places : (at to : ℕ) → ℕ
places at to = to * 65536 + at

-- e was passed, and x is printed.
pub record Done (at : ℕ) (out : List ℕ) (to : ℕ) (e x out' : List ℕ) (r : ℕ) : Type 0 where
  pub ends : r ≡ places (at + length e) (to + length x)
  pub prints : Prints out to x out' (to + length x)
