-- What a table of bytes says of each: 1 that it is a tag, 2 for each of its names, 8 for each of its parts, 32 that it follows in a name, and 64 times
-- 2 ^ n that it leads names of n letters and no word of n letters.
-- Assumes nothing: these are definitions.
use Rattle.std.specs.Prelude.{ℕ, suc, ◌+◌, ◌*◌, ◌/◌, ◌%◌, ◌^◌, ◌<◌, ◌≤◌, ◌≡◌, Bool, true, false, ◌∷◌, length, get_or, eqb}
use Rattle.std.proofs.Math.Option.{Option, none, some}
use Rattle.rules.specs.Basic.{Bytes}
use Rattle.rules.specs.Name.{Name, name_most, leads, follows, Spelling}
use Rattle.rules.specs.Layout.{Layout, head_by_tag}

pub record Letters (t : Bytes) : Type 0 where
  pub leading : (b : ℕ) → b < 256 → eqb (get_or t b 0 / 128 % 2) 1 ≡ leads b
  pub following : (b : ℕ) → b < 256 → eqb (get_or t b 0 / 32 % 2) 1 ≡ follows b
  pub small : (b : ℕ) → b < 256 → get_or t b 0 < 4294967296

-- whether b leads names of n letters and no word of n letters
abbrev pub starts_of : Bytes → (b n : ℕ) → Bool
starts_of t b n = eqb (get_or t b 0 / 2 ^ n / 64 % 2) 1

-- letters, and what they start
pub record Alphabet (P : Spelling) (t : Bytes) : Type 0 where
  pub letters : Letters t
  pub started : (b n : ℕ) → b < 256 → n ≤ name_most → starts_of t b n ≡ true → (leads b ≡ true) × (1 ≤ n)
  pub wordless : (b : ℕ) (x : Name) → b < 256 → P.allowed (b ∷ x) ≡ false → starts_of t b (suc (length x)) ≡ false

-- A head's names and parts in one number, which is 0 where there is no head.
abbrev pub code_at : {H A : Type 0} → Layout H A → Option H → ℕ
code_at F none = 0
code_at F (some h) = 1 + (2 * F.names h + 8 * F.parts h)

pub record Classes {H A : Type 0} (F : Layout H A) (t : Bytes) : Type 0 where
  pub alphabet : Alphabet F.spelling t
  pub tagged : (b : ℕ) → b < 256 → get_or t b 0 % 32 ≡ code_at F (head_by_tag F.heads b)
