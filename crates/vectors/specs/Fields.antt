-- The list of records: a record is a call's number and six fields, a field a length in two bytes and so many bytes. Assumes nothing: these are definitions.
use Rattle.std.specs.Prelude.{ℕ, ◌≡◌, take, drop, ◌∷◌}
use Rattle.rules.specs.Basic.{Bytes}
use Rattle.rules.specs.Stored.{two_bytes}

-- the field that bytes begin with, cut where they end, and what stands behind it
abbrev pub field : Bytes → Bytes
field b = take (two_bytes b 0) (drop 2 b)

abbrev pub behind : Bytes → Bytes
behind b = drop (two_bytes b 0) (drop 2 b)

-- a list begins with a record of these fields, in their order, and this is what stands behind it
pub record Begins (list : Bytes) (call : ℕ) (numbers wanted output first second third rest : Bytes) : Type 0 where
  pub fields : Bytes
  pub called : list ≡ call ∷ fields
  pub in_1 : numbers ≡ field fields
  pub in_2 : wanted ≡ field (behind fields)
  pub in_3 : output ≡ field (behind (behind fields))
  pub in_4 : first ≡ field (behind (behind (behind fields)))
  pub in_5 : second ≡ field (behind (behind (behind (behind fields))))
  pub in_6 : third ≡ field (behind (behind (behind (behind (behind fields)))))
  pub left : rest ≡ behind (behind (behind (behind (behind (behind fields)))))
