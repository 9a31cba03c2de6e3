-- The term of a row as bytes: a tag, what stands between it and the parts, and the parts. Assumes nothing: these are definitions.
use Rattle.std.specs.Prelude.{ℕ, zero, suc, ◌+◌, ◌<◌, ◌≤◌, ◌≡◌, [], ◌∷◌, length}
use Rattle.rules.specs.Basic.{Bytes, ◌‥◌}
use Rattle.rules.specs.Name.{encode_name}
use Rattle.rules.specs.Term.{one_tag, two_tag}
use Rattle.draft.specs.declared.row.Row.{Row}
use Rattle.draft.specs.declared.row.RowKind.TheVariants.{Named}
use Rattle.draft.specs.Draft.{name_of, x_name, Shape, shape_of, named, identity, discarding, letting, branching, copying, wrapping, joining}
use Rattle.draft.specs.Made.{most_number}

abbrev pub tag_of : Shape → ℕ
tag_of named = 1
tag_of identity = 5
tag_of discarding = 16
tag_of letting = 4
tag_of branching = 9
tag_of copying = 17
tag_of (wrapping k) = one_tag k
tag_of (joining k) = two_tag k

-- the variable of a counted name, and two names that follow each other
abbrev pub variable : ℕ → Bytes
variable n = 1 ∷ encode_name (x_name n)

abbrev pub two_names : ℕ → Bytes
two_names n = encode_name (x_name n) ‥ encode_name (x_name (n + 1))

abbrev pub middle : Bytes → (number stem : ℕ) → Shape → Bytes
middle s n p named = encode_name (name_of s p n)
middle s n p identity = encode_name (x_name n) ‥ variable n
middle s n p discarding = 2 ∷ []
middle s n p letting = two_names n
middle s n p branching = two_names n
middle s n p copying = two_names n ‥ variable (n + 2)
middle s n p (wrapping k) = []
middle s n p (joining k) = []

abbrev pub head : Bytes → (number stem : ℕ) → Shape → Bytes
head s n p k = tag_of k ∷ middle s n p k

-- the bytes before the parts
abbrev pub front : Bytes → Row → Bytes
front s r = head s r.number r.stem (shape_of r.kind)

-- how many parts follow: none, the first, both, or the first and the second twice
abbrev pub parts_of : Shape → ℕ
parts_of named = 0
parts_of identity = 0
parts_of discarding = 1
parts_of letting = 2
parts_of branching = 3
parts_of copying = 1
parts_of (wrapping k) = 1
parts_of (joining k) = 2

abbrev pub written : ℕ → Bytes → Bytes → Bytes
written zero a b = []
written (suc zero) a b = a
written (suc (suc zero)) a b = a ‥ b
written (suc (suc (suc n))) a b = a ‥ b ‥ b

-- how many nodes the head itself has, and a sum over a head and its parts
abbrev pub node_count_of : Shape → ℕ
node_count_of named = 1
node_count_of identity = 2
node_count_of discarding = 2
node_count_of letting = 1
node_count_of branching = 1
node_count_of copying = 2
node_count_of (wrapping k) = 1
node_count_of (joining k) = 1

abbrev pub summed : ℕ → (own a b : ℕ) → ℕ
summed zero h a b = h
summed (suc zero) h a b = h + a
summed (suc (suc zero)) h a b = h + a + b
summed (suc (suc (suc n))) h a b = h + a + b + b

-- what follows a tag can be written: there is room, a length is a byte, and the number can be counted on from
pub record Middleroom (s out : Bytes) (at : ℕ) (r : Row) : Type 0 where
  pub room : at + length (middle s r.number r.stem (shape_of r.kind)) ≤ length out
  pub short : r.kind ≡ Named → length (name_of s r.stem r.number) ≤ 255
  pub small : r.number < most_number
