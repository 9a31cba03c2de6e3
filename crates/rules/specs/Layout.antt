-- Terms and formulas are written alike, parent first: a tag, then names, then parts (01, "Terms, formulas and proofs as bytes").
-- Assumes nothing: these are definitions.
use Rattle.std.specs.Prelude.{ℕ, zero, suc, List}
use Rattle.std.proofs.Math.Option.{Option, none}
use Rattle.std.proofs.Math.ListN.{get_elem?}
use Rattle.rules.specs.Name.{Name, Spelling}

-- n things in a row
abbrev pub Tuple : Type 0 → ℕ → Type 0
Tuple A zero = Unit {0}
Tuple A (suc n) = A × Tuple A n

-- A head H is a node without its names and parts; A is what they make.
pub record Layout (H A : Type 0) : Type 0 where
  -- in the order of their tags, the first at tag 1
  pub heads : List H
  -- how its names may be spelled
  pub spelling : Spelling
  -- how many names and parts follow a head, and what they make
  pub names : H → ℕ
  pub parts : H → ℕ
  pub build : (h : H) → Tuple Name (names h) → Tuple A (parts h) → A

abbrev pub head_by_tag : {H : Type 0} → List H → (tag : ℕ) → Option H
head_by_tag hs zero = none
head_by_tag hs (suc k) = get_elem? hs k
