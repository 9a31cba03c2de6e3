-- Where formulas and proofs stand in a list of bytes. Assumes nothing: these are definitions.
use Rattle.std.specs.Prelude.{ℕ, ◌≡◌, List, ◌++◌, length, drop}
use Rattle.rules.specs.Basic.{Bytes}
use Rattle.rules.specs.Formula.{Formula, encode_formula}
use Rattle.rules.specs.Proof.{Proof, encode_proof}
use Rattle.laws.specs.reading.Lists.{joined}

-- the item x stands in s at i
pub record ItemAt {A : Type 0} (enc : A → Bytes) (s : Bytes) (i : ℕ) (x : A) : Type 0 where
  pub rest : Bytes
  pub bytes : drop i s ≡ enc x ++ rest

-- the n items xs stand in s from i on
pub record ItemsAt {A : Type 0} (enc : A → Bytes) (s : Bytes) (i n : ℕ) (xs : List A) : Type 0 where
  pub many : length xs ≡ n
  pub rest : Bytes
  pub bytes : drop i s ≡ joined enc xs ++ rest

abbrev pub FormulaAt : Bytes → ℕ → Formula → Type 0
FormulaAt s i f = ItemAt encode_formula s i f

abbrev pub FormulasAt : Bytes → (place many : ℕ) → List Formula → Type 0
FormulasAt s i n fs = ItemsAt encode_formula s i n fs

abbrev pub ProofAt : Bytes → ℕ → Proof → Type 0
ProofAt s i p = ItemAt encode_proof s i p

abbrev pub ProofsAt : Bytes → (place many : ℕ) → List Proof → Type 0
ProofsAt s i n ps = ItemsAt encode_proof s i n ps

-- how long items in a row are
abbrev pub formulas_long : List Formula → ℕ
formulas_long fs = length (joined encode_formula fs)

abbrev pub proofs_long : List Proof → ℕ
proofs_long ps = length (joined encode_proof ps)
