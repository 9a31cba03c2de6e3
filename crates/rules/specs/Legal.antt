-- Which names, formulas, terms and proofs are legal: those whose bytes can be read, but for their size.
-- Assumes nothing: these are definitions.
use Rattle.std.specs.Prelude.{ℕ, ◌≤◌, ◌<◌, ◌≡◌, Bool, true, List, [], ◌∷◌, length}
use Rattle.rules.specs.Name.{Name, leads, follows, Spelling, name_spelling, atom_spelling}
use Rattle.rules.specs.Formula.{Formula, atom, constant, exponential, connective}
use Rattle.rules.specs.Proof.{Proof, proof, Premises, done, ◌then◌, premise_count, Rule, plain, cut, focus}
use Rattle.rules.specs.Term.{Term, var, leaf, one, two, abs, both, branch}

abbrev pub All : (ℕ → Bool) → List ℕ → Type 0
All ok [] = Unit {0}
All ok (b ∷ bs) = (ok b ≡ true) × All ok bs

-- a byte that may lead, then bytes that may follow
abbrev pub Lettered : Name → Type 0
Lettered [] = ⊥
Lettered (b ∷ bs) = (leads b ≡ true) × All follows bs

pub record LegalName (P : Spelling) (x : Name) : Type 0 where
  pub lettered : Lettered x
  pub short : length x ≤ P.longest
  pub allowed : P.allowed x ≡ true

abbrev pub LegalFormula : Formula → Type 0
LegalFormula (atom k x) = LegalName atom_spelling x
LegalFormula (constant k) = Unit {0}
LegalFormula (exponential k a) = LegalFormula a
LegalFormula (connective k a b) = LegalFormula a × LegalFormula b

abbrev pub Legal : Term → Type 0
Legal (var x) = LegalName name_spelling x
Legal (leaf k) = Unit {0}
Legal (one k e) = Legal e
Legal (two k a b) = Legal a × Legal b
Legal (abs x e) = LegalName name_spelling x × Legal e
Legal (both k x y e b) = LegalName name_spelling x × LegalName name_spelling y × Legal e × Legal b
Legal (branch x y e l r) = LegalName name_spelling x × LegalName name_spelling y × Legal e × Legal l × Legal r

abbrev pub LegalFormulas : List Formula → Type 0
LegalFormulas [] = Unit {0}
LegalFormulas (f ∷ fs) = LegalFormula f × LegalFormulas fs

-- an index has two bytes
abbrev pub LegalRule : Rule → Type 0
LegalRule (plain k) = Unit {0}
LegalRule (cut f) = LegalFormula f
LegalRule (focus k n) = n < 65536

-- at most 255 formulas, counted by a byte, and at most 3 premises
unfoldable mutual
  pub LegalProof : Proof → Type 0
  LegalProof (proof r l ps) = LegalRule r × LegalFormulas l × LegalPremises ps × (length l < 256) × (premise_count ps ≤ 3)

  pub LegalPremises : Premises → Type 0
  LegalPremises done = Unit {0}
  LegalPremises (p then ps) = LegalProof p × LegalPremises ps
