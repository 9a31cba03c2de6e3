-- Items in a list, one after the other: their bytes, their counts, and what they are as the formulas and the premises of a proof.
-- Assumes nothing.
use Rattle.std.specs.Prelude.{ℕ, suc, ◌+◌, ◌≡◌, refl, List, [], ◌∷◌, ◌++◌, length}
use Rattle.std.proofs.Common.{ap}
use Rattle.rules.specs.Basic.{Bytes, ◌‥◌}
use Rattle.rules.specs.Formula.{Formula, encode_formula, formula_nodes}
use Rattle.rules.specs.Proof.{Proof, row, premise_count, encode_formulas, encode_proof, encode_premises, rules, rules_in, list_nodes, proof_formula_nodes, premises_formula_nodes}
use Rattle.rules.specs.Legal.{LegalFormula, LegalFormulas, LegalProof, LegalPremises}

module _ {A : Type 0} where
  abbrev pub joined : (A → Bytes) → List A → Bytes
  joined enc [] = []
  joined enc (x ∷ xs) = enc x ‥ joined enc xs

  abbrev pub total : (A → ℕ) → List A → ℕ
  total count [] = 0
  total count (x ∷ xs) = count x + total count xs

  abbrev pub EachOf : (A → Type 0) → List A → Type 0
  EachOf P [] = Unit {0}
  EachOf P (x ∷ xs) = P x × EachOf P xs

-- the formulas of `linear`
pub formulas-joined : (fs : List Formula) → encode_formulas fs ≡ joined encode_formula fs
unfolding encode_formulas
formulas-joined [] = refl
formulas-joined (f ∷ fs) = ap (λ r. encode_formula f ++ r) (formulas-joined fs)

pub formulas-total : (fs : List Formula) → list_nodes fs ≡ total formula_nodes fs
formulas-total [] = refl
formulas-total (f ∷ fs) = ap (λ n. formula_nodes f + n) (formulas-total fs)

pub formulas-legal : (fs : List Formula) → EachOf LegalFormula fs → LegalFormulas fs
formulas-legal [] l = tt
formulas-legal (f ∷ fs) l = (l.0, formulas-legal fs l.1)

-- the premises
pub premises-joined : (ps : List Proof) → encode_premises (row ps) ≡ joined encode_proof ps
unfolding encode_proof
premises-joined [] = refl
premises-joined (p ∷ ps) = ap (λ r. encode_proof p ++ r) (premises-joined ps)

pub premises-count : (ps : List Proof) → premise_count (row ps) ≡ length ps
premises-count [] = refl
premises-count (p ∷ ps) = ap suc (premises-count ps)

pub premises-rules : (ps : List Proof) → rules_in (row ps) ≡ total rules ps
unfolding rules
premises-rules [] = refl
premises-rules (p ∷ ps) = ap (λ n. rules p + n) (premises-rules ps)

pub premises-nodes : (ps : List Proof) → premises_formula_nodes (row ps) ≡ total proof_formula_nodes ps
unfolding proof_formula_nodes
premises-nodes [] = refl
premises-nodes (p ∷ ps) = ap (λ n. proof_formula_nodes p + n) (premises-nodes ps)

pub premises-legal : (ps : List Proof) → EachOf LegalProof ps → LegalPremises (row ps)
unfolding LegalProof
premises-legal [] l = tt
premises-legal (p ∷ ps) l = (l.0, premises-legal ps l.1)
