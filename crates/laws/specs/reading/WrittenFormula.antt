-- Formulas are written as their layout says: by cases of the head, and of the formula for the induction.
-- Assumes nothing.
use Rattle.std.specs.Prelude.{ℕ, ◌+◌, ◌≡◌, refl, ◌∷◌}
use Rattle.std.proofs.Common.{append-nil, arith}
use Rattle.std.proofs.Math.Option.{some}
use Rattle.rules.specs.Basic.{◌‥◌}
use Rattle.rules.specs.Name.{Name, atom_spelling, encode_name}
use Rattle.rules.specs.Legal.{LegalName, LegalFormula}
use Rattle.rules.specs.Layout.{Tuple, head_by_tag}
use Rattle.rules.specs.Formula.{Formula, atom, constant, exponential, connective, FormulaHead, an_atom, a_constant, an_exponential, a_connective, formula_heads, formula_names, formula_parts, build_formula, formulas}
use Rattle.rules.specs.Formula.{plain, negated, One, Bottom, Top, Zero, OfCourse, WhyNot, Tensor, Par, With, Plus, Lolli, tag_of_sign, constant_tag, exponential_tag, connective_tag, encode_formula, formula_nodes}
use Rattle.laws.specs.reading.Written.{bytes_of, sum_of, Each, Written, placed}

abbrev pub tag_of_formula : FormulaHead → ℕ
tag_of_formula (an_atom k) = tag_of_sign k
tag_of_formula (a_constant k) = constant_tag k
tag_of_formula (an_exponential k) = exponential_tag k
tag_of_formula (a_connective k) = connective_tag k

head_of : (h : FormulaHead) → head_by_tag formula_heads (tag_of_formula h) ≡ some h
head_of (an_atom plain) = refl
head_of (an_atom negated) = refl
head_of (a_constant One) = refl
head_of (a_constant Bottom) = refl
head_of (a_constant Top) = refl
head_of (a_constant Zero) = refl
head_of (an_exponential OfCourse) = refl
head_of (an_exponential WhyNot) = refl
head_of (a_connective Tensor) = refl
head_of (a_connective Par) = refl
head_of (a_connective With) = refl
head_of (a_connective Plus) = refl
head_of (a_connective Lolli) = refl

bytes-build : (h : FormulaHead) (xs : Tuple Name (formula_names h)) (fs : Tuple Formula (formula_parts h))
    → encode_formula (build_formula h xs fs) ≡ tag_of_formula h ∷ (bytes_of encode_name (formula_names h) xs ‥ bytes_of encode_formula (formula_parts h) fs)
unfolding encode_formula
bytes-build (an_atom k) xs fs = simp append-nil
bytes-build (a_constant k) xs fs = refl
bytes-build (an_exponential k) xs fs = simp append-nil
bytes-build (a_connective k) xs fs = simp append-nil

count-build : (h : FormulaHead) (xs : Tuple Name (formula_names h)) (fs : Tuple Formula (formula_parts h))
    → formula_nodes (build_formula h xs fs) ≡ 1 + sum_of formula_nodes (formula_parts h) fs
unfolding formula_nodes
count-build (an_atom k) xs fs = refl
count-build (a_constant k) xs fs = refl
count-build (an_exponential k) xs fs = omega arith
count-build (a_connective k) xs fs = omega arith

legal-build : (h : FormulaHead) (xs : Tuple Name (formula_names h)) (fs : Tuple Formula (formula_parts h))
    → Each (LegalName atom_spelling) (formula_names h) xs → Each LegalFormula (formula_parts h) fs → LegalFormula (build_formula h xs fs)
legal-build (an_atom k) xs fs p q = p.0
legal-build (a_constant k) xs fs p q = tt
legal-build (an_exponential k) xs fs p q = q.0
legal-build (a_connective k) xs fs p q = (q.0, q.1.0)

module _ (P : Formula → Type 0)
    (b : (h : FormulaHead) (xs : Tuple Name (formula_names h)) (fs : Tuple Formula (formula_parts h))
    → Each (LegalName atom_spelling) (formula_names h) xs → Each P (formula_parts h) fs → P (build_formula h xs fs)) where
  every : (f : Formula) → LegalFormula f → P f
  every (atom k x) p = b (an_atom k) (x, tt) tt (p, tt) tt
  every (constant k) p = b (a_constant k) tt tt tt tt
  every (exponential k f) p = b (an_exponential k) tt (f, tt) tt (every f p, tt)
  every (connective k f g) p = b (a_connective k) tt (f, (g, tt)) tt (every f p.0, (every g p.1, tt))

pub written-formulas : Written formulas encode_formula formula_nodes LegalFormula
written-formulas =
    record {
      tag_of = tag_of_formula;
      head_of = head_of;
      tag-of = placed tag_of_formula formula_heads (omega arith);
      bytes = bytes-build;
      count = count-build;
      legal = legal-build;
      every = every;
    }
