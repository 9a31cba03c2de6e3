-- Formulas, grouped by shape: 1 Atom; 2 NegAtom; 3 Tensor; 4 Par; 5 One; 6 Bottom; 7 With; 8 Plus; 9 Top; 10 Zero; 11 OfCourse; 12 WhyNot; 13 Lolli.
-- Assumes nothing: these are definitions.
use Rattle.std.specs.Prelude.{ℕ, ◌+◌, List, [], ◌∷◌}
use Rattle.rules.specs.Basic.{Bytes, ◌‥◌}
use Rattle.rules.specs.Name.{Name, atom_spelling, encode_name}
use Rattle.rules.specs.Layout.{Layout, Tuple}

-- Atom, NegAtom
pub data Sign : Type 0 where
  plain negated : Sign

pub data Constant : Type 0 where
  One Bottom Top Zero : Constant

pub data Exponential : Type 0 where
  OfCourse WhyNot : Exponential

pub data Connective : Type 0 where
  Tensor Par With Plus Lolli : Connective

pub data Formula : Type 0 where
  atom : Sign → Name → Formula
  constant : Constant → Formula
  exponential : Exponential → Formula → Formula
  connective : Connective → Formula → Formula → Formula

-- a node without its name and parts
pub data FormulaHead : Type 0 where
  an_atom : Sign → FormulaHead
  a_constant : Constant → FormulaHead
  an_exponential : Exponential → FormulaHead
  a_connective : Connective → FormulaHead

abbrev pub formula_heads : List FormulaHead
formula_heads =
    an_atom plain ∷ an_atom negated ∷ a_connective Tensor ∷ a_connective Par ∷ a_constant One ∷ a_constant Bottom ∷ a_connective With ∷ a_connective Plus
    ∷ a_constant Top ∷ a_constant Zero ∷ an_exponential OfCourse ∷ an_exponential WhyNot ∷ a_connective Lolli ∷ []

abbrev pub formula_names : FormulaHead → ℕ
formula_names (an_atom k) = 1
formula_names (a_constant k) = 0
formula_names (an_exponential k) = 0
formula_names (a_connective k) = 0

abbrev pub formula_parts : FormulaHead → ℕ
formula_parts (an_atom k) = 0
formula_parts (a_constant k) = 0
formula_parts (an_exponential k) = 1
formula_parts (a_connective k) = 2

abbrev pub build_formula : (h : FormulaHead) → Tuple Name (formula_names h) → Tuple Formula (formula_parts h) → Formula
build_formula (an_atom k) xs fs = atom k xs.0
build_formula (a_constant k) xs fs = constant k
build_formula (an_exponential k) xs fs = exponential k fs.0
build_formula (a_connective k) xs fs = connective k fs.0 fs.1.0

abbrev pub formulas : Layout FormulaHead Formula
formulas = record { heads = formula_heads; spelling = atom_spelling; names = formula_names; parts = formula_parts; build = build_formula }

abbrev pub tag_of_sign : Sign → ℕ
tag_of_sign plain = 1
tag_of_sign negated = 2

abbrev pub constant_tag : Constant → ℕ
constant_tag One = 5
constant_tag Bottom = 6
constant_tag Top = 9
constant_tag Zero = 10

abbrev pub exponential_tag : Exponential → ℕ
exponential_tag OfCourse = 11
exponential_tag WhyNot = 12

abbrev pub connective_tag : Connective → ℕ
connective_tag Tensor = 3
connective_tag Par = 4
connective_tag With = 7
connective_tag Plus = 8
connective_tag Lolli = 13

unfoldable pub encode_formula : Formula → Bytes
encode_formula (atom k x) = tag_of_sign k ∷ encode_name x
encode_formula (constant k) = constant_tag k ∷ []
encode_formula (exponential k a) = exponential_tag k ∷ encode_formula a
encode_formula (connective k a b) = connective_tag k ∷ (encode_formula a ‥ encode_formula b)

unfoldable pub formula_nodes : Formula → ℕ
formula_nodes (atom k x) = 1
formula_nodes (constant k) = 1
formula_nodes (exponential k a) = 1 + formula_nodes a
formula_nodes (connective k a b) = 1 + (formula_nodes a + formula_nodes b)
