-- The two forms and what they share: a layout, a count of nodes, a limit on it, and a reading of a whole input.
-- Assumes nothing: these are definitions.
use Rattle.std.specs.Prelude.{ℕ}
use Rattle.rules.specs.Basic.{Bytes}
use Rattle.rules.specs.Limits.{Limits}
use Rattle.rules.specs.Refusal.{Outcome}
use Rattle.rules.specs.Layout.{Layout}
use Rattle.rules.specs.Term as T
use Rattle.rules.specs.Formula as F
use Rattle.rules.specs.Reading.{read_term, read_formula}
pub use Rattle.reader.specs.declared.class.Form.{Form}
pub use Rattle.reader.specs.declared.class.Form.TheVariants.{Term, Formula}

abbrev pub HeadOf : Form → Type 0
HeadOf Term = T.Head
HeadOf Formula = F.FormulaHead

abbrev pub ItemOf : Form → Type 0
ItemOf Term = T.Term
ItemOf Formula = F.Formula

abbrev pub layout_of : (f : Form) → Layout (HeadOf f) (ItemOf f)
layout_of Term = T.terms
layout_of Formula = F.formulas

abbrev pub count_of : (f : Form) → ItemOf f → ℕ
count_of Term t = T.nodes t
count_of Formula a = F.formula_nodes a

abbrev pub most_of : Form → Limits → ℕ
most_of Term L = L.nodes
most_of Formula L = L.formulas

abbrev pub read_of : (f : Form) → Limits → (input : ℕ) → Bytes → Outcome (ItemOf f)
read_of Term = read_term
read_of Formula = read_formula
