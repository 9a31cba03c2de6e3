-- The walk's task for a formula. Assumes nothing: these are definitions.
use Rattle.std.specs.Prelude.{ℕ, List}
use Rattle.rules.specs.Legal.{LegalFormula}
use Rattle.rules.specs.Formula.{Formula, atom, constant, exponential, connective, encode_formula}
use Rattle.rules.specs.Text.{text_of_formula}
use Rattle.words.specs.Task.{Task, Done}

pub record FormulaTask (s : List ℕ) (at : ℕ) (out : List ℕ) (to : ℕ) (f : Formula) : Type 0 where
  pub legal : LegalFormula f
  pub task : Task s at out to (encode_formula f) (text_of_formula f)

abbrev pub FormulaDone : (at : ℕ) (out : List ℕ) (to : ℕ) (f : Formula) (out' : List ℕ) (r : ℕ) → Type 0
FormulaDone at out to f out' r = Done at out to (encode_formula f) (text_of_formula f) out' r

-- it has no parts
abbrev pub Leaf : Formula → Type 0
Leaf (atom k x) = Unit {0}
Leaf (constant k) = Unit {0}
Leaf (exponential k a) = ⊥
Leaf (connective k a b) = ⊥
