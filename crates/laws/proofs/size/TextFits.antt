-- The text of a formula and of a term that is read fits the buffer that is asked for: from how long it can be.
-- Assumes nothing.
use Rattle.std.specs.Prelude.{ℕ, ◌≤◌, ◌≡◌, length, Ok}
use Rattle.std.proofs.Common.{ap, arith}
use Rattle.rules.specs.Basic.{Bytes}
use Rattle.rules.specs.Limits.{Limits, text_room, formula_text_room}
use Rattle.rules.specs.Formula.{Formula}
use Rattle.rules.specs.Term.{Term}
use Rattle.rules.specs.Text.{text_of_formula, text}
use Rattle.rules.specs.Reading.{read_term, read_formula}
use Rattle.laws.specs.reading.Decoding.{TermIn, term-sound, FormulaIn, formula-sound}
use Rattle.laws.specs.size.TextSize.{TextsFit, formula-text-size, term-text-size}

module _ (L : Limits) (w : TextsFit L) (s : Bytes) where
  pub formula-text-fits : (f : Formula) → FormulaIn L s f → length (text_of_formula f) ≤ formula_text_room L
  formula-text-fits f a = omega (arith, formula-text-size f, a.short, ap length a.bytes, a.few, w.formula)

  pub term-text-fits : (t : Term) → TermIn L s t → length (text t) ≤ text_room L
  term-text-fits t a = omega (arith, term-text-size t, a.short, ap length a.bytes, a.few, w.term)

  -- of what is read
  pub read-formula-text-fits : (i : ℕ) (f : Formula) → read_formula L i s ≡ Ok f → length (text_of_formula f) ≤ formula_text_room L
  read-formula-text-fits i f e = formula-text-fits f (formula-sound L i s f e)

  pub read-term-text-fits : (i : ℕ) (t : Term) → read_term L i s ≡ Ok t → length (text t) ≤ text_room L
  read-term-text-fits i t e = term-text-fits t (term-sound L i s t e)
