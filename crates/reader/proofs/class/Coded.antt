-- What a tag's code says of its head.
-- Assumes nothing.
use Prim.Native.Nat.{ℕ, ◌/◌, ◌%◌, ◌≤◌}
use native.Mathlib.Omega.{arith}
use mathlib.Core.Path.{◌≡◌, refl}
use mathlib.Core.Option.{Option, none, some}
use Rattle.rules.specs.Term.{Head, a_var, a_leaf, a_one, a_two, an_abs, a_both, a_branch}
use Rattle.rules.specs.Formula.{FormulaHead, an_atom, a_constant, an_exponential, a_connective}
use Rattle.reader.specs.Form.{Form, Term, Formula, HeadOf, layout_of}
use Rattle.reader.specs.Classes.{code_at}

-- no head has more than 2 names or 3 parts
few-term : (h : Head) → ((layout_of Term).names h ≤ 2) × ((layout_of Term).parts h ≤ 3)
few-term a_var = omega arith
few-term (a_leaf k) = omega arith
few-term (a_one k) = omega arith
few-term (a_two k) = omega arith
few-term an_abs = omega arith
few-term (a_both k) = omega arith
few-term a_branch = omega arith

few-formula : (h : FormulaHead) → ((layout_of Formula).names h ≤ 2) × ((layout_of Formula).parts h ≤ 3)
few-formula (an_atom k) = omega arith
few-formula (a_constant k) = omega arith
few-formula (an_exponential k) = omega arith
few-formula (a_connective k) = omega arith

-- and none of a formula more than one name
pub one_name : (h : FormulaHead) → (layout_of Formula).names h ≤ 1
one_name (an_atom k) = omega arith
one_name (a_constant k) = omega arith
one_name (an_exponential k) = omega arith
one_name (a_connective k) = omega arith

pub few : (f : Form) (h : HeadOf f) → ((layout_of f).names h ≤ 2) × ((layout_of f).parts h ≤ 3)
few Term = few-term
few Formula = few-formula

pub code-small : (f : Form) (o : Option (HeadOf f)) → code_at (layout_of f) o ≤ 29
code-small f none = omega arith
code-small f (some h) = omega (arith, (few f h).0, (few f h).1)

pub code-none : (f : Form) (o : Option (HeadOf f)) → code_at (layout_of f) o ≡ 0 → o ≡ none
code-none f none e = refl
code-none f (some h) e = absurd (omega arith)

pub record Coded (f : Form) (o : Option (HeadOf f)) (c : ℕ) : Type 0 where
  pub head : HeadOf f
  pub is : o ≡ some head
  pub names : c / 2 % 4 ≡ (layout_of f).names head
  pub parts : c / 8 ≡ (layout_of f).parts head
  pub few : c / 8 ≤ 3

pub coded : (f : Form) (o : Option (HeadOf f)) (c : ℕ) → c ≡ code_at (layout_of f) o → (c ≡ 0 → ⊥) → Coded f o c
coded f none c e ne = absurd (ne e)
coded f (some h) c e ne = record {
  head = h;
  is = refl;
  names = omega (arith, (few f h).0, (few f h).1);
  parts = omega (arith, (few f h).0, (few f h).1);
  few = omega (arith, (few f h).0, (few f h).1);
}
