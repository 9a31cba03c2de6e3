-- The words and the shapes of a formula's tags, tag by tag; and what a formula is whose tag has a shape.
-- Assumes nothing.
use Prim.Native.Nat.{ℕ, ◌<◌}
use mathlib.Core.Path.{◌≡◌, refl, sym, ap, ◌∙◌}
use mathlib.Core.List.{List, [], ◌∷◌}
use native.Mathlib.Omega.{arith}
use lib.ListN.{length, get_or}
use Rattle.rules.specs.Basic.{say}
use Rattle.rules.specs.Formula.{Formula, atom, constant, exponential, connective, Sign, plain, negated, Constant, One, Bottom, Top, Zero, Exponential, OfCourse, WhyNot, Connective, Tensor, Par, With, Plus, Lolli, tag_of_sign, constant_tag, exponential_tag, connective_tag, encode_formula}
use Rattle.rules.specs.Text.{sign_text, constant_text, exponential_text, connective_text}
use Rattle.formula_text.specs.Task.{FormulaTask, Leaf}
use Rattle.formula_text.specs.declared.shape.Shape.{Shape}
use Rattle.formula_text.specs.declared.shape.Shape.TheVariants as Shapes
use Rattle.formula_text.specs.Words.{sign_of, shape_of, names_of, opening_of}
use Rattle.words.specs.Steps.{first_byte, ends-in}

pub sign_word : (k : Sign) → sign_of (tag_of_sign k) ≡ say (sign_text k)
sign_word plain = refl
sign_word negated = refl

pub constant-word : (k : Constant) → sign_of (constant_tag k) ≡ say (constant_text k)
constant-word One = refl
constant-word Bottom = refl
constant-word Top = refl
constant-word Zero = refl

pub connective-word : (k : Connective) → sign_of (connective_tag k) ≡ say (connective_text k)
connective-word Tensor = refl
connective-word Par = refl
connective-word With = refl
connective-word Plus = refl
connective-word Lolli = refl

-- what stands before the parts
pub exponential-opens : (k : Exponential) → opening_of (exponential_tag k) ∷ [] ≡ say (exponential_text k)
exponential-opens OfCourse = refl
exponential-opens WhyNot = refl

pub connective-opens : (k : Connective) → opening_of (connective_tag k) ≡ 40
connective-opens Tensor = refl
connective-opens Par = refl
connective-opens With = refl
connective-opens Plus = refl
connective-opens Lolli = refl

abbrev pub tag : Formula → ℕ
tag (atom k x) = tag_of_sign k
tag (constant k) = constant_tag k
tag (exponential k a) = exponential_tag k
tag (connective k a b) = connective_tag k

abbrev shape : Formula → Shape
shape (atom k x) = Shapes.Leaf
shape (constant k) = Shapes.Leaf
shape (exponential k a) = Shapes.Exponential
shape (connective k a b) = Shapes.Connective

tag-shape : (f : Formula) → shape_of (tag f) ≡ shape f
tag-shape (atom plain x) = refl
tag-shape (atom negated x) = refl
tag-shape (constant One) = refl
tag-shape (constant Bottom) = refl
tag-shape (constant Top) = refl
tag-shape (constant Zero) = refl
tag-shape (exponential OfCourse a) = refl
tag-shape (exponential WhyNot a) = refl
tag-shape (connective Tensor a b) = refl
tag-shape (connective Par a b) = refl
tag-shape (connective With a b) = refl
tag-shape (connective Plus a b) = refl
tag-shape (connective Lolli a b) = refl

abbrev names : Formula → ℕ
names (atom k x) = 1
names (constant k) = 0
names (exponential k a) = 0
names (connective k a b) = 0

tag-names : (f : Formula) → names_of (tag f) ≡ names f
tag-names (atom plain x) = refl
tag-names (atom negated x) = refl
tag-names (constant One) = refl
tag-names (constant Bottom) = refl
tag-names (constant Top) = refl
tag-names (constant Zero) = refl
tag-names (exponential OfCourse a) = refl
tag-names (exponential WhyNot a) = refl
tag-names (connective Tensor a b) = refl
tag-names (connective Par a b) = refl
tag-names (connective With a b) = refl
tag-names (connective Plus a b) = refl
tag-names (connective Lolli a b) = refl

-- a number for each shape, which tells them apart
abbrev pub rank : Shape → ℕ
rank Shapes.Leaf = 0
rank Shapes.Exponential = 1
rank Shapes.Connective = 2

module _ {s : List ℕ} {at : ℕ} {out : List ℕ} {to : ℕ} where
  pub tag_at : (f : Formula) → FormulaTask s at out to f → get_or s at 0 ≡ tag f
  unfolding encode_formula
  tag_at (atom k x) t = first_byte t.task
  tag_at (constant k) t = first_byte t.task
  tag_at (exponential k a) t = first_byte t.task
  tag_at (connective k a b) t = first_byte t.task

  pub shape_at : (f : Formula) → FormulaTask s at out to f → shape_of (get_or s at 0) ≡ shape f
  shape_at f t = ap (λ (k : ℕ). shape_of k) (tag_at f t) ∙ tag-shape f

  pub begun : (f : Formula) → FormulaTask s at out to f → at < length s
  unfolding encode_formula
  begun (atom k x) t = omega (arith, ends-in t.task)
  begun (constant k) t = omega (arith, ends-in t.task)
  begun (exponential k a) t = omega (arith, ends-in t.task)
  begun (connective k a b) t = omega (arith, ends-in t.task)

  pub names_at : (f : Formula) → FormulaTask s at out to f → names_of (get_or s at 0) ≡ names f
  names_at f t = ap (λ (k : ℕ). names_of k) (tag_at f t) ∙ tag-names f

  -- the shape of the tag is the formula's
  pub ranked : {k : Shape} → shape_of (get_or s at 0) ≡ k → (f : Formula) → FormulaTask s at out to f → rank (shape f) ≡ rank k
  ranked e f t = ap rank (sym (shape_at f t) ∙ e)

  pub leaf-shape : shape_of (get_or s at 0) ≡ Shapes.Leaf → (f : Formula) → FormulaTask s at out to f → Leaf f
  leaf-shape e (atom k x) t = tt
  leaf-shape e (constant k) t = tt
  leaf-shape e (exponential k a) t = absurd (omega (arith, ranked e (exponential k a) t))
  leaf-shape e (connective k a b) t = absurd (omega (arith, ranked e (connective k a b) t))
