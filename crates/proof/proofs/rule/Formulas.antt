-- Formulas that stand in a list of bytes: their tags, their names, and what a look at one tells. Assumes nothing.
use Prim.Native.Nat.{ℕ, ◌+◌, ◌<◌, ◌≤◌}
use mathlib.Core.Path.{◌≡◌, refl, ap, ◌∙◌}
use mathlib.Core.List.{[], ◌∷◌, ◌++◌, append-nil}
use native.Mathlib.Omega.{arith}
use lib.ListN.{length, get_or}
use Rattle.rules.specs.Basic.{Bytes}
use Rattle.rules.specs.Name.{Name, encode_name}
use Rattle.rules.specs.Formula.{Formula, atom, constant, exponential, connective, Sign, plain, negated, Constant, One, Bottom, Top, Zero, Exponential, OfCourse, WhyNot, Connective, Tensor, Par, With, Plus, Lolli, tag_of_sign, constant_tag, exponential_tag, connective_tag, encode_formula}
use Rattle.laws.specs.reading.Lists.{joined}
use Rattle.term.specs.Place.{NameAt}
use Rattle.term.specs.declared.node.Row.{Row}
use Rattle.term.proofs.node.Names.{drop_app, head_byte, name-room}
use Rattle.proof.specs.Place.{FormulaAt}
use Rattle.proof.specs.Shape.{formula_tag, formula_head, formula_parts, parts_after, Spread}
use Rattle.proof.proofs.rule.Items.{Spelt, at-bytes, at-inside}

formula-apart : (f : Formula) → encode_formula f ≡ formula_head f ++ joined encode_formula (formula_parts f)
unfolding encode_formula
formula-apart (atom k x) = simp append-nil
formula-apart (constant k) = refl
formula-apart (exponential k a) = simp append-nil
formula-apart (connective k a b) = simp append-nil

formula-big : (f : Formula) → 0 < length (formula_head f)
formula-big (atom k x) = omega arith
formula-big (constant k) = omega arith
formula-big (exponential k a) = omega arith
formula-big (connective k a b) = omega arith

pub formulas-spelt : Spelt encode_formula formula_head formula_parts
formulas-spelt = record { apart = formula-apart; big = formula-big }

-- ---- tags

constant-tag : (k : Constant) → (2 < constant_tag k) × (constant_tag k < 32) × (parts_after (constant_tag k) ≡ 0)
constant-tag One = (omega arith, omega arith, refl)
constant-tag Bottom = (omega arith, omega arith, refl)
constant-tag Top = (omega arith, omega arith, refl)
constant-tag Zero = (omega arith, omega arith, refl)

exponential-tag : (k : Exponential) → (2 < exponential_tag k) × (exponential_tag k < 32) × (parts_after (exponential_tag k) ≡ 1)
exponential-tag OfCourse = (omega arith, omega arith, refl)
exponential-tag WhyNot = (omega arith, omega arith, refl)

connective-tag : (k : Connective) → (2 < connective_tag k) × (connective_tag k < 32) × (parts_after (connective_tag k) ≡ 2)
connective-tag Tensor = (omega arith, omega arith, refl)
connective-tag Par = (omega arith, omega arith, refl)
connective-tag With = (omega arith, omega arith, refl)
connective-tag Plus = (omega arith, omega arith, refl)
connective-tag Lolli = (omega arith, omega arith, refl)

sign_tag : (k : Sign) → (0 < tag_of_sign k) × (tag_of_sign k < 3)
sign_tag plain = (omega arith, omega arith)
sign_tag negated = (omega arith, omega arith)

tag_small : (f : Formula) → formula_tag f < 32
tag_small (atom k x) = omega (arith, sign_tag k)
tag_small (constant k) = (constant-tag k).1
tag_small (exponential k a) = (exponential-tag k).1
tag_small (connective k a b) = (connective-tag k).1

-- a tag below 3 is an atom's
pub is-atom : (f : Formula) → formula_tag f < 3 → (k : Sign) × (x : Name) × (f ≡ atom k x)
is-atom (atom k x) h = (k, x, refl)
is-atom (constant k) h = absurd (omega (arith, (constant-tag k).0))
is-atom (exponential k a) h = absurd (omega (arith, (exponential-tag k).0))
is-atom (connective k a b) h = absurd (omega (arith, (connective-tag k).0))

-- another has no name
no_name : (f : Formula) → 3 ≤ formula_tag f → (length (formula_head f) ≡ 1) × (parts_after (formula_tag f) ≡ length (formula_parts f))
no_name (atom k x) h = absurd (omega (arith, sign_tag k))
no_name (constant k) h = (refl, (constant-tag k).2)
no_name (exponential k a) h = (refl, (exponential-tag k).2)
no_name (connective k a b) h = (refl, (connective-tag k).2)

-- ---- at a place

head_first : (f : Formula) (r : Bytes) → (q : Bytes) × (formula_head f ++ r ≡ formula_tag f ∷ q)
head_first (atom k x) r = (encode_name x ++ r, refl)
head_first (constant k) r = (r, refl)
head_first (exponential k a) r = (r, refl)
head_first (connective k a b) r = (r, refl)

module _ (s : Bytes) (i : ℕ) where
  module _ (f : Formula) (w : FormulaAt s i f) where
    pub formula-tag : get_or s i 0 ≡ formula_tag f
    formula-tag =
        let e = head_first f (joined encode_formula (formula_parts f) ++ w.rest) in
        head_byte s e.0 i (formula_tag f) (at-bytes formulas-spelt s i f w ∙ e.1)

    pub formula-inside : i < length s
    formula-inside = at-inside formulas-spelt s i f w

    pub formula-small : get_or s i 0 < 32
    formula-small = omega (arith, formula-tag, tag_small f)

  pub atom-name : (k : Sign) (x : Name) → FormulaAt s i (atom k x) → NameAt s (i + 1) x
  unfolding encode_formula
  atom-name k x w = record { rest = w.rest; bytes = drop_app (tag_of_sign k ∷ []) _ s i (i + 1) w.bytes refl }

  -- an atom, where the tag says so
  pub atom-here : ((f : Formula) × FormulaAt s i f) → get_or s i 0 < 3 → (k : Sign) × (x : Name) × FormulaAt s i (atom k x)
  atom-here (f, w) h = let (k, x, e) = is-atom f (omega (arith, formula-tag f w)) in (k, x, rw e at w)

  pub name-here : ((f : Formula) × FormulaAt s i f) → get_or s i 0 < 3 → (x : Name) × NameAt s (i + 1) x
  name-here w h = let (k, x, a) = atom-here w h in (x, atom-name k x a)

  pub name-end : ((f : Formula) × FormulaAt s i f) → get_or s i 0 < 3 → i + 1 + 1 + get_or s (i + 1) 0 ≤ length s
  name-end w h = name-room s (i + 1) (name-here w h)

  name-long : (x : Name) → NameAt s (i + 1) x → get_or s (i + 1) 0 ≡ length x
  name-long x w = head_byte s _ (i + 1) (length x) w.bytes

  pub spread-atom : get_or s i 0 < 3 → (f : Formula) → FormulaAt s i f → Spread i f (record { start = i + 1 + 1 + get_or s (i + 1) 0; parts = 0 })
  spread-atom h f w =
      let (k, x, e) = is-atom f (omega (arith, formula-tag f w)) in
      rw e (record { start = omega (arith, name-long x (atom-name k x (rw e at w))); parts = refl })

  pub spread-other : 3 ≤ get_or s i 0 → (p : ℕ) → p ≡ parts_after (get_or s i 0) → (f : Formula) → FormulaAt s i f → Spread i f (record { start = i + 1; parts = p })
  spread-other h p e f w =
      let t = formula-tag f w in
      let a = no_name f (omega (arith, t)) in
      record { start = omega (arith, a.0); parts = e ∙ ap (λ (k : ℕ). parts_after k) t ∙ a.1 }

  -- what a look at a formula ensures, as a turn of a loop takes it
  pub spreads : {r : Row} → ((f : Formula) → FormulaAt s i f → Spread i f r) → (f : Formula) → FormulaAt s i f → (r.start ≡ i + length (formula_head f)) × (r.parts ≡ length (formula_parts f))
  spreads g f w = let a = g f w in (a.start, a.parts)
