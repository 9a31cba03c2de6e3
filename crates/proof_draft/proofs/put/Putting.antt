-- A row put into the draft by a rule: what it makes is what extraction makes of the same parts. By the kind of the row. Assumes nothing.
use Prim.Native.Nat.{ℕ, suc, ◌+◌, ◌<◌, ◌≤◌}
use mathlib.Core.Path.{◌≡◌, refl, sym, ap, ◌∙◌}
use mathlib.Core.List.{List}
use mathlib.Core.Option.{none}
use native.Mathlib.Omega.{arith}
use lib.ListN.{get_or}
use borrow.Author.Tests.{ne_eqb}
use Rattle.std.specs.Prelude.{if◌then◌else◌, ◌==◌}
use Rattle.rules.specs.Basic.{Bytes}
use Rattle.rules.specs.Formula.{Formula, atom, constant, exponential, connective, plain, negated, One, Bottom, Top, Zero, OfCourse, WhyNot, Tensor, Par, With, Plus, Lolli}
use Rattle.rules.specs.Term.{Term, leaf, unit}
use Rattle.rules.specs.Extraction.{terms, identity, joined}
use Rattle.draft.specs.declared.row.Row.{Row}
use Rattle.draft.specs.declared.row.RowKind.TheVariants.{Identity, App, LetPair, Case}
use Rattle.draft.specs.Draft.{Drafts}
use Rattle.draft.specs.Made.{made, most_number, Added}
use Rattle.proof.specs.Place.{FormulaAt}
use Rattle.proof.specs.Shape.{formula_tag}
use Rattle.proof_draft.specs.Puts.{Open, Put}
use Rattle.proof_draft.specs.declared.put.Drafted.{Drafted}
use Rattle.proof.proofs.rule.Formulas.{formula-tag}

module _ {s : Bytes} {ws ws' : List Row} {used n end : ℕ} where
  pub put_is : {e e' : Term × ℕ} {r : Drafted} → e ≡ e' → Put s ws ws' used n end e r → Put s ws ws' used n end e' r
  put_is q w = rw q at w

  pub put-new : {row : Row} {a b : Term} {m : ℕ} → Open ws used → row.number < most_number → Added ws used row ws' → m ≤ n + 2
      → Drafts s ws used row.first a → Drafts s ws used row.second b
      → Put s ws ws' used n end (made s row.kind a b row.number row.stem, m) (record { next = end; used = used + 1; counter = m; part = used + 2 })
  put-new {row} {a} {b} o h w l x y =
      record {
        next = refl;
        counter = refl;
        part = w.new s a b x y;
        small = w.small o.small h;
        few = omega arith;
        low = l;
        still = λ i t d. w.still s i t d;
      }

-- ---- an Abs of a new name

pub new-name : (s : Bytes) (n : ℕ) → (made s Identity (leaf unit) (leaf unit) n 0, n + 1) ≡ identity terms none n
new-name s n =
    let i : n + 1 ≡ suc n = omega arith in
    ap (λ (m : ℕ). (made s Identity (leaf unit) (leaf unit) n 0, m)) i

-- ---- a Cut

module _ (s : Bytes) (a b : Term) (n : ℕ) where
  -- by the formula's tag
  abbrev pub joined_runs : ℕ → Term × ℕ
  joined_runs t = if t == 3 then (made s LetPair a b n 0, n + 2) else (if t == 8 then (made s Case a b n 0, n + 2) else (made s App b a 0 0, n))

  two-more : (n : ℕ) → n + 2 ≡ suc (suc n)
  two-more n = omega arith

  joined_by : (f : Formula) → joined_runs (formula_tag f) ≡ joined terms f a b n
  joined_by (atom plain x) = refl
  joined_by (atom negated x) = refl
  joined_by (constant One) = refl
  joined_by (constant Bottom) = refl
  joined_by (constant Top) = refl
  joined_by (constant Zero) = refl
  joined_by (exponential OfCourse f) = refl
  joined_by (exponential WhyNot f) = refl
  joined_by (connective Tensor g h) = ap (λ (m : ℕ). (made s LetPair a b n 0, m)) (two-more n)
  joined_by (connective Par g h) = refl
  joined_by (connective With g h) = refl
  joined_by (connective Plus g h) = ap (λ (m : ℕ). (made s Case a b n 0, m)) (two-more n)
  joined_by (connective Lolli g h) = refl

  module _ (own : ℕ) (f : Formula) (v : FormulaAt s own f) where
    pub joined_at : (t : ℕ) → get_or s own 0 ≡ t → joined_runs t ≡ joined terms f a b n
    joined_at t e = ap (λ (i : ℕ). joined_runs i) (sym e ∙ formula-tag s own f v) ∙ joined_by f

    pub joined-other : (get_or s own 0 ≡ 3 → ⊥) → (get_or s own 0 ≡ 8 → ⊥) → (made s App b a 0 0, n) ≡ joined terms f a b n
    joined-other p q =
        let t = get_or s own 0 in
        let e : (made s App b a 0 0, n) ≡ joined_runs t = rw (ne_eqb t 3 p, ne_eqb t 8 q) refl in
        e ∙ joined_at t refl
