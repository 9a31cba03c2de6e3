-- What is accepted, of terms, formulas and bare names: the encodings of legal ones within the limits, each as what it encodes, and nothing else.
-- Assumes nothing.
use Rattle.std.specs.Prelude.{ℕ, ◌+◌, ◌≤◌, Bool, ◌&&◌, if◌then◌else◌, Ok}
use Rattle.std.proofs.Math.Path.{◌≡◌, refl, sym}
use Rattle.std.proofs.Common.{ap, ◌∙◌, arith}
use Rattle.std.proofs.Math.Bool.{true, false}
use mathlib.Core.List.{[], ◌∷◌, ◌++◌, append-nil}
use Rattle.std.proofs.Math.ListN.{length}
use borrow.Author.Tests.{ltb-false, leb-true, le-ltb, le-leb}
use Rattle.rules.specs.Basic.{Bytes, ◌‥◌, ◌<?◌, ◌≤?◌}
use Rattle.rules.specs.Limits.{Limits}
use Rattle.rules.specs.Refusal.{refuse}
use Rattle.rules.specs.declared.Reason.TheVariants.{InputTooLong, BadName}
use Rattle.rules.specs.Name.{Name, name_most, name_spelling}
use Rattle.rules.specs.Layout.{Layout}
use Rattle.rules.specs.Legal.{LegalName, Legal, LegalFormula}
use Rattle.rules.specs.Term.{Term, terms, encode, nodes}
use Rattle.rules.specs.Formula.{Formula, formulas, encode_formula, formula_nodes}
use Rattle.rules.specs.Reading.{Got, got, bad, node, spelled, ended, whole, read_term, read_formula, read_name}
use Rattle.laws.specs.reading.Holds.{Holds}
use Rattle.laws.specs.reading.Steady.{node-below}
use Rattle.laws.specs.reading.Written.{Written}
use Rattle.laws.specs.reading.WrittenTerm.{written-terms}
use Rattle.laws.specs.reading.WrittenFormula.{written-formulas}
use Rattle.laws.specs.reading.Names.{Item, still, Spelled, spelled-sound, spelled-found, name-some}
use Rattle.laws.specs.reading.Sound.{node-sound}
use Rattle.laws.specs.reading.Complete.{node-found}

-- The whole input s encodes x, which is legal and within the limits.
pub record Accepted {A : Type 0} (encode : A → Bytes) (nodes : A → ℕ) (Fine : A → Type 0) (most_bytes most_nodes : ℕ) (s : Bytes) (x : A) : Type 0 where
  pub bytes : s ≡ encode x
  pub short : length s ≤ most_bytes
  pub few : nodes x ≤ most_nodes
  pub legal : Fine x

-- where nothing is left over
pub ended-good : {S A : Type 0} (i : ℕ) (g : Got S A) (P : A → S → ℕ → Bytes → Type 0) (x : A) → Holds P g → ended i g ≡ Ok x → (u : S) × (p : ℕ) × P x u p [] × (g ≡ got x u p [])
ended-good i (got y u p []) P x h e = let z : y ≡ x = cc in (u, p, rw (← z) h, rw (← z))
ended-good i (got y u p (b ∷ r)) P x h e = absurd (let z : ◌≡◌ {A = ℕ} 0 1 = cc in omega arith)
ended-good i (bad n p) P x h e = absurd (let z : ◌≡◌ {A = ℕ} 0 1 = cc in omega arith)

module _ {H A : Type 0} (F : Layout H A) (encode : A → Bytes) (nodes : A → ℕ) (Fine : A → Type 0) (W : Written F encode nodes Fine) (L : Limits) (most i : ℕ) (s : Bytes) (x : A) where
  sound : whole L i s (node F most most) 0 ≡ Ok x → Accepted encode nodes Fine L.bytes most s x
  unfolding whole
  sound e = short (L.bytes <? length s) refl e
    where
      short : (b : Bool) → (L.bytes <? length s) ≡ b → (if b then refuse InputTooLong L.bytes i else ended i (node F most most 0 0 s)) ≡ Ok x → Accepted encode nodes Fine L.bytes most s x
      short true r q = absurd (let z : ◌≡◌ {A = ℕ} 0 1 = cc in omega arith)
      short false r q =
          let g = ended-good i (node F most most 0 0 s) _ x (node-sound F encode nodes Fine W most most 0 0 s) q in
          let t : Item encode (λ u y. u + nodes y) Fine 0 0 s x g.0 g.1 [] = g.2 in
          record {
            bytes = t.bytes ∙ append-nil (encode x);
            short = ltb-false _ _ r;
            few = omega (arith, t.met, node-below F most most 0 0 s g.3 (omega arith));
            legal = t.legal;
          }

  complete : Accepted encode nodes Fine L.bytes most s x → whole L i s (node F most most) 0 ≡ Ok x
  unfolding whole
  complete a =
      let e : encode x ++ [] ≡ s = append-nil (encode x) ∙ sym a.bytes in
      let g : node F most most 0 0 s ≡ got x (0 + nodes x) (0 + length (encode x)) [] =
      rw e at (node-found F encode nodes Fine W most x a.legal most a.few 0 0 [] (omega (arith, a.few))) in
      rw (le-ltb L.bytes (length s) a.short, g)

module _ {H A : Type 0} (F : Layout H A) (encode : A → Bytes) (nodes : A → ℕ) (Fine : A → Type 0) (W : Written F encode nodes Fine) where
  -- two that begin the same list are the same
  unique : (x y : A) → Fine x → Fine y → (r w : Bytes) → encode x ‥ r ≡ encode y ‥ w → (x ≡ y) × (r ≡ w)
  unique x y k l r w e =
      let most = nodes x + nodes y in
      let a : node F most most 0 0 (encode x ‥ r) ≡ got x (0 + nodes x) (0 + length (encode x)) r = node-found F encode nodes Fine W most x k most (omega arith) 0 0 r (omega arith) in
      let b : node F most most 0 0 (encode y ‥ w) ≡ got y (0 + nodes y) (0 + length (encode y)) w = node-found F encode nodes Fine W most y l most (omega arith) 0 0 w (omega arith) in
      let c : got x (0 + nodes x) (0 + length (encode x)) r ≡ got y (0 + nodes y) (0 + length (encode y)) w = sym a ∙ ap (node F most most 0 0) e ∙ b in
      (cc, cc)

-- Terms.
abbrev pub TermIn : Limits → Bytes → Term → Type 0
TermIn L s t = Accepted encode nodes Legal L.bytes L.nodes s t

pub term-sound : (L : Limits) (i : ℕ) (s : Bytes) (t : Term) → read_term L i s ≡ Ok t → TermIn L s t
unfolding read_term
term-sound L i s t e = sound terms encode nodes Legal written-terms L L.nodes i s t e

pub term-complete : (L : Limits) (i : ℕ) (s : Bytes) (t : Term) → TermIn L s t → read_term L i s ≡ Ok t
unfolding read_term
term-complete L i s t a = complete terms encode nodes Legal written-terms L L.nodes i s t a

pub term-unique : (t v : Term) → Legal t → Legal v → (r w : Bytes) → encode t ‥ r ≡ encode v ‥ w → (t ≡ v) × (r ≡ w)
term-unique = unique terms encode nodes Legal written-terms

-- Formulas.
abbrev pub FormulaIn : Limits → Bytes → Formula → Type 0
FormulaIn L s f = Accepted encode_formula formula_nodes LegalFormula L.bytes L.formulas s f

pub formula-sound : (L : Limits) (i : ℕ) (s : Bytes) (f : Formula) → read_formula L i s ≡ Ok f → FormulaIn L s f
unfolding read_formula
formula-sound L i s f e = sound formulas encode_formula formula_nodes LegalFormula written-formulas L L.formulas i s f e

pub formula-complete : (L : Limits) (i : ℕ) (s : Bytes) (f : Formula) → FormulaIn L s f → read_formula L i s ≡ Ok f
unfolding read_formula
formula-complete L i s f a = complete formulas encode_formula formula_nodes LegalFormula written-formulas L L.formulas i s f a

pub formula-unique : (f g : Formula) → LegalFormula f → LegalFormula g → (r w : Bytes) → encode_formula f ‥ r ≡ encode_formula g ‥ w → (f ≡ g) × (r ≡ w)
formula-unique = unique formulas encode_formula formula_nodes LegalFormula written-formulas

-- Bare names.
pub bare-name-sound : (i : ℕ) (s : Bytes) (x : Name) → read_name i s ≡ Ok x → (s ≡ x) × LegalName name_spelling x
unfolding read_name
bare-name-sound i s x e = go (1 ≤? length s) (length s ≤? name_most) refl refl e
  where
    go : (a b : Bool) → (1 ≤? length s) ≡ a → (length s ≤? name_most) ≡ b → (if a && b then ended i (spelled name_spelling (length s) (tt {0}) 0 s) else refuse BadName 0 i) ≡ Ok x
        → (s ≡ x) × LegalName name_spelling x
    go true true h k q =
        let g = ended-good i (spelled name_spelling (length s) (tt {0}) 0 s) _ x (spelled-sound name_spelling (length s) (leb-true _ _ h) (tt {0}) 0 s) q in
        let t : Item (λ y. y) still (Spelled name_spelling (length s)) (tt {0}) 0 s x g.0 g.1 [] = g.2 in (
          t.bytes ∙ append-nil x,
          record { lettered = t.legal.0.1; short = omega (arith, t.legal.0.0, leb-true (length s) name_most k); allowed = t.legal.1 },
        )
    go true false h k q = absurd (let z : ◌≡◌ {A = ℕ} 0 1 = cc in omega arith)
    go false b h k q = absurd (let z : ◌≡◌ {A = ℕ} 0 1 = cc in omega arith)

pub bare-name-complete : (i : ℕ) (x : Name) → LegalName name_spelling x → read_name i x ≡ Ok x
unfolding read_name
bare-name-complete i x l =
    let g : spelled name_spelling (length x) (tt {0}) 0 x ≡ got x tt (0 + length x) [] = rw (append-nil x) at (spelled-found name_spelling x l (tt {0}) 0 []) in
    rw (le-leb 1 (length x) (name-some x l.lettered), le-leb (length x) name_most l.short, g)
