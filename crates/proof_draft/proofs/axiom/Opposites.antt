-- The oldest entry that is an atom's opposite: two atoms are opposed when their tags add up to 3 and their names are the same, and the search from
-- the oldest entry has the rest of the entries before it. Assumes nothing.
use Prim.Native.Nat.{ℕ, suc, ◌+◌, ◌-◌, ◌<◌, ◌≤◌}
use mathlib.Core.Path.{◌≡◌, refl, sym, ap, ◌∙◌}
use mathlib.Core.Bool.{Bool, true, false, ◌&&◌}
use mathlib.Core.List.{List, [], ◌∷◌}
use mathlib.Core.Option.{Option, none, some}
use native.Mathlib.Omega.{arith}
use native.Mathlib.Numerals.{add-one}
use lib.ListN.{length, get_or, drop, take, drop_of_length-le}
use lib.Seq.{drop-cons}
use Rattle.std.specs.Prelude.{if◌then◌else◌}
use Rattle.rules.specs.Basic.{Bytes}
use Rattle.rules.specs.Name.{Name, same}
use Rattle.rules.specs.Formula.{Formula, atom, constant, exponential, connective, Sign, plain, negated, tag_of_sign, One}
use Rattle.rules.specs.Extraction.{Entries, fresh, stem_for, opposes, cuts_atom, oldest}
use Rattle.draft.specs.Draft.{name_of}
use Rattle.draft.specs.Made.{most_number}
use Rattle.term.specs.Place.{NameAt}
use Rattle.term.proofs.node.Names.{name-part, name-room, SameIs}
use Rattle.proof.specs.Place.{FormulaAt}
use Rattle.proof.specs.Shape.{formula_tag}
use Rattle.proof_draft.specs.Entry.{EntriesAt, entry_at, in_row}
use Rattle.proof_draft.specs.declared.entry.CutEntry.{CutEntry}
use Rattle.proof.proofs.rule.Formulas.{formula-tag, formula-inside, is-atom, atom-name}
use Rattle.proof_draft.proofs.axiom.Stems.{cut-name}

-- ---- two atoms

opposed-tags : (k k' : Sign) → tag_of_sign k + tag_of_sign k' ≡ 3 → opposes k k' ≡ true
opposed-tags plain plain e = absurd (omega (arith, e))
opposed-tags plain negated e = refl
opposed-tags negated plain e = refl
opposed-tags negated negated e = absurd (omega (arith, e))

other-tags : (k k' : Sign) → (tag_of_sign k + tag_of_sign k' ≡ 3 → ⊥) → opposes k k' ≡ false
other-tags plain plain e = refl
other-tags plain negated e = absurd (e refl)
other-tags negated plain e = absurd (e refl)
other-tags negated negated e = refl

not-cut : (k : Sign) (a : Name) (f : Formula) → (tag_of_sign k + formula_tag f ≡ 3 → ⊥) → false ≡ cuts_atom k a f
not-cut k a (atom k' b) e = sym (ap (λ (t : Bool). t && same a b) (other-tags k k' e))
not-cut k a (constant c) e = refl
not-cut k a (exponential c f) e = refl
not-cut k a (connective c f g) e = refl

low-sign : (k : Sign) → 0 < tag_of_sign k
low-sign plain = omega arith
low-sign negated = omega arith

-- an atom and a formula
abbrev pub Two : Bytes → (atom place : ℕ) → Type 0
Two s i j = (k : Sign) × (a : Name) × (f : Formula) × FormulaAt s i (atom k a) × FormulaAt s j f

abbrev pub Cuts : Bytes → (atom place : ℕ) → Bool → Type 0
Cuts s i j r = (k : Sign) (a : Name) (f : Formula) → FormulaAt s i (atom k a) → FormulaAt s j f → r ≡ cuts_atom k a f

module _ (s : Bytes) (i j : ℕ) where
  pub atom-room : Two s i j → i + 1 + 1 + get_or s (i + 1) 0 ≤ length s
  atom-room (k, a, f, v, w) = name-room s (i + 1) (a, atom-name s i k a v)

  pub cuts-not : (get_or s i 0 + get_or s j 0 ≡ 3 → ⊥) → Cuts s i j false
  cuts-not e k a f v w = not-cut k a f (λ q. e (ap (λ (t : ℕ). t + get_or s j 0) (formula-tag s i (atom k a) v) ∙ ap (λ (t : ℕ). tag_of_sign k + t) (formula-tag s j f w) ∙ q))

  module _ (e : get_or s i 0 + get_or s j 0 ≡ 3) where
    other-atom : (k : Sign) (a : Name) (f : Formula) → FormulaAt s i (atom k a) → FormulaAt s j f → (k' : Sign) × (b : Name) × (f ≡ atom k' b)
    other-atom k a f v w = is-atom f (omega (arith, formula-tag s i (atom k a) v, formula-tag s j f w, low-sign k))

    pub other_name : Two s i j → (b : Name) × NameAt s (j + 1) b
    other_name (k, a, f, v, w) = let (k', b, q) = other-atom k a f v w in (b, atom-name s j k' b (rw q at w))

    pub cuts-same : (r : Bool) (part : Bytes) → part ≡ take (i + 1 + 1 + get_or s (i + 1) 0 - (i + 1 + 1)) (drop (i + 1 + 1) s) → SameIs s (j + 1) part r → Cuts s i j r
    cuts-same r part is says k a f v w =
        let (k', b, q) = other-atom k a f v w in
        let w' : FormulaAt s j (atom k' b) = rw q at w in
        let pa : part ≡ a = is ∙ name-part s (i + 1) a (atom-name s i k a v) in
        let o : opposes k k' ≡ true = opposed-tags k k' (omega (arith, formula-tag s i (atom k a) v, formula-tag s j (atom k' b) w')) in
        says b (atom-name s j k' b w') ∙ ap (λ (z : Name). same z b) pa ∙ sym (ap (λ (t : Bool). t && same a b) o) ∙ ap (λ (z : Formula). cuts_atom k a z) (sym q)

-- ---- the oldest entry

-- for the atom at i, of the entries only those from j on are left
abbrev pub Left : Bytes → (i : ℕ) → List CutEntry → (k j : ℕ) → Type 0
Left s i row k j = (g : Sign) (a : Name) (es : Entries) → FormulaAt s i (atom g a) → EntriesAt s row k es → oldest g a es ≡ oldest g a (drop j es)

-- only an atom is an atom's opposite
cut-atom : (k : Sign) (a : Name) (f : Formula) → cuts_atom k a f ≡ true → (k' : Sign) × (b : Name) × (f ≡ atom k' b)
cut-atom k a (atom k' b) e = (k', b, refl)
cut-atom k a (constant c) e = absurd (let z : ◌≡◌ {A = ℕ} 0 1 = cc in omega arith)
cut-atom k a (exponential c f) e = absurd (let z : ◌≡◌ {A = ℕ} 0 1 = cc in omega arith)
cut-atom k a (connective c f g) e = absurd (let z : ◌≡◌ {A = ℕ} 0 1 = cc in omega arith)

module _ (s : Bytes) (i : ℕ) (row : List CutEntry) (k : ℕ) where
  -- the atom, and the entries
  abbrev pub Sought : Type 0
  Sought = (g : Sign) × (a : Name) × (es : Entries) × FormulaAt s i (atom g a) × EntriesAt s row k es

  abbrev pub Finds : Option Name → Type 0
  Finds o = (g : Sign) (a : Name) (es : Entries) → FormulaAt s i (atom g a) → EntriesAt s row k es → o ≡ oldest g a es

  pub left-all : Left s i row k 0
  left-all g a es v w = refl

  pub finds-none : (j : ℕ) → k ≤ j → Left s i row k j → Finds none
  unfolding oldest
  finds-none j h f g a es v w = sym (f g a es v w ∙ ap (λ (z : Entries). oldest g a z) (drop_of_length-le es {i = j} (omega (arith, w.many))))

  module _ (j : ℕ) (l : j < k) where
    pub entry-two : Sought → Two s i (in_row row j).place
    entry-two (g, a, es, v, w) = (g, a, (entry_at es j).0, v, (w.each j l).formula)

    pub entry-room : Sought → ((in_row row j).place < length s) × ((in_row row j).counter + 1 < most_number)
    entry-room (g, a, es, v, w) = let e = w.each j l in (formula-inside s (in_row row j).place (entry_at es j).0 e.formula, e.low)

    module _ (f : Left s i row k j) (r : Bool) (c : Cuts s i (in_row row j).place r) where
      step : (g : Sign) (a : Name) (es : Entries) → FormulaAt s i (atom g a) → EntriesAt s row k es
          → oldest g a es ≡ (if r then some (entry_at es j).1 else oldest g a (drop (suc j) es))
      unfolding oldest
      step g a es v w =
          let d : drop j es ≡ entry_at es j ∷ drop (suc j) es = drop-cons es j (constant One, []) (omega (arith, w.many)) in
          let e : r ≡ cuts_atom g a (entry_at es j).0 = c g a (entry_at es j).0 v (w.each j l).formula in
          f g a es v w ∙ ap (λ (z : Entries). oldest g a z) d ∙ ap (λ (t : Bool). if t then some (entry_at es j).1 else oldest g a (drop (suc j) es)) (sym e)

      pub left-next : r ≡ false → Left s i row k (j + 1)
      left-next z g a es v w =
          step g a es v w ∙ ap (λ (t : Bool). if t then some (entry_at es j).1 else oldest g a (drop (suc j) es)) z ∙ ap (λ (m : ℕ). oldest g a (drop m es)) (sym (add-one j))

      pub finds-here : r ≡ true → Finds (some (name_of s ((in_row row j).place + 1) ((in_row row j).counter + 1)))
      finds-here z g a es v w =
          let e : true ≡ cuts_atom g a (entry_at es j).0 = sym z ∙ c g a (entry_at es j).0 v (w.each j l).formula in
          let (k', b, q) = cut-atom g a (entry_at es j).0 (sym e) in
          let n = w.each j l in
          let at : FormulaAt s (in_row row j).place (atom k' b) = rw q at n.formula in
          let name : (entry_at es j).1 ≡ (fresh (stem_for (atom k' b)) (in_row row j).counter).0 = n.name ∙ ap (λ (h : Formula). (fresh (stem_for h) (in_row row j).counter).0) q in
          ap some (cut-name s (in_row row j).place k' b (in_row row j).counter at ∙ sym name)
          ∙ sym (step g a es v w ∙ ap (λ (t : Bool). if t then some (entry_at es j).1 else oldest g a (drop (suc j) es)) z)
