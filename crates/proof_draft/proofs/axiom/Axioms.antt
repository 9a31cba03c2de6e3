-- The name that an Axiom takes: what each formula of `linear` gives by itself, and the first that gives one decides. Assumes nothing.
use Prim.Native.Nat.{ℕ, ◌+◌, ◌-◌, ◌<◌}
use mathlib.Core.Path.{◌≡◌, refl, sym, ap, ◌∙◌}
use mathlib.Core.List.{List, [], ◌∷◌}
use mathlib.Core.Option.{Option, none, some}
use native.Mathlib.Omega.{arith}
use lib.ListN.{length, get_or}
use Rattle.std.specs.Prelude.{Option as Found, Some as Given, None as Nothing, true, false, is_some}
use Rattle.rules.specs.Basic.{Bytes}
use Rattle.rules.specs.Name.{Name}
use Rattle.rules.specs.Formula.{Formula, atom, constant, exponential, connective, Sign, plain, negated, tag_of_sign, encode_formula}
use Rattle.rules.specs.Extraction.{Entries, oldest, or_itself, axiom_name}
use Rattle.draft.specs.Draft.{name_of}
use Rattle.proof.specs.Place.{FormulaAt}
use Rattle.proof.specs.Shape.{formula_tag}
use Rattle.proof_draft.specs.Entry.{EntriesAt}
use Rattle.proof_draft.specs.declared.axiom.Label.{Label}
use Rattle.proof_draft.specs.declared.entry.CutEntry.{CutEntry}
use Rattle.proof.proofs.rule.Items.{Some, SkipIs, skip-one, first, others, some_alone}
use Rattle.proof.proofs.rule.Formulas.{formula-tag, formula-inside, is-atom, atom-here}
use Rattle.proof_draft.proofs.axiom.Stems.{own_name}
use Rattle.proof_draft.specs.Searching.{name_said, Given as Of, Gives, Listed, Takes}
use Rattle.proof_draft.proofs.axiom.Opposites.{Sought, Finds}

-- ---- one formula

silent : (es : Entries) (f : Formula) → 2 < formula_tag f → none ≡ axiom_name es (f ∷ [])
unfolding axiom_name
silent es (atom plain a) h = absurd (omega (arith, h))
silent es (atom negated a) h = absurd (omega (arith, h))
silent es (constant k) h = refl
silent es (exponential k f) h = refl
silent es (connective k f g) h = refl

atom-gives : (es : Entries) (k : Sign) (a : Name) (o : Option Name) → o ≡ oldest k a es → or_itself k a o none ≡ axiom_name es (atom k a ∷ [])
unfolding axiom_name
atom-gives es k a o e = ap (λ (z : Option Name). or_itself k a z none) e

is_plain : (k : Sign) → tag_of_sign k ≡ 1 → k ≡ plain
is_plain plain e = refl
is_plain negated e = absurd (omega (arith, e))

is-negated : (k : Sign) → (tag_of_sign k ≡ 1 → ⊥) → k ≡ negated
is-negated plain e = absurd (e refl)
is-negated negated e = refl

module _ (s : Bytes) (row : List CutEntry) (k : ℕ) where
  module _ (i : ℕ) where
    pub given_inside : Of s row k i → i < length s
    given_inside (f, es, v, w) = formula-inside s i f v

    pub gives-silent : 2 < get_or s i 0 → Gives s row k i none
    gives-silent h f es v w = silent es f (omega (arith, formula-tag s i f v))

    module _ (low : get_or s i 0 < 3) where
      pub atom-sought : Of s row k i → Sought s i row k
      atom-sought (f, es, v, w) = let (g, a, u) = atom-here s i (f, v) low in (g, a, es, u, w)

      module _ (o : Option Name) (find : Finds s i row k o) where
        gives-atom : (g : Sign) (a : Name) (es : Entries) → FormulaAt s i (atom g a) → EntriesAt s row k es → (z : Option Name) → o ≡ z
            → or_itself g a z none ≡ axiom_name es (atom g a ∷ [])
        gives-atom g a es v w z e = atom-gives es g a z (sym e ∙ find g a es v w)

        pub gives-entry : (y : Name) → o ≡ some y → Gives s row k i (some y)
        gives-entry y e f es v w =
            let (g, a, q) = is-atom f (omega (arith, formula-tag s i f v)) in
            rw q (gives-atom g a es (rw q at v) w (some y) e)

        pub gives-own : get_or s i 0 ≡ 1 → o ≡ none → Gives s row k i (some (name_of s (i + 1) 0))
        gives-own t e f es v w =
            let (g, a, q) = is-atom f (omega (arith, formula-tag s i f v)) in
            let u : FormulaAt s i (atom g a) = rw q at v in
            let p : g ≡ plain = is_plain g (sym (formula-tag s i (atom g a) u) ∙ t) in
            rw q (ap some (own_name s i g a u) ∙ ap (λ (h : Sign). or_itself h a none none) (sym p) ∙ gives-atom g a es u w none e)

        pub gives_nothing : (get_or s i 0 ≡ 1 → ⊥) → o ≡ none → Gives s row k i none
        gives_nothing t e f es v w =
            let (g, a, q) = is-atom f (omega (arith, formula-tag s i f v)) in
            let u : FormulaAt s i (atom g a) = rw q at v in
            let p : g ≡ negated = is-negated g (λ z. t (formula-tag s i (atom g a) u ∙ z)) in
            rw q (ap (λ (h : Sign). or_itself h a none none) (sym p) ∙ gives-atom g a es u w none e)

-- ---- formulas in a row

abbrev or_else : Option Name → Option Name → Option Name
or_else (some y) o = some y
or_else none o = o

itself-else : (k : Sign) (a : Name) (o later : Option Name) → or_itself k a o later ≡ or_else (or_itself k a o none) later
itself-else k a (some y) later = refl
itself-else plain a none later = refl
itself-else negated a none later = refl

axiom-split : (es : Entries) (f : Formula) (fs : List Formula) → axiom_name es (f ∷ fs) ≡ or_else (axiom_name es (f ∷ [])) (axiom_name es fs)
unfolding axiom_name
axiom-split es (atom k a) fs = itself-else k a (oldest k a es) (axiom_name es fs)
axiom-split es (constant k) fs = refl
axiom-split es (exponential k f) fs = refl
axiom-split es (connective k f g) fs = refl

module _ (s : Bytes) (row : List CutEntry) (k : ℕ) where
  pub gives-none : (i : ℕ) (q : Found Label) → Gives s row k i (name_said s q) → is_some q ≡ false → Gives s row k i none
  gives-none i (Given q) g e = cc
  gives-none i Nothing g e = g

  pub takes_none : (i n : ℕ) → n ≡ 0 → Takes s row k i n none
  unfolding axiom_name
  takes_none i n z [] es v w = refl
  takes_none i n z (f ∷ fs) es v w = absurd (omega (arith, v.many))

  module _ (i n : ℕ) (h : 0 < n) where
    pub row_first : Listed s row k i n → Of s row k i
    row_first ([], es, v, w) = absurd (omega (arith, v.many))
    row_first (f ∷ fs, es, v, w) = (f, es, first encode_formula s i n f fs v, w)

    pub row_one : Listed s row k i n → Some encode_formula s i 1
    row_one r = let (f, es, v, w) = row_first r in some_alone encode_formula s i (f, v)

    pub takes_first : (y : Name) → Gives s row k i (some y) → Takes s row k i n (some y)
    takes_first y g [] es v w = absurd (omega (arith, v.many))
    takes_first y g (f ∷ fs) es v w =
        sym (axiom-split es f fs ∙ ap (λ (o : Option Name). or_else o (axiom_name es fs)) (sym (g f es (first encode_formula s i n f fs v) w)))

    pub takes-found : (q : Found Label) → Gives s row k i (name_said s q) → is_some q ≡ true → Takes s row k i n (name_said s q)
    takes-found (Given q) g e = takes_first (name_of s q.stem q.number) g
    takes-found Nothing g e = cc

    module _ (j : ℕ) (d : SkipIs encode_formula s i 1 j) where
      pub row_next : Listed s row k i n → Listed s row k j (n - 1)
      row_next ([], es, v, w) = absurd (omega (arith, v.many))
      row_next (f ∷ fs, es, v, w) = (fs, es, others encode_formula s i n f fs v j (skip-one encode_formula s i j d f (first encode_formula s i n f fs v)), w)

      pub takes-next : Gives s row k i none → (o : Option Name) → Takes s row k j (n - 1) o → Takes s row k i n o
      takes-next g o t [] es v w = absurd (omega (arith, v.many))
      takes-next g o t (f ∷ fs) es v w =
          let u = first encode_formula s i n f fs v in
          t fs es (others encode_formula s i n f fs v j (skip-one encode_formula s i j d f u)) w
          ∙ sym (axiom-split es f fs ∙ ap (λ (q : Option Name). or_else q (axiom_name es fs)) (sym (g f es u w)))
