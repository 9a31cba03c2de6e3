-- What is extracted from a legal proof is a legal term, where the counter stays within its bound: the counter only rises, so every name
-- that is taken has a number below the counter at the end. By induction on the proof. Assumes nothing.
use Rattle.std.specs.Prelude.{ℕ, suc, ◌<◌, ◌≤◌, refl, Bool, true, false, List, [], ◌∷◌, if◌then◌else◌}
use Rattle.std.proofs.Math.Option.{Option, none, some}
use Rattle.std.proofs.Common.{arith}
use Rattle.rules.specs.Basic.{◌‥◌}
use Rattle.rules.specs.Limits.{most_counter}
use Rattle.rules.specs.Name.{Name, leads, name_spelling}
use Rattle.rules.specs.Legal.{LegalName, LegalFormula, Legal, LegalFormulas, LegalRule, LegalProof, LegalPremises}
use Rattle.rules.specs.Formula.{Formula, atom, constant, exponential, connective, Sign, plain, negated, Tensor, Par, With, Plus, Lolli}
use Rattle.rules.specs.Term.{Term, leaf, Leaf, unit, trivial, One, inl, inr, promote, derelict}
use Rattle.rules.specs.Proof.{Proof, proof, Premises, done, ◌then◌, Rule, plain as plain_rule, cut, focus, Plain}
use Rattle.rules.specs.Proof.Plain.{Axiom, OneIntro, BottomIntro, TensorIntro, ParIntro, TopIntro, WithIntro, PlusIntroLeft, PlusIntroRight, OfCourseIntro, WhyNotIntro, Weakening, Contraction, Dereliction, Blur}
use Rattle.rules.specs.Extraction.{terms, Entries, fresh, x, stem_for, Premise, cuts_atom, oldest, or_itself, axiom_name, identity, first_or, wrapped, paired, discarding, copying, joined, cutting, plainly, by_rule, extract, extracts}
use Rattle.extract.specs.Names.{Stem, lower-stem, lower-legal, fresh-legal}

-- ---- entries

-- the names of the entries are legal
abbrev pub LegalEntries : Entries → Type 0
LegalEntries [] = Unit {0}
LegalEntries (e ∷ es) = LegalName name_spelling e.1 × LegalEntries es

entries-more : (es : Entries) (f : Formula) (v : Name) → LegalEntries es → LegalName name_spelling v → LegalEntries (es ‥ (f, v) ∷ [])
entries-more [] f v l k = (k, tt)
entries-more (e ∷ es) f v l k = (l.0, entries-more es f v l.1 k)

-- ---- names

x-stem : Stem x
unfolding leads
x-stem = record { lettered = (refl, tt); short = omega arith }

stem-of : (f : Formula) → LegalFormula f → Stem (stem_for f)
stem-of (atom k a) l = lower-stem a l
stem-of (constant k) l = x-stem
stem-of (exponential k a) l = x-stem
stem-of (connective k a b) l = x-stem

x-legal : (n : ℕ) → n < most_counter → LegalName name_spelling (fresh x n).0
x-legal n h = fresh-legal x n x-stem h

abbrev LegalOption : Option Name → Type 0
LegalOption none = Unit {0}
LegalOption (some v) = LegalName name_spelling v

oldest-legal : (k : Sign) (a : Name) (es : Entries) → LegalEntries es → LegalOption (oldest k a es)
unfolding oldest
oldest-legal k a [] l = tt
oldest-legal k a (e ∷ es) l = go (cuts_atom k a e.0) (oldest-legal k a es l.1)
  where
    go : (b : Bool) → LegalOption (oldest k a es) → LegalOption (if b then some e.1 else oldest k a es)
    go true h = l.0
    go false h = h

axiom-legal : (es : Entries) (fs : List Formula) → LegalEntries es → LegalFormulas fs → LegalOption (axiom_name es fs)
unfolding axiom_name
axiom-legal es [] l m = tt
axiom-legal es (atom k a ∷ fs) l m = go k (oldest k a es) (oldest-legal k a es l) (axiom-legal es fs l m.1)
  where
    go : (k : Sign) (o : Option Name) → LegalOption o → LegalOption (axiom_name es fs) → LegalOption (or_itself k a o (axiom_name es fs))
    go k (some v) h r = h
    go plain none h r = lower-legal a m.0
    go negated none h r = r
axiom-legal es (constant k ∷ fs) l m = axiom-legal es fs l m.1
axiom-legal es (exponential k a ∷ fs) l m = axiom-legal es fs l m.1
axiom-legal es (connective k a b ∷ fs) l m = axiom-legal es fs l m.1

-- ---- what a premise gives: the counter does not fall, and the term is legal where the counter stays within its bound

pub record Fine (p : Premise terms) : Type 0 where
  pub rises : (es : Entries) (n : ℕ) → n ≤ (p es n).1
  pub legal : (es : Entries) (n : ℕ) → LegalEntries es → (p es n).1 ≤ most_counter → Legal (p es n).0

pub data Fines : List (Premise terms) → Type 0 where
  no_more : Fines []
  more : {p : Premise terms} {ps : List (Premise terms)} → Fine p → Fines ps → Fines (p ∷ ps)

fine-leaf : (k : Leaf) → Fine (λ es n. (leaf k, n))
fine-leaf k = record { rises = λ es n. omega arith; legal = λ es n l h. tt }

fine-identity : (fs : List Formula) → LegalFormulas fs → Fine (λ es. identity terms (axiom_name es fs))
fine-identity fs m = record { rises = λ es n. up (axiom_name es fs) n; legal = λ es n l h. fit (axiom_name es fs) n (axiom-legal es fs l m) h }
  where
    up : (o : Option Name) (n : ℕ) → n ≤ (identity terms o n).1
    up (some v) n = omega arith
    up none n = omega arith

    fit : (o : Option Name) (n : ℕ) → LegalOption o → (identity terms o n).1 ≤ most_counter → Legal (identity terms o n).0
    fit (some v) n k h = k
    fit none n k h = (x-legal n h, x-legal n h)

fine-first : (k : Leaf) {ps : List (Premise terms)} → Fines ps → Fine (first_or terms (leaf k) ps)
fine-first k no_more = record { rises = λ es n. omega arith; legal = λ es n l h. tt }
fine-first k (more f fs) = record { rises = f.rises; legal = f.legal }

fine-wrapped : (k : One) {ps : List (Premise terms)} → Fines ps → Fine (wrapped terms k ps)
fine-wrapped k no_more = record { rises = λ es n. omega arith; legal = λ es n l h. tt }
fine-wrapped k (more f fs) = record { rises = f.rises; legal = f.legal }

fine-paired : (k : Leaf) {ps : List (Premise terms)} → Fines ps → Fine (paired terms k ps)
fine-paired k no_more = record { rises = λ es n. omega arith; legal = λ es n l h. tt }
fine-paired k (more f no_more) = record { rises = f.rises; legal = f.legal }
fine-paired k (more {p} f (more {p = q} g no_more)) =
    record {
      rises = λ es n. omega (arith, f.rises es n, g.rises es (p es n).1);
      legal = λ es n l h. (f.legal es n l (omega (arith, g.rises es (p es n).1)), g.legal es (p es n).1 l h);
    }
fine-paired k (more f (more g (more i fs))) = record { rises = λ es n. omega arith; legal = λ es n l h. tt }

fine-discarding : {ps : List (Premise terms)} → Fines ps → Fine (discarding terms ps)
fine-discarding no_more = record { rises = λ es n. omega arith; legal = λ es n l h. tt }
fine-discarding (more f fs) = record { rises = f.rises; legal = λ es n l h. (tt, f.legal es n l h) }

fine-copying : {ps : List (Premise terms)} → Fines ps → Fine (copying terms ps)
fine-copying no_more = record { rises = λ es n. omega arith; legal = λ es n l h. tt }
fine-copying (more {p} f fs) =
    record {
      rises = λ es n. omega (arith, f.rises es (suc (suc (suc n))));
      legal =
          λ es n l h. let up = f.rises es (suc (suc (suc n))) in
          (x-legal n (omega arith), x-legal (suc n) (omega arith), x-legal (suc (suc n)) (omega arith), f.legal es (suc (suc (suc n))) l h);
    }

-- the last of a cut: two names for Tensor and Plus
record Joined (f : Formula) : Type 0 where
  pub up : (p c : Term) (n : ℕ) → n ≤ (joined terms f p c n).1
  pub fit : (p c : Term) (n : ℕ) → Legal p → Legal c → (joined terms f p c n).1 ≤ most_counter → Legal (joined terms f p c n).0

join : (f : Formula) → Joined f
join (connective Tensor f g) =
    record { up = λ p c n. omega arith; fit = λ p c n a b h. (x-legal n (omega arith), x-legal (suc n) (omega arith), a, b) }
join (connective Plus f g) =
    record { up = λ p c n. omega arith; fit = λ p c n a b h. (x-legal n (omega arith), x-legal (suc n) (omega arith), a, b, b) }
join (connective Par f g) = record { up = λ p c n. omega arith; fit = λ p c n a b h. (b, a) }
join (connective With f g) = record { up = λ p c n. omega arith; fit = λ p c n a b h. (b, a) }
join (connective Lolli f g) = record { up = λ p c n. omega arith; fit = λ p c n a b h. (b, a) }
join (atom k y) = record { up = λ p c n. omega arith; fit = λ p c n a b h. (b, a) }
join (constant k) = record { up = λ p c n. omega arith; fit = λ p c n a b h. (b, a) }
join (exponential k f) = record { up = λ p c n. omega arith; fit = λ p c n a b h. (b, a) }

fine-cutting : (f : Formula) → LegalFormula f → {ps : List (Premise terms)} → Fines ps → Fine (cutting terms f ps)
fine-cutting f m no_more = record { rises = λ es n. omega arith; legal = λ es n l h. tt }
fine-cutting f m (more i no_more) = record { rises = λ es n. omega arith; legal = λ es n l h. tt }
fine-cutting f m (more {p} i (more {p = q} j no_more)) =
    record {
      rises =
          λ es n. let a = p es (suc n) in let b = q (es ‥ (f, (fresh (stem_for f) n).0) ∷ []) a.1 in
          omega (arith, i.rises es (suc n), j.rises (es ‥ (f, (fresh (stem_for f) n).0) ∷ []) a.1, (join f).up a.0 b.0 b.1);
      legal =
          λ es n l h. let es' = es ‥ (f, (fresh (stem_for f) n).0) ∷ [] in
          let a = p es (suc n) in let b = q es' a.1 in
          let u = i.rises es (suc n) in let v = j.rises es' a.1 in let w = (join f).up a.0 b.0 b.1 in
          let k : LegalName name_spelling (fresh (stem_for f) n).0 = fresh-legal (stem_for f) n (stem-of f m) (omega arith) in
          (join f).fit a.0 b.0 b.1 (i.legal es (suc n) l (omega arith)) (j.legal es' a.1 (entries-more es f _ l k) (omega arith)) h;
    }
fine-cutting f m (more i (more j (more k fs))) = record { rises = λ es n. omega arith; legal = λ es n l h. tt }

fine-plainly : (k : Plain) (fs : List Formula) → LegalFormulas fs → {ps : List (Premise terms)} → Fines ps → Fine (plainly terms k fs ps)
fine-plainly Axiom l m ps = fine-identity l m
fine-plainly OneIntro l m ps = fine-leaf unit
fine-plainly TopIntro l m ps = fine-leaf trivial
fine-plainly BottomIntro l m ps = fine-first unit ps
fine-plainly ParIntro l m ps = fine-first unit ps
fine-plainly WhyNotIntro l m ps = fine-first unit ps
fine-plainly Blur l m ps = fine-first unit ps
fine-plainly TensorIntro l m ps = fine-paired unit ps
fine-plainly WithIntro l m ps = fine-paired trivial ps
fine-plainly PlusIntroLeft l m ps = fine-wrapped inl ps
fine-plainly PlusIntroRight l m ps = fine-wrapped inr ps
fine-plainly OfCourseIntro l m ps = fine-wrapped promote ps
fine-plainly Dereliction l m ps = fine-wrapped derelict ps
fine-plainly Weakening l m ps = fine-discarding ps
fine-plainly Contraction l m ps = fine-copying ps

fine-rule : (r : Rule) → LegalRule r → (fs : List Formula) → LegalFormulas fs → {ps : List (Premise terms)} → Fines ps → Fine (by_rule terms r fs ps)
fine-rule (plain_rule k) a l m ps = fine-plainly k l m ps
fine-rule (cut f) a l m ps = fine-cutting f a ps
fine-rule (focus k n) a l m ps = fine-first unit ps

mutual
  unfolding extract LegalProof

  -- WHAT IS EXTRACTED FROM A LEGAL PROOF IS LEGAL
  pub extract-fine : (p : Proof) → LegalProof p → Fine (extract terms p)
  extract-fine (proof r l ps) a = fine-rule r a.0 l a.1 (extracts-fine ps a.2)

  extracts-fine : (ps : Premises) → LegalPremises ps → Fines (extracts terms ps)
  extracts-fine done a = no_more
  extracts-fine (p then ps) a = more (extract-fine p a.0) (extracts-fine ps a.1)
