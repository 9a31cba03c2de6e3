-- Extraction, with something wrong or nothing: which cut entry is found first, and when the names of a Cut on Plus are taken.
-- Assumes nothing: these are definitions.
use Rattle.std.specs.Prelude.{ℕ, Bool, true, false, List, [], ◌∷◌, if◌then◌else◌, Ok}
use Rattle.rules.specs.Basic.{◌‥◌, ◌<?◌}
use Rattle.rules.specs.Limits.{limits, most_counter}
use Rattle.rules.specs.Refusal.{Outcome, refuse}
use Rattle.rules.specs.declared.Reason.TheVariants.{Outgrows, CounterOver}
use Rattle.rules.specs.Name.{Name}
use Rattle.rules.specs.Formula.{Formula, atom, constant, exponential, connective, Tensor, Par, With, Plus, Lolli}
use Rattle.rules.specs.Term.{Term, leaf, unit}
use Rattle.rules.specs.Proof.{Proof, proof, Premises, done, ◌then◌, Rule, plain, cut, focus}
use Rattle.rules.specs.Extraction.{Making, terms, sizes, size_fits, ◌>>=◌, pure, fresh, x, stem_for, Entries, Premise, joined, cutting, by_rule}
use Rattle.promises.specs.Wrong.{Wrong, ◌is◌, answers-unit, seeks-newest, takes-names-early}

-- the entries, so that the search from the left meets the oldest first, or the newest
abbrev pub added : Wrong → Formula × Name → Entries → Entries
added w e es = if w is seeks-newest then e ∷ es else es ‥ e ∷ []

abbrev pub is_plus : Formula → Bool
is_plus (connective Plus f g) = true
is_plus (connective Tensor f g) = false
is_plus (connective Par f g) = false
is_plus (connective With f g) = false
is_plus (connective Lolli f g) = false
is_plus (atom k a) = false
is_plus (constant k) = false
is_plus (exponential k f) = false

module _ {A : Type 0} (w : Wrong) (make : Making A) where
  abbrev pub cut_as_usual : Formula → (producer consumer : Premise make) → Premise make
  cut_as_usual f p q es = do
    v ← fresh (stem_for f)
    producer ← p es
    consumer ← q (added w (f, v) es)
    joined make f producer consumer

  abbrev pub cut_names_first : Formula → (producer consumer : Premise make) → Premise make
  cut_names_first f p q es = do
    v ← fresh (stem_for f)
    a ← fresh x
    b ← fresh x
    producer ← p es
    consumer ← q (added w (f, v) es)
    pure (make.branch a b producer consumer consumer)

  abbrev pub cutting_by : Formula → List (Premise make) → Premise make
  cutting_by f [] = cutting make f []
  cutting_by f (p ∷ []) = cutting make f (p ∷ [])
  cutting_by f (p ∷ q ∷ []) = if w is takes-names-early then (if is_plus f then cut_names_first f p q else cut_as_usual f p q) else cut_as_usual f p q
  cutting_by f (p ∷ q ∷ r ∷ ps) = cutting make f (p ∷ q ∷ r ∷ ps)

  abbrev pub by_rule_by : Rule → List Formula → List (Premise make) → Premise make
  by_rule_by (plain k) l ps = by_rule make (plain k) l ps
  by_rule_by (cut f) l ps = cutting_by f ps
  by_rule_by (focus k n) l ps = by_rule make (focus k n) l ps

  unfoldable mutual
    pub extract_by : Proof → Premise make
    extract_by (proof r l ps) = by_rule_by r l (extracts_by ps)

    pub extracts_by : Premises → List (Premise make)
    extracts_by done = []
    extracts_by (p then ps) = extract_by p ∷ extracts_by ps

-- the term that is answered, and the counter after it
abbrev pub made : Wrong → Term × ℕ → Term × ℕ
made w r = if w is answers-unit then (leaf unit, r.1) else r

unfoldable pub extracted : Wrong → (counter : ℕ) → Proof → Outcome (Term × ℕ)
extracted w n p =
    let (size, next) = extract_by w sizes p [] n in
    elim (most_counter <? next) [
      | true ↦ refuse CounterOver 0 0
      | false ↦ elim (size_fits limits size) [ true ↦ Ok (made w (extract_by w terms p [] n)) | false ↦ refuse Outgrows 0 0 ]
    ]
