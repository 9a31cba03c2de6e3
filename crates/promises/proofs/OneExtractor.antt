-- The extractor's calls leave one: a new one the same extractor; an extraction the same answer, counter, entries, output and scratch. What the checker takes
-- from the `ensures` of `extract` is that clause itself: `Learnt` is the claim in it. It says of the entries which pairs they are, and a row is known by its pairs.
-- Assumes nothing.
use mathlib.Core.Path.{◌≡◌, refl, ap, ap₂}
use mathlib.Core.List.{List, [], ◌∷◌}
use seplogic.Ra.Ura.{Ura}
use base.Logic.{SProp}
use prog.Memory.{Memory}
use prog.Routine.{Routine}
use types.Logic.{Logic}
use contract.Lifetimes.{Lfts}
use contract.Monad.{Fun, fact}
use denote.Triple.Clauses.{AtExit}
use denote.Triple.Entry.{Args, Res}
use Rattle.rules.specs.Limits.{limits}
use Rattle.rules.specs.Calls.{Entry, extract_call}
use Rattle.proof_draft.specs.Entries.{pairs}
use Rattle.proof_draft.specs.declared.entry.CutEntry.{CutEntry}
use Rattle.extract.specs.Ending.{Extracts}
use Rattle.extract.specs.declared.extractor.Extractor.{Extractor}
use Rattle.extract.proofs.extractor.Extractor.new.Reads as new
use Rattle.extract.specs.contracts.extractor.Extractor.extract as extract
use Rattle.promises.proofs.One.{One, ◌&◌, both, agree}

same-extractor : {x y : Extractor} → x.counter ≡ y.counter → x ≡ y
same-extractor e = ap (λ n. record { counter = n }) e

same-entry : {c d : CutEntry} → c.place & c.counter ≡ d.place & d.counter → c ≡ d
same-entry e = ap (λ (p : Entry). record { place = p.0; counter = p.1 }) e

same_row : (cs ds : List CutEntry) → pairs cs ≡ pairs ds → cs ≡ ds
same_row [] [] e = refl
same_row [] (d ∷ ds) e = cc
same_row (c ∷ cs) [] e = cc
same_row (c ∷ cs) (d ∷ ds) e =
    let first : c.place & c.counter ≡ d.place & d.counter = cc in
    let rest : pairs cs ≡ pairs ds = cc in
    ap₂ (λ x xs. x ∷ xs) (same-entry first) (same_row cs ds rest)

pub extractor-new-has-one : One new.Learnt (λ κ r s. r)
extractor-new-has-one κ a r r' s s' p q = same-extractor (agree p q)

module _ (κ : Lfts 5) (a : Args extract.signature κ) (r : Res extract.signature κ) (s : AtExit extract.ended κ) where
  abbrev Learnt : Type 0
  Learnt =
      Extracts (extract_call limits a.0.now.counter a.1.0.now a.1.1.1.0.now a.1.1.1.1.0.now (pairs a.1.1.0.now))
      r s.1.1.1.0.now s.1.1.1.1.0.now (pairs s.1.1.0.now) s.0.now.counter

  -- the clause that the checker has of the `ensures` says this, and no more
  pub learnt_is : {M : Type 1} {𝓤 : Ura M} (𝓛 : Logic 𝓤) (mem : Memory → SProp 𝓤) (run : Routine → Fun 𝓤) → (extract.clauses 𝓛 mem run κ a).ensures tt r s ≡ fact 𝓤 Learnt
  learnt_is 𝓛 mem run = refl

pub extractor-extract-has-one : One Learnt (λ κ r s. r & s.0.now & s.1.1.0.now & s.1.1.1.0.now & s.1.1.1.1.0.now)
extractor-extract-has-one κ a r r' s s' p q =
    let says = agree p.says q.says in
    let counts = same-extractor (agree p.counts q.counts) in
    let zeroes = same_row s.1.1.0.now s'.1.1.0.now (agree p.zeroes q.zeroes) in
    both says (both counts (both zeroes (both (agree p.leaves q.leaves) (agree p.clears q.clears))))
