-- What is extracted from a proof is read as the term that it is: it is legal, so none of its names is a word, and it fits. By the outcome's two tests.
-- Assumes nothing.
use Rattle.std.specs.Prelude.{Ok}
use Prim.Native.Nat.{ℕ}
use mathlib.Core.Path.{◌≡◌, refl, sym, ◌∙◌}
use mathlib.Core.Bool.{Bool, true, false}
use mathlib.Core.List.{[]}
use native.Mathlib.Omega.{arith}
use borrow.Author.Tests.{ltb-false}
use Rattle.rules.specs.Basic.{◌<?◌}
use Rattle.rules.specs.Limits.{limits, most_counter}
use Rattle.rules.specs.Legal.{LegalProof}
use Rattle.rules.specs.Term.{Term, encode, fits}
use Rattle.rules.specs.Proof.{Proof}
use Rattle.rules.specs.Reading.{read_term}
use Rattle.rules.specs.Extraction.{terms, extract, extract_from}
use Rattle.laws.specs.reading.Decoding.{term-complete}
use Rattle.laws.specs.reading.Fits.{fits-accepted}
use Rattle.extract.specs.Legals.{extract-fine}
use Rattle.extract.specs.Whole.{decided}
use Rattle.extract.proofs.Calling.{from_is}

pub extracted-again : (p : Proof) → LegalProof p → (n : ℕ) (t : Term) (m : ℕ) → extract_from limits n p ≡ Ok (t, m) → read_term limits 1 (encode t) ≡ Ok t
extracted-again p l n t m e = go (most_counter <? x.1) refl (fits limits x.0) refl (sym (from_is n p) ∙ e)
  where
    x : Term × ℕ
    x = extract terms p [] n

    go : (a : Bool) → (most_counter <? x.1) ≡ a → (b : Bool) → fits limits x.0 ≡ b → decided a b x ≡ Ok (t, m) → read_term limits 1 (encode t) ≡ Ok t
    go true o b f d = absurd (let z : ◌≡◌ {A = ℕ} 0 1 = cc in omega arith)
    go false o false f d = absurd (let z : ◌≡◌ {A = ℕ} 0 1 = cc in omega arith)
    go false o true f d =
        let z : x.0 ≡ t = cc in
        rw (← z) (term-complete limits 1 (encode x.0) x.0 (fits-accepted limits x.0 ((extract-fine p l).legal [] n tt (ltb-false _ _ o)) f))
