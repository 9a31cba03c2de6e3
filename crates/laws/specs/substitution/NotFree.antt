-- A name that is not free in a term's bytes, as a condition and as the test that decides it, and a substitution that changes nothing (request (viii)).
-- Assumes nothing.
use Rattle.std.specs.Prelude.{◌≡◌, refl, Bool, true, ◌↔◌, ◌==◌, Ok, Err}
use Rattle.std.proofs.Common.{eqb-true, eq-eqb}
use Rattle.rules.specs.Basic.{Bytes}
use Rattle.rules.specs.Limits.{Limits}
use Rattle.rules.specs.Refusal.{Outcome, ◌>>=◌}
use Rattle.rules.specs.Name.{Name}
use Rattle.rules.specs.Term.{Term}
use Rattle.rules.specs.Reading.{read_term, read_name}
use Rattle.rules.specs.Free.{occurrences}
use Rattle.laws.specs.reading.Decoding.{TermIn, term-sound, term-complete}

-- a name is not free in the term that these bytes are, if they are one
abbrev pub NotFree : Limits → Name → Bytes → Type 0
NotFree L x s = (t : Term) → TermIn L s t → occurrences x t ≡ 0

-- the same as a test
abbrev pub nowhere_free : Name → Outcome Term → Bool
nowhere_free x (Ok t) = occurrences x t == 0
nowhere_free x (Err q) = true

abbrev pub not_free : Limits → Name → Bytes → Bool
not_free L x s = nowhere_free x (read_term L 1 s)

pub not-free-decides : (L : Limits) (x : Name) (s : Bytes) → (not_free L x s ≡ true) ↔ NotFree L x s
not-free-decides L x s = (λ h t a. eqb-true (occurrences x t) 0 (rw (term-complete L 1 s t a) at h), λ n. go n (read_term L 1 s) refl)
  where
    go : NotFree L x s → (o : Outcome Term) → read_term L 1 s ≡ o → nowhere_free x o ≡ true
    go n (Ok t) e = eq-eqb (occurrences x t) 0 (n t (term-sound L 1 s t e))
    go n (Err q) e = refl

-- a substitution that changes nothing: the inputs are read in their order, and the term's own bytes are given
abbrev pub unchanged : Limits → (term name value : Bytes) → Outcome Bytes
unchanged L t x v = do
  t' ← read_term L 1 t
  x' ← read_name 2 x
  v' ← read_term L 3 v
  Ok t
