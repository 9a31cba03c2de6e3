-- What the call answers, by what the reader's answer is. Assumes nothing.
use Rattle.std.specs.Prelude.{Ok, Err}
use Prim.Native.Nat.{ℕ}
use mathlib.Core.Path.{◌≡◌, ap}
use mathlib.Core.Bool.{Bool}
use Rattle.rules.specs.Basic.{Bytes}
use Rattle.rules.specs.Limits.{limits}
use Rattle.rules.specs.declared.Refusal.{Refusal}
use Rattle.rules.specs.Term.{Term, nodes}
use Rattle.rules.specs.Reading.{read_term}
use Rattle.rules.specs.Straight.{straight}
use Rattle.rules.specs.Calls.{check_term_call, is_straight_call}
use Rattle.laws.specs.reading.Decoding.{term-sound}
use Rattle.reader.specs.Accepted.{Accepts, accepts, refuses}
use Rattle.term.specs.Place.{TermAt}
use Rattle.term.proofs.node.Terms.{whole}

module _ (s : Bytes) where
  pub bad-term : (q : Refusal) → check_term_call limits s ≡ Err q → Err q ≡ is_straight_call limits s
  unfolding check_term_call is_straight_call
  bad-term q e = rw (refuses nodes (read_term limits 1 s) e)

  module _ (n : ℕ) (e : check_term_call limits s ≡ Ok n) where
    read : Accepts nodes (read_term limits 1 s) n
    unfolding check_term_call
    read = accepts nodes (read_term limits 1 s) e

    pub some-term : (t : Term) × TermAt s 0 t
    some-term = (read.value, whole read.value s (term-sound limits 1 s read.value read.is).bytes)

    pub good-term : (b : Bool) → ((t : Term) → TermAt s 0 t → b ≡ straight t) → Ok b ≡ is_straight_call limits s
    unfolding is_straight_call read some-term
    good-term b f = rw read.is (ap Ok (f some-term.0 some-term.1))
