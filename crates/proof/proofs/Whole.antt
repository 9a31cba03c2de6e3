-- A whole input: what reading it comes to, from what reading its first rule finds.
-- Assumes nothing.
use Prim.Native.Nat.{ℕ, ◌<◌, ◌≤◌}
use native.Mathlib.Omega.{arith}
use mathlib.Core.Path.{◌≡◌, refl, ap, ◌∙◌}
use mathlib.Core.Bool.{Bool, true, false}
use lib.ListN.{length}
use borrow.Author.Tests.{lt-ltb, le-ltb, ltb-true, ltb-false}
use Rattle.reader.specs.View.{fault}
use Rattle.std.specs.Prelude.{if◌then◌else◌, Ok}
use Rattle.rules.specs.declared.Reason.{Reason}
use Rattle.rules.specs.Basic.{Bytes, ◌<?◌}
use Rattle.rules.specs.Limits.{limits}
use Rattle.rules.specs.Refusal.{refuse, mapped, Outcome}
use Rattle.rules.specs.declared.Reason.TheVariants.{InputTooLong, LeftOver}
use Rattle.rules.specs.Proof.{Proof, rules}
use Rattle.rules.specs.Reading.{Got, Met, proof_at, ended, whole, read_proof}
use Rattle.laws.specs.reading.Holds.{told}
use Rattle.laws.specs.reading.Octets.{Octets}
use Rattle.laws.specs.reading.SteadyProof.{steady-proof}
use Rattle.laws.specs.reading.SoundProof.{proof-reads}
use Rattle.proof.specs.Seen.{Reached, met_by, reached_at, seen, found, end_of}
use Rattle.reader.proofs.class.Views.{rest_in, rest_out}
use Rattle.proof.proofs.conclusion.Views.{seen-bad, Came, came}

module _ (i : ℕ) (s : Bytes) where
  abbrev answer : Outcome ℕ
  answer = mapped rules (read_proof limits i s)

  abbrev first : Got Met Proof
  first = found (proof_at limits limits.rules) s (reached_at 0 0 0)

  pub whole_long : limits.bytes < length s → answer ≡ refuse InputTooLong limits.bytes i
  unfolding read_proof whole
  whole_long h = rw (lt-ltb limits.bytes (length s) h)

  module _ (short : length s ≤ limits.bytes) where
    ends : answer ≡ mapped rules (ended i first)
    unfolding read_proof whole
    ends = rw (le-ltb limits.bytes (length s) short)

    pub whole-bad : {n : Reason} {p : ℕ} → seen first ≡ fault n p → answer ≡ refuse n p i
    whole-bad e = ends ∙ rw (seen-bad first e)

    module _ {q : Reached} (e : seen first ≡ Ok q) where
      w : Came s first q
      w = came (proof_at limits limits.rules) (steady-proof limits limits.rules) s (reached_at 0 0 0) (omega arith) e

      whole-more : q.next < length s → answer ≡ refuse LeftOver q.next i
      whole-more h = ends ∙ rw (w.is, rest_in s q.next h)

      whole-good : Octets s → length s ≤ q.next → answer ≡ Ok q.rules
      whole-good o h =
          let t = told _ first (proof-reads limits limits.rules (met_by (reached_at 0 0 0)) 0 s o) w.is in
          let z : rules w.value ≡ q.rules = omega (arith, t.rules) in
          ends ∙ rw (w.is, rest_out s q.next h) (ap Ok z)

      pub whole-end : Octets s → answer ≡ end_of q (length s) i
      whole-end o = go (q.next <? length s) refl
        where
          go : (b : Bool) → (q.next <? length s) ≡ b → answer ≡ (if b then refuse LeftOver q.next i else Ok q.rules)
          go true h = whole-more (ltb-true q.next (length s) h)
          go false h = whole-good o (ltb-false q.next (length s) h)
