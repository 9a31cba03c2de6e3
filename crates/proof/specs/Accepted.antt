-- What was read, from the answer of `proof_input` or `check_proof`: for whoever calls one of them.
-- Assumes nothing.
use Rattle.std.specs.Prelude.{ℕ, ◌≡◌, Ok, Err}
use Rattle.rules.specs.Basic.{Bytes}
use Rattle.rules.specs.Limits.{Limits}
use Rattle.rules.specs.Proof.{Proof, rules}
use Rattle.rules.specs.Refusal.{mapped}
use Rattle.rules.specs.Reading.{read_proof}
use Rattle.rules.specs.declared.Refusal.{Refusal}
use Rattle.laws.specs.reading.Octets.{Octets}
use Rattle.laws.specs.reading.DecodingProof.{ProofIn, proof-sound}
use Rattle.reader.specs.Accepted.{accepts, refuses}

-- s was read as a proof of n rules, whose bytes it is
pub record AcceptsProof (L : Limits) (input : ℕ) (s : Bytes) (n : ℕ) : Type 0 where
  pub value : Proof
  pub is : read_proof L input s ≡ Ok value
  pub holds : ProofIn L s value
  pub counts : rules value ≡ n

module _ (L : Limits) (input : ℕ) (s : Bytes) where
  -- s is the list of a slice, so its numbers are bytes
  pub accepts-proof : Octets s → {n : ℕ} → mapped rules (read_proof L input s) ≡ Ok n → AcceptsProof L input s n
  accepts-proof o e =
      let a = accepts rules (read_proof L input s) e in
      record { value = a.value; is = a.is; holds = proof-sound L input s a.value o a.is; counts = a.counts }

  pub refuses-proof : {q : Refusal} → mapped rules (read_proof L input s) ≡ Err q → read_proof L input s ≡ Err q
  refuses-proof e = refuses rules (read_proof L input s) e
