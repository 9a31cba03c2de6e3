-- What is accepted, of proofs: the encodings of legal ones within the limits, each as what it encodes, and nothing else.
-- Assumes nothing.
use Rattle.std.specs.Prelude.{ℕ, ◌+◌, ◌≤◌, Bool, if◌then◌else◌, Ok}
use native.Mathlib.Omega.{arith}
use Rattle.std.proofs.Math.Path.{◌≡◌, refl, sym}
use Rattle.std.proofs.Common.{ap, ◌∙◌}
use Rattle.std.proofs.Math.Bool.{true, false}
use mathlib.Core.List.{[], ◌++◌, append-nil}
use Rattle.std.proofs.Math.ListN.{length}
use borrow.Author.Tests.{ltb-false, le-ltb}
use Rattle.rules.specs.Basic.{Bytes, ◌<?◌, ◌‥◌}
use Rattle.rules.specs.Limits.{Limits}
use Rattle.rules.specs.Refusal.{refuse}
use Rattle.rules.specs.declared.Reason.TheVariants.{InputTooLong}
use Rattle.rules.specs.Proof.{Proof, encode_proof, rules, proof_formula_nodes}
use Rattle.rules.specs.Legal.{LegalProof}
use Rattle.rules.specs.Reading.{got, Met, proof_at, ended, whole, read_proof}
use Rattle.laws.specs.reading.Holds.{told}
use Rattle.laws.specs.reading.Keeps.{Kept}
use Rattle.laws.specs.reading.SteadyProof.{keeps-proof}
use Rattle.laws.specs.reading.Octets.{Octets}
use Rattle.laws.specs.reading.SoundProof.{Piece, proof-reads}
use Rattle.laws.specs.reading.CompleteProof.{proof-found}
use Rattle.laws.specs.reading.Decoding.{ended-good}

-- The whole input s encodes p, which is legal and within the limits.
pub record ProofIn (L : Limits) (s : Bytes) (p : Proof) : Type 0 where
  pub bytes : s ≡ encode_proof p
  pub short : length s ≤ L.bytes
  pub few-rules : rules p ≤ L.rules
  pub few-nodes : proof_formula_nodes p ≤ L.formulas
  pub legal : LegalProof p

-- the counts do not pass the most that there may be
abbrev Below : Limits → Met → ℕ → Bytes → Met → ℕ → Bytes → Type 0
Below L u at r v p r' = (u.rules ≤ L.rules → v.rules ≤ L.rules) × (u.formulas ≤ L.formulas → v.formulas ≤ L.formulas)

below : (L : Limits) → Kept (Below L)
below L = record {
  still = λ u at r. (λ h. h, λ h. h);
  on = λ f g. (λ h. g.0 (f.0 h), λ h. g.1 (f.1 h));
  passed = λ u at b r. (λ h. h, λ h. h);
}

abbrev start : Met
start = record { rules = 0; formulas = 0 }

module _ (L : Limits) (i : ℕ) (s : Bytes) (p : Proof) where
  pub proof-sound : Octets s → read_proof L i s ≡ Ok p → ProofIn L s p
  unfolding read_proof whole
  proof-sound o e = short (L.bytes <? length s) refl e
    where
      short : (b : Bool) → (L.bytes <? length s) ≡ b → (if b then refuse InputTooLong L.bytes i else ended i (proof_at L L.rules start 0 s)) ≡ Ok p → ProofIn L s p
      short true r q = absurd (let z : ◌≡◌ {A = ℕ} 0 1 = cc in omega arith)
      short false r q =
          let g = ended-good i (proof_at L L.rules start 0 s) _ p (proof-reads L L.rules start 0 s o) q in
          let t : Piece encode_proof rules proof_formula_nodes LegalProof start 0 s p g.0 g.1 [] = g.2 in
          let k = told (λ x v n r'. Below L start 0 s v n r') (proof_at L L.rules start 0 s)
          (keeps-proof (Below L) (below L) L (λ n u at b r l. (λ h. h, λ h. omega arith)) (λ f u at b r l. (λ h. omega arith, λ h. h)) L.rules start 0 s) g.3 in
          record {
            bytes = t.bytes ∙ append-nil (encode_proof p);
            short = ltb-false _ _ r;
            few-rules = omega (arith, t.rules, k.0 (omega arith));
            few-nodes = omega (arith, t.formulas, k.1 (omega arith));
            legal = t.legal;
          }

  pub proof-complete : ProofIn L s p → read_proof L i s ≡ Ok p
  unfolding read_proof whole
  proof-complete a =
      let e : encode_proof p ++ [] ≡ s = append-nil (encode_proof p) ∙ sym a.bytes in
      let g : proof_at L L.rules start 0 s ≡ got p (record { rules = 0 + rules p; formulas = 0 + proof_formula_nodes p }) (0 + length (encode_proof p)) [] =
      rw e at (proof-found L p a.legal L.rules a.few-rules start 0 [] (omega (arith, a.few-rules)) (omega (arith, a.few-nodes))) in
      rw (le-ltb L.bytes (length s) a.short, g)

-- two that begin the same list are the same
pub proof-unique : (p q : Proof) → LegalProof p → LegalProof q → (r w : Bytes) → encode_proof p ‥ r ≡ encode_proof q ‥ w → (p ≡ q) × (r ≡ w)
proof-unique p q k l r w e =
    let L : Limits = record { bytes = 0; nodes = 0; rules = rules p + rules q; formulas = proof_formula_nodes p + proof_formula_nodes q } in
    let a = proof-found L p k (rules p + rules q) (omega arith) start 0 r (omega arith) (omega arith) in
    let b = proof-found L q l (rules p + rules q) (omega arith) start 0 w (omega arith) (omega arith) in
    let c = sym a ∙ ap (proof_at L (rules p + rules q) start 0) e ∙ b in
    (cc, cc)
