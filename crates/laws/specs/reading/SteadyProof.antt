-- The reader of proofs, which counts rules and formula nodes apart, keeps what its steps keep; so what it leaves is the input from the next position on.
-- Assumes nothing.
use Rattle.rules.specs.declared.Reason.TheVariants.{NotListed}
use Prim.Native.Nat.{ℕ, zero, suc, ◌+◌, ◌<◌}
use Rattle.std.specs.Prelude.{◌∷◌}
use Rattle.rules.specs.Basic.{Bytes, ◌≤?◌}
use Rattle.rules.specs.Limits.{Limits}
use Rattle.rules.specs.Layout.{head_by_tag}
use Rattle.rules.specs.Formula.{Formula, formulas}
use Rattle.rules.specs.Proof.{Proof, RuleHead, a_plain, a_cut, a_focus, rule_heads}
use Rattle.rules.specs.Reading.{Got, got, bad, Reader, many, byte, byte_for, tag, too_many, node, Met, rule_got, formula_got, counting_rules, counting_formulas, rule_of, proof_at}
use Rattle.laws.specs.reading.Holds.{Holds, none_read}
use Rattle.laws.specs.reading.Keeps.{Kept, Keeps, keeps-byte, keeps-byte_for, keeps_then, keeps-many, keeps-tag, keeps-node}
use Rattle.laws.specs.reading.Steady.{Steady, Along, along, to-steady, stands-next}

abbrev counts : (rules formulas : ℕ) → Met
counts k f = record { rules = k; formulas = f }

module _ (R : Met → ℕ → Bytes → Met → ℕ → Bytes → Type 0) where
  -- the relation, seen by what counts rules alone, and by what counts formula nodes alone
  abbrev pub OnRules : ℕ → ℕ → ℕ → Bytes → ℕ → ℕ → Bytes → Type 0
  OnRules f u at r v p r' = R (counts u f) at r (counts v f) p r'

  abbrev pub OnFormulas : ℕ → ℕ → ℕ → Bytes → ℕ → ℕ → Bytes → Type 0
  OnFormulas k u at r v p r' = R (counts k u) at r (counts k v) p r'

  pub keeps-rules : {A : Type 0} (m : Reader ℕ A) → ((f : ℕ) → Keeps (OnRules f) m) → Keeps R (counting_rules m)
  keeps-rules {A} m h u at r = go (m u.rules at r) (h u.formulas u.rules at r)
    where
      go : (g : Got ℕ A) → Holds (λ x v p r'. R u at r (counts v u.formulas) p r') g → Holds (λ x v p r'. R u at r v p r') (rule_got u.formulas g)
      go (got x v p r') i = i
      go (bad n p) i = tt

  keeps-formulas : {A : Type 0} (m : Reader ℕ A) → ((k : ℕ) → Keeps (OnFormulas k) m) → Keeps R (counting_formulas m)
  keeps-formulas {A} m h u at r = go (m u.formulas at r) (h u.rules u.formulas at r)
    where
      go : (g : Got ℕ A) → Holds (λ x v p r'. R u at r (counts u.rules v) p r') g → Holds (λ x v p r'. R u at r v p r') (formula_got u.rules g)
      go (got x v p r') i = i
      go (bad n p) i = tt

  module _ (k : Kept R) (L : Limits) (formula : (n u at b : ℕ) (r : Bytes) → u < L.formulas → OnFormulas n u at (b ∷ r) (u + 1) (at + 1) r) where
    on-formulas : (n : ℕ) → Kept (OnFormulas n)
    on-formulas n = record { still = λ u at r. k.still (counts n u) at r; on = λ i j. k.on i j; passed = λ u at b r. k.passed (counts n u) at b r }

    abbrev part : Reader Met Formula
    part = counting_formulas (node formulas L.formulas L.formulas)

    pub keeps-part : Keeps R part
    keeps-part = keeps-formulas (node formulas L.formulas L.formulas) (λ n. keeps-node (OnFormulas n) (on-formulas n) L.formulas (formula n) formulas L.formulas)

    -- what a rule carries
    pub keeps-rule : (h : RuleHead) → Keeps R (rule_of part h)
    keeps-rule (a_plain x) = k.still
    keeps-rule a_cut = keeps_then R k part _ keeps-part (λ a. k.still)
    keeps-rule (a_focus x) = keeps_then R k byte _ (keeps-byte R k) (λ low. keeps_then R k byte _ (keeps-byte R k) (λ high. k.still))

    module _ (rule : (f u at b : ℕ) (r : Bytes) → u < L.rules → OnRules f u at (b ∷ r) (u + 1) (at + 1) r) where
      on-rules : (f : ℕ) → Kept (OnRules f)
      on-rules f = record { still = λ u at r. k.still (counts u f) at r; on = λ i j. k.on i j; passed = λ u at b r. k.passed (counts u f) at b r }

      pub keeps-proof : (depth : ℕ) → Keeps R (proof_at L depth)
      unfolding proof_at
      keeps-proof zero = keeps-rules {A = Proof} too_many (λ f u at r. none_read _ u at r)
      keeps-proof (suc depth) =
          keeps_then R k (counting_rules (tag L.rules (head_by_tag rule_heads))) _
          (keeps-rules (tag L.rules (head_by_tag rule_heads)) (λ f. keeps-tag (OnRules f) (on-rules f) L.rules (rule f) (head_by_tag rule_heads))) (λ h.
          keeps_then R k (rule_of part h) _ (keeps-rule h) (λ r.
          keeps_then R k byte _ (keeps-byte R k) (λ n.
          keeps_then R k (many part n) _ (keeps-many R k part keeps-part n) (λ linear.
          keeps_then R k (byte_for (◌≤? 3) NotListed) _ (keeps-byte_for R k (◌≤? 3) NotListed) (λ m.
          keeps_then R k (many (proof_at L depth) m) _ (keeps-many R k (proof_at L depth) (keeps-proof depth) m) (λ ps. k.still))))))

pub steady-proof : (L : Limits) (depth : ℕ) → Steady (proof_at L depth)
steady-proof L depth =
    to-steady (proof_at L depth) (λ s. keeps-proof (Along s) (along s) L (λ n u at b r l h. stands-next s at b r h) (λ f u at b r l h. stands-next s at b r h) depth)
