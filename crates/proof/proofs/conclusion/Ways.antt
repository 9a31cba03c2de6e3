-- What the stages of a reading keep: a rule's tag makes one relation, and each byte and formula after it keeps another.
-- So each stage leaves the input from the next place on, and counts one rule.
-- Assumes nothing.
use Prim.Native.Nat.{ℕ, ◌+◌, ◌<◌, ◌≤◌}
use native.Mathlib.Omega.{arith}
use mathlib.Core.Path.{◌≡◌, refl, ◌∙◌}
use mathlib.Core.List.{◌∷◌}
use Rattle.rules.specs.declared.Reason.TheVariants.{NotListed}
use Rattle.rules.specs.Basic.{Bytes, ◌≤?◌}
use Rattle.rules.specs.Limits.{Limits}
use Rattle.rules.specs.Layout.{head_by_tag}
use Rattle.rules.specs.Proof.{RuleHead, rule_heads}
use Rattle.rules.specs.Reading.{Got, got, bad, Reader, Met, and_then, byte, tag, rule_got, proof_at}
use Rattle.laws.specs.reading.Holds.{Holds, and-then, weaker}
use Rattle.laws.specs.reading.Keeps.{Kept, Keeps, keeps-byte, keeps-byte_for, keeps_then, keeps-many}
use Rattle.laws.specs.reading.Steady.{Steady, Along, along, to-steady, stands-next}
use Rattle.laws.specs.reading.SteadyProof.{OnFormulas, keeps-part, keeps-rule, keeps-proof}
use Rattle.proof.specs.Stages.{formula_of, row_of, tag_of, own_of, linear_of, count_of, top_of}
use Rattle.proof.proofs.tag.Tags.{Tagged, tag-holds}

-- a tag makes T, and what keeps R keeps it
record Begins (L : Limits) (T R : Met → ℕ → Bytes → Met → ℕ → Bytes → Type 0) : Type 0 where
  tagged : (u : Met) (at b : ℕ) (r : Bytes) → u.rules < L.rules → T u at (b ∷ r) (record { rules = u.rules + 1; formulas = u.formulas }) (at + 1) r
  on : {u v w : Met} {at p q : ℕ} {r r' r'' : Bytes} → T u at r v p r' → R v p r' w q r'' → T u at r w q r''

module _ (R : Met → ℕ → Bytes → Met → ℕ → Bytes → Type 0) (k : Kept R) (L : Limits)
    (formula : (n u at b : ℕ) (r : Bytes) → u < L.formulas → OnFormulas R n u at (b ∷ r) (u + 1) (at + 1) r) where
  keeps-row : (n : ℕ) → Keeps R (row_of L n)
  unfolding row_of
  keeps-row n = keeps-many R k (formula_of L) (keeps-part R k L formula) n

  keeps-linear : Keeps R (linear_of L)
  unfolding linear_of
  keeps-linear = keeps_then R k byte _ (keeps-byte R k) (λ n. keeps-row n)

  keeps-count : Keeps R count_of
  unfolding count_of
  keeps-count = keeps-byte_for R k (◌≤? 3) NotListed

  module _ (T : Met → ℕ → Bytes → Met → ℕ → Bytes → Type 0) (b : Begins L T R) where
    makes-tag : Keeps T (tag_of L)
    makes-tag u at r = go (tag L.rules (head_by_tag rule_heads) u.rules at r) (tag-holds L.rules u.rules at r)
      where
        go : (g : Got ℕ RuleHead) → Holds (λ h v p r'. Tagged L.rules u.rules at r v p r') g → Holds (λ h v p r'. T u at r v p r') (rule_got u.formulas g)
        go (got h v p r') t = rw (t.bytes, t.next, t.met) (b.tagged u at t.first r' t.room)
        go (bad n p) t = tt

    then-on : {A B : Type 0} (m : Reader Met A) (f : A → Reader Met B) → Keeps T m → ((x : A) → Keeps R (f x)) → Keeps T (λ u at r. and_then (m u at r) f)
    then-on m f h g u at r = and-then (λ x v p r'. T u at r v p r') _ (m u at r) _ (h u at r) (λ x v p r' i.
        weaker _ _ (f x v p r') (λ y w q r'' j. b.on i j) (g x v p r'))

    makes-own : Keeps T (own_of L)
    unfolding own_of
    makes-own = then-on (tag_of L) _ makes-tag (λ h. keeps-rule R k L formula h)

    makes-top : Keeps T (top_of L)
    unfolding top_of
    makes-top = then-on (own_of L) _ makes-own (λ r. keeps_then R k (linear_of L) _ keeps-linear (λ l. keeps_then R k count_of _ keeps-count (λ n. k.still)))

module _ (L : Limits) where
  begins-along : (s : Bytes) → Begins L (Along s) (Along s)
  begins-along s = record { tagged = λ u at b r l h. stands-next s at b r h; on = λ f g h. g (f h) }

  pub steady-own : Steady (own_of L)
  steady-own = to-steady (own_of L) (λ s.
      makes-own (Along s) (along s) L (λ n u at b r l h. stands-next s at b r h) (Along s) (begins-along s))

  pub steady-linear : Steady (linear_of L)
  steady-linear = to-steady (linear_of L) (λ s. keeps-linear (Along s) (along s) L (λ n u at b r l h. stands-next s at b r h))

  pub steady-top : Steady (top_of L)
  steady-top = to-steady (top_of L) (λ s.
      makes-top (Along s) (along s) L (λ n u at b r l h. stands-next s at b r h) (Along s) (begins-along s))

-- no rule was met, and it went on; one rule was met, with room for it
abbrev LevelOn : Met → ℕ → Bytes → Met → ℕ → Bytes → Type 0
LevelOn u at r v p r' = (v.rules ≡ u.rules) × (at ≤ p)

level-on : Kept LevelOn
level-on = record {
  still = λ u at r. (refl, omega arith);
  on = λ i j. (j.0 ∙ i.0, omega (arith, i.1, j.1));
  passed = λ u at b r. (refl, omega arith);
}

pub record Ruled (L : Limits) (u : Met) (at : ℕ) (v : Met) (p : ℕ) : Type 0 where
  pub room : u.rules < L.rules
  pub counted : v.rules ≡ u.rules + 1
  pub further : at < p

pub top-ruled : (L : Limits) (u : Met) (at : ℕ) (r : Bytes) → Holds (λ x v p r'. Ruled L u at v p) (top_of L u at r)
top-ruled L =
    makes-top LevelOn level-on L (λ n u at b r l. (refl, omega arith)) (λ u at r v p r'. Ruled L u at v p)
    record {
      tagged = λ u at b r l. record { room = l; counted = refl; further = omega arith };
      on = λ i j. record { room = i.room; counted = j.0 ∙ i.counted; further = omega (arith, i.further, j.1) };
    }

-- A whole proof: no rule is lost, and it goes on.
abbrev Onward : Met → ℕ → Bytes → Met → ℕ → Bytes → Type 0
Onward u at r v p r' = (u.rules ≤ v.rules) × (at ≤ p)

onward : Kept Onward
onward = record {
  still = λ u at r. (omega arith, omega arith);
  on = λ i j. (omega (arith, i.0, j.0), omega (arith, i.1, j.1));
  passed = λ u at b r. (omega arith, omega arith);
}

pub proof-onward : (L : Limits) (depth : ℕ) (u : Met) (at : ℕ) (r : Bytes) → Holds (λ x v p r'. (u.rules ≤ v.rules) × (at ≤ p)) (proof_at L depth u at r)
proof-onward L depth = keeps-proof Onward onward L (λ n u at b r l. (omega arith, omega arith)) (λ f u at b r l. (omega arith, omega arith)) depth

-- Rules and formula nodes are within the limits, and stay so.
abbrev pub Few : Limits → Met → Type 0
Few L u = (u.rules ≤ L.rules) × (u.formulas ≤ L.formulas)

module _ (L : Limits) where
  abbrev StaysFew : Met → ℕ → Bytes → Met → ℕ → Bytes → Type 0
  StaysFew u at r v p r' = Few L u → Few L v

  stays-few : Kept StaysFew
  stays-few = record { still = λ u at r h. h; on = λ f g h. g (f h); passed = λ u at b r h. h }

  pub top-few : (u : Met) (at : ℕ) (r : Bytes) → Holds (λ x v p r'. Few L u → Few L v) (top_of L u at r)
  top-few =
      makes-top StaysFew stays-few L (λ n u at b r l h. (h.0, omega arith)) StaysFew
      record { tagged = λ u at b r l h. (omega arith, h.1); on = λ f g h. g (f h) }

  pub proof-few : (depth : ℕ) (u : Met) (at : ℕ) (r : Bytes) → Holds (λ x v p r'. Few L u → Few L v) (proof_at L depth u at r)
  proof-few depth = keeps-proof StaysFew stays-few L (λ n u at b r l h. (h.0, omega arith)) (λ f u at b r l h. (omega arith, h.1)) depth
