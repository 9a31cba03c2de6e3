-- The head of a block is wrong exactly when one of its five rules is broken: each rule as a fact beside its test. Assumes nothing.
use Rattle.std.specs.Prelude.{ℕ, ◌/◌, ◌≤◌, ◌<◌, ◌≡◌, refl, Bool, true, false, not, ◌||◌, eqb, leb, length, get_or}
use Rattle.std.proofs.Common.{sym, ◌∙◌, arith, get_or-take, eq-eqb, ne_eqb, le-leb, eqb-true, leb-true}
use Rattle.std.proofs.Math.Bool.{and-false, or-true}
use Rattle.std.proofs.lemmas.Bool.{lt-leb, not-false}
use Rattle.rules.specs.Basic.{Bytes, between}
use Rattle.rules.specs.Limits.{Limits, block_bytes, block_count_for}
use Rattle.rules.specs.declared.Kind.{Kind}
use Rattle.rules.specs.Stored.{kind_byte, block_at, two_bytes, length_in, is_head_wrong}
use Rattle.laws.specs.free.Same.{both_true}

-- the length in block 0
pub first-length : (f : Bytes) → length_in (block_at f 0) ≡ two_bytes f 2
first-length f = rw (get_or-take block_bytes f 2 0 (omega arith), get_or-take block_bytes f 3 0 (omega arith))

pub or_left : (a b : Bool) → (a || b) ≡ false → a ≡ false
or_left true b e = e
or_left false b e = refl

pub or_right : (a b : Bool) → (a || b) ≡ false → b ≡ false
or_right true b e = absurd (let z : ◌≡◌ {A = ℕ} 0 1 = cc in omega arith)
or_right false b e = e

module _ (L : Limits) (k : Kind) (f : Bytes) (i : ℕ) (b : Bytes) where
  pub record HeadRight : Type 0 where
    pub kind : get_or b 0 0 ≡ kind_byte k
    pub number : get_or b 1 0 ≡ i
    pub least : 1 ≤ length_in b
    pub most : length_in b ≤ L.bytes
    pub alike : length_in b ≡ length_in (block_at f 0)
    pub count : block_count_for (length_in b) ≡ length f / block_bytes

  pub kind-wrong : (get_or b 0 0 ≡ kind_byte k → ⊥) → true ≡ is_head_wrong L k f i b
  kind-wrong h = sym (rw (ne_eqb (get_or b 0 0) (kind_byte k) h))

  pub number-wrong : (get_or b 1 0 ≡ i → ⊥) → true ≡ is_head_wrong L k f i b
  number-wrong h = sym (simp (ne_eqb (get_or b 1 0) i h, or-true))

  pub least-wrong : length_in b < 1 → true ≡ is_head_wrong L k f i b
  least-wrong h = sym (simp (lt-leb 1 (length_in b) h, or-true))

  pub most-wrong : L.bytes < length_in b → true ≡ is_head_wrong L k f i b
  most-wrong h = sym (simp (lt-leb (length_in b) L.bytes h, and-false, or-true))

  pub alike-wrong : (length_in b ≡ two_bytes f 2 → ⊥) → true ≡ is_head_wrong L k f i b
  alike-wrong h = sym (simp (ne_eqb (length_in b) (length_in (block_at f 0)) (λ e. h (e ∙ first-length f)), or-true))

  pub last-test : get_or b 0 0 ≡ kind_byte k → get_or b 1 0 ≡ i → 1 ≤ length_in b → length_in b ≤ L.bytes → length_in b ≡ two_bytes f 2
      → is_head_wrong L k f i b ≡ not (eqb (block_count_for (length_in b)) (length f / block_bytes))
  last-test h₀ h₁ h₂ h₃ h₄ =
      rw (
        eq-eqb (get_or b 0 0) (kind_byte k) h₀,
        eq-eqb (get_or b 1 0) i h₁,
        le-leb 1 (length_in b) h₂,
        le-leb (length_in b) L.bytes h₃,
        eq-eqb (length_in b) (length_in (block_at f 0)) (h₄ ∙ sym (first-length f)),
      )

  pub head-right : is_head_wrong L k f i b ≡ false → HeadRight
  head-right e =
      let t₀ : Bool = eqb (get_or b 0 0) (kind_byte k) in
      let t₁ : Bool = eqb (get_or b 1 0) i in
      let t₂ : Bool = between 1 L.bytes (length_in b) in
      let t₃ : Bool = eqb (length_in b) (length_in (block_at f 0)) in
      let t₄ : Bool = eqb (block_count_for (length_in b)) (length f / block_bytes) in
      let e₁ = or_right (not t₀) (not t₁ || (not t₂ || (not t₃ || not t₄))) e in
      let e₂ = or_right (not t₁) (not t₂ || (not t₃ || not t₄)) e₁ in
      let e₃ = or_right (not t₂) (not t₃ || not t₄) e₂ in
      let e₄ = or_right (not t₃) (not t₄) e₃ in
      let within = not-false t₂ (or_left (not t₂) (not t₃ || not t₄) e₂) in
      record {
        kind = eqb-true (get_or b 0 0) (kind_byte k) (not-false t₀ (or_left (not t₀) (not t₁ || (not t₂ || (not t₃ || not t₄))) e));
        number = eqb-true (get_or b 1 0) i (not-false t₁ (or_left (not t₁) (not t₂ || (not t₃ || not t₄)) e₁));
        least = leb-true 1 (length_in b) (both_true (leb 1 (length_in b)) (leb (length_in b) L.bytes) within).0;
        most = leb-true (length_in b) L.bytes (both_true (leb 1 (length_in b)) (leb (length_in b) L.bytes) within).1;
        alike = eqb-true (length_in b) (length_in (block_at f 0)) (not-false t₃ (or_left (not t₃) (not t₄) e₃));
        count = eqb-true (block_count_for (length_in b)) (length f / block_bytes) (not-false t₄ e₄);
      }

  pub right-head : HeadRight → is_head_wrong L k f i b ≡ false
  right-head h =
      last-test h.kind h.number h.least h.most (h.alike ∙ first-length f)
      ∙ rw (eq-eqb (block_count_for (length_in b)) (length f / block_bytes) h.count)
