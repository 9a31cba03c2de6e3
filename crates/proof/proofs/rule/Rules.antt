-- Proofs that stand in a list of bytes: a rule's tag, what it carries, the formulas of `linear`, the premises, and what a look at one tells.
-- By taking the list apart at each of them. Assumes nothing.
use Prim.Native.Nat.{ℕ, suc, ◌+◌, ◌-◌, ◌<◌}
use mathlib.Core.Path.{◌≡◌, refl, sym, ap, ◌∙◌}
use mathlib.Core.List.{[], ◌∷◌, ◌++◌, append_assoc}
use mathlib.Core.Option.{some}
use native.Mathlib.Omega.{arith}
use lib.ListN.{length, get_or, drop, length-append}
use Rattle.rules.specs.Basic.{Bytes}
use Rattle.rules.specs.Layout.{head_by_tag}
use Rattle.rules.specs.Formula.{Formula, encode_formula}
use Rattle.rules.specs.Proof.{Proof, proof, Premises, done, ◌then◌, premise_count, Rule, plain, cut, focus, FocusPositive, FocusNegative, rule_heads, encode_proof, encode_premises}
use Rattle.laws.specs.reading.Lists.{joined, formulas-joined}
use Rattle.laws.specs.reading.WrittenProof.{head_of, head_at, carried, rule-bytes}
use Rattle.term.proofs.node.Names.{drop_app, head_byte, long}
use Rattle.proof.specs.Place.{FormulaAt, FormulasAt, ProofAt, formulas_long}
use mathlib.Core.Logic.{◌⊎◌, inl, inr}
use Rattle.std.specs.Prelude.{Option, Some as Given}
use Rattle.proof.specs.Seen.{Carries, Formula as AFormula, Index as AnIndex, carried_of}
use Rattle.proof.specs.Shape.{rule_of, linear_of, premises_of, listed, rule_tag, proof_head, Sees}
use Rattle.proof.specs.declared.rule.Looked.{Looked}
use Rattle.proof.proofs.rule.Items.{Spelt, Some, SkipIs, skip-one, at-bytes, at-inside, some_alone}

-- ---- a proof is its head, then its premises

premises-many : (ps : Premises) → premise_count ps ≡ length (listed ps)
premises-many done = refl
premises-many (p then ps) = ap suc (premises-many ps)

premises-bytes : (ps : Premises) → encode_premises ps ≡ joined encode_proof (listed ps)
unfolding encode_proof
premises-bytes done = refl
premises-bytes (p then ps) = ap (λ (r : Bytes). encode_proof p ++ r) (premises-bytes ps)

regroup : (t n c : ℕ) (a b r : Bytes) → (t ∷ a) ++ ((n ∷ b) ++ (c ∷ r)) ≡ ((t ∷ a) ++ ((n ∷ b) ++ (c ∷ []))) ++ r
regroup t n c a b r = simp append_assoc

proof-apart : (p : Proof) → encode_proof p ≡ proof_head p ++ joined encode_proof (premises_of p)
unfolding encode_proof
proof-apart (proof x l ps) =
    rw (rule-bytes x, formulas-joined l, premises-many ps, premises-bytes ps)
    (regroup (rule_tag x) (length l) (length (listed ps)) (carried x) (joined encode_formula l) (joined encode_proof (listed ps)))

pub proofs-spelt : Spelt encode_proof proof_head premises_of
proofs-spelt = record { apart = proof-apart; big = λ p. omega arith }

-- ---- what a rule carries, by its tag

abbrev borne : Rule → Option Carries
borne x = carried_of (some (head_of x))

borne_at : (x : Rule) (t : ℕ) → t ≡ rule_tag x → carried_of (head_by_tag rule_heads t) ≡ borne x
borne_at x t e = ap (λ (k : ℕ). carried_of (head_by_tag rule_heads k)) e ∙ ap carried_of (head_at (head_of x))

carries-formula : (x : Rule) → borne x ≡ Given AFormula → (f : Formula) × (x ≡ cut f)
carries-formula (plain k) e = absurd (let z : ◌≡◌ {A = ℕ} 0 1 = cc in omega arith)
carries-formula (cut f) e = (f, refl)
carries-formula (focus k n) e = absurd (let z : ◌≡◌ {A = ℕ} 0 1 = cc in omega arith)

carries-index : (x : Rule) → borne x ≡ Given AnIndex → length (carried x) ≡ 2
carries-index (plain k) e = absurd (let z : ◌≡◌ {A = ℕ} 0 1 = cc in omega arith)
carries-index (cut f) e = absurd (let z : ◌≡◌ {A = ℕ} 0 1 = cc in omega arith)
carries-index (focus k n) e = refl

cut-tagged : (x : Rule) → rule_tag x ≡ 2 → (f : Formula) × (x ≡ cut f)
cut-tagged x e = carries-formula x (sym (borne_at x 2 (sym e)))

focus-tagged : (x : Rule) → (rule_tag x ≡ 16) ⊎ (rule_tag x ≡ 17) → length (carried x) ≡ 2
focus-tagged x (inl e) = carries-index x (sym (borne_at x 16 (sym e)))
focus-tagged x (inr e) = carries-index x (sym (borne_at x 17 (sym e)))

plain-tagged : (x : Rule) → (rule_tag x ≡ 2 → ⊥) → (rule_tag x ≡ 16 → ⊥) → (rule_tag x ≡ 17 → ⊥) → length (carried x) ≡ 0
plain-tagged (plain k) c p n = refl
plain-tagged (cut f) c p n = absurd (c refl)
plain-tagged (focus FocusPositive k) c p n = absurd (p refl)
plain-tagged (focus FocusNegative k) c p n = absurd (n refl)

-- ---- at a place

module _ (s : Bytes) (i : ℕ) (p : Proof) (w : ProofAt s i p) where
  abbrev counted : ℕ
  counted = length (premises_of p)

  abbrev behind : Bytes
  behind = joined encode_proof (premises_of p) ++ w.rest

  -- what stands behind the rule: the count of `linear`, its formulas, the count of premises, the premises
  abbrev after-own : Bytes
  after-own = (length (linear_of p) ∷ []) ++ (joined encode_formula (linear_of p) ++ ((counted ∷ []) ++ behind))

  pieces : (t n c : ℕ) (a b r : Bytes) → ((t ∷ a) ++ ((n ∷ b) ++ (c ∷ []))) ++ r ≡ (t ∷ []) ++ (a ++ ((n ∷ []) ++ (b ++ ((c ∷ []) ++ r))))
  pieces t n c a b r = simp append_assoc

  in_pieces : drop i s ≡ (rule_tag (rule_of p) ∷ []) ++ (carried (rule_of p) ++ after-own)
  in_pieces =
      at-bytes proofs-spelt s i p w ∙ pieces (rule_tag (rule_of p)) (length (linear_of p)) counted (carried (rule_of p)) (joined encode_formula (linear_of p)) behind

  pub rule-inside : i < length s
  rule-inside = at-inside proofs-spelt s i p w

  pub rule-tag : get_or s i 0 ≡ rule_tag (rule_of p)
  rule-tag = head_byte s _ i (rule_tag (rule_of p)) in_pieces

  own-bytes : drop (i + 1) s ≡ carried (rule_of p) ++ after-own
  own-bytes = drop_app (rule_tag (rule_of p) ∷ []) _ s i (i + 1) in_pieces refl

  pub own-fits : i + 1 + length (carried (rule_of p)) < length s
  own-fits =
      let a : length s - (i + 1) ≡ length (carried (rule_of p)) + length after-own = long s (carried (rule_of p)) after-own (i + 1) own-bytes in
      omega (arith, rule-inside)

  -- the formula of a Cut
  pub cut-formula : (f : Formula) → rule_of p ≡ cut f → FormulaAt s (i + 1) f
  cut-formula f e = record { rest = after-own; bytes = own-bytes ∙ ap (λ (x : Rule). carried x ++ after-own) e }

  module _ (q : ℕ) (eq : q ≡ i + 1 + length (carried (rule_of p))) where
    linear-bytes : drop q s ≡ after-own
    linear-bytes = drop_app (carried (rule_of p)) _ s (i + 1) q own-bytes eq

    pub linear-many : get_or s q 0 ≡ length (linear_of p)
    linear-many = head_byte s _ q (length (linear_of p)) linear-bytes

    pub linear-inside : q < length s
    linear-inside = omega (arith, own-fits)

    formulas-bytes : drop (q + 1) s ≡ joined encode_formula (linear_of p) ++ ((counted ∷ []) ++ behind)
    formulas-bytes = drop_app (length (linear_of p) ∷ []) _ s q (q + 1) linear-bytes refl

    pub formulas-here : (n : ℕ) → n ≡ length (linear_of p) → FormulasAt s (q + 1) n (linear_of p)
    formulas-here n en = record { many = sym en; rest = (counted ∷ []) ++ behind; bytes = formulas-bytes }

    module _ (m : ℕ) (em : m ≡ q + 1 + formulas_long (linear_of p)) where
      count-bytes : drop m s ≡ (counted ∷ []) ++ behind
      count-bytes = drop_app (joined encode_formula (linear_of p)) _ s (q + 1) m formulas-bytes em

      pub count-here : get_or s m 0 ≡ counted
      count-here = head_byte s _ m counted count-bytes

      pub count-inside : m < length s
      count-inside = omega (arith, long s (counted ∷ []) behind m count-bytes)

      pub first-here : m + 1 ≡ i + length (proof_head p)
      first-here =
          let a = length-append (carried (rule_of p)) ((length (linear_of p) ∷ joined encode_formula (linear_of p)) ++ (counted ∷ [])) in
          let b = length-append (joined encode_formula (linear_of p)) (counted ∷ []) in
          omega arith

-- ---- what a look at a rule tells

abbrev pub Here : Bytes → ℕ → Type 0
Here s i = (p : Proof) × ProofAt s i p

-- what `past_own` ensures
abbrev pub OwnIs : Bytes → ℕ → ℕ → Type 0
OwnIs s i q = (p : Proof) → ProofAt s i p → q ≡ i + 1 + length (carried (rule_of p))

module _ (s : Bytes) (i : ℕ) where
  pub here-inside : Here s i → i < length s
  here-inside (p, w) = rule-inside s i p w

  -- by the tag
  some-cut : get_or s i 0 ≡ 2 → (p : Proof) → ProofAt s i p → (f : Formula) × (rule_of p ≡ cut f)
  some-cut e p w = cut-tagged (rule_of p) (sym (rule-tag s i p w) ∙ e)

  pub formula-some : get_or s i 0 ≡ 2 → Here s i → Some encode_formula s (i + 1) 1
  formula-some e (p, w) = let (f, g) = some-cut e p w in some_alone encode_formula s (i + 1) (f, cut-formula s i p w f g)

  pub formula-past : get_or s i 0 ≡ 2 → (q : ℕ) → SkipIs encode_formula s (i + 1) 1 q → OwnIs s i q
  formula-past e q h p w =
      let (f, g) = some-cut e p w in
      let a : q ≡ i + 1 + length (encode_formula f) = skip-one encode_formula s (i + 1) q h f (cut-formula s i p w f g) in
      a ∙ ap (λ (x : Rule). i + 1 + length (carried x)) (sym g)

  pub index-past : {P : Type 0} → (get_or s i 0 ≡ 16) ⊎ (P × (get_or s i 0 ≡ 17)) → OwnIs s i (i + 1 + 2)
  index-past (inl e) p w = omega (arith, focus-tagged (rule_of p) (inl (sym (rule-tag s i p w) ∙ e)))
  index-past (inr e) p w = omega (arith, focus-tagged (rule_of p) (inr (sym (rule-tag s i p w) ∙ e.1)))

  pub nothing-past : (get_or s i 0 ≡ 2 → ⊥) → (get_or s i 0 ≡ 16 → ⊥) → (get_or s i 0 ≡ 17 → ⊥) → OwnIs s i (i + 1)
  nothing-past c f n p w =
      let t = rule-tag s i p w in
      omega (arith, plain-tagged (rule_of p) (λ e. c (t ∙ e)) (λ e. f (t ∙ e)) (λ e. n (t ∙ e)))

  pub own_room : (q : ℕ) → OwnIs s i q → Here s i → q < length s
  own_room q f (p, w) = omega (arith, f p w, own-fits s i p w)

  module _ (q : ℕ) (f : OwnIs s i q) where
    pub linear-some : Here s i → Some encode_formula s (q + 1) (get_or s q 0)
    linear-some (p, w) = (linear_of p, formulas-here s i p w q (f p w) (get_or s q 0) (linear-many s i p w q (f p w)))

    module _ (m : ℕ) (g : SkipIs encode_formula s (q + 1) (get_or s q 0) m) where
      past-linear : (p : Proof) → ProofAt s i p → m ≡ q + 1 + formulas_long (linear_of p)
      past-linear p w = g (linear_of p) (formulas-here s i p w q (f p w) (get_or s q 0) (linear-many s i p w q (f p w)))

      pub count_room : Here s i → m < length s
      count_room (p, w) = count-inside s i p w q (f p w) m (past-linear p w)

      pub sees : (p : Proof) → ProofAt s i p → Sees i p (record { tag = get_or s i 0; linear = q; premises = get_or s m 0; first = m + 1 })
      sees p w =
          record {
            tag = rule-tag s i p w;
            linear = f p w;
            premises = count-here s i p w q (f p w) m (past-linear p w);
            first = first-here s i p w q (f p w) m (past-linear p w);
          }

  -- as a turn of a loop takes it
  pub tells : {r : Looked} → ((p : Proof) → ProofAt s i p → Sees i p r) → (p : Proof) → ProofAt s i p → (r.first ≡ i + length (proof_head p)) × (r.premises ≡ length (premises_of p))
  tells g p w = let a = g p w in (a.first, a.premises)
