-- A reading is refused by 2 to 7 or 15, which spare the scratch: by one walk through the ways in which readings are put together.
-- Assumes nothing.
use Prim.Native.Nat.{ℕ, zero, suc, ◌-◌}
use Rattle.std.specs.Prelude.{◌≡◌, Bool, true, false, if◌then◌else◌, Ok, Err}
use Rattle.std.proofs.Math.Path.{refl}
use mathlib.Core.List.{[], ◌∷◌}
use Rattle.std.proofs.Math.Option.{Option, none, some}
use Rattle.std.proofs.Common.{arith}
use Rattle.std.proofs.Math.ListN.{length}
use Rattle.rules.specs.Basic.{Bytes, ◌<?◌, ◌≤?◌, between}
use Rattle.rules.specs.Limits.{Limits}
use Rattle.rules.specs.declared.Refusal.{Refusal}
use Rattle.rules.specs.Refusal.{Outcome, spares_scratch}
use Rattle.rules.specs.declared.Reason.{Reason}
use Rattle.rules.specs.declared.Reason.TheVariants.{NotListed, BadName, ReservedWord}
use Rattle.rules.specs.Name.{name_most, leads, follows, Spelling, name_spelling}
use Rattle.rules.specs.Layout.{Layout, head_by_tag}
use Rattle.rules.specs.Formula.{Formula, formulas}
use Rattle.rules.specs.Term.{terms}
use Rattle.rules.specs.Proof.{Proof, RuleHead, a_plain, a_cut, a_focus, rule_heads}
use Rattle.rules.specs.Reading.{Got, got, bad, Reader, and_then, only, times, many, byte, byte_for, room, letters, spelled, name, tag, listed, too_many, node, Met, rule_got, formula_got, counting_rules, counting_formulas, rule_of, proof_at, ended, whole, read_term, read_formula, read_proof, read_name}

-- a fault's number is one that spares the scratch
abbrev Spares : {S A : Type 0} → Got S A → Type 0
Spares (got x u p r) = Unit {0}
Spares (bad n p) = spares_scratch n ≡ true

abbrev Sparing : {S A : Type 0} → Reader S A → Type 0
Sparing {S = S} {A} m = (u : S) (at : ℕ) (r : Bytes) → Spares (m u at r)

module _ {S : Type 0} where
  spares_then : {A B : Type 0} (g : Got S A) (k : A → Reader S B) → Spares g → ((x : A) → Sparing (k x)) → Spares (and_then g k)
  spares_then (got x u p r) k h f = f x u p r
  spares_then (bad n p) k h f = h

  spares-choice : {A : Type 0} (b : Bool) (x y : Got S A) → Spares x → Spares y → Spares (if b then x else y)
  spares-choice true x y h k = h
  spares-choice false x y h k = k

  spares-byte : Sparing {S = S} byte
  unfolding byte
  spares-byte u at [] = refl
  spares-byte u at (b ∷ r) = tt

  spares-only : {A : Type 0} (ok : A → Bool) (n : Reason) (m : Reader S A) → spares_scratch n ≡ true → Sparing m → Sparing (only ok n m)
  spares-only ok n m h k u at r = spares_then (m u at r) _ (k u at r) (λ x u' p r'. spares-choice (ok x) _ _ tt h)

  spares-byte_for : (ok : ℕ → Bool) (n : Reason) → spares_scratch n ≡ true → Sparing {S = S} (byte_for ok n)
  unfolding byte_for
  spares-byte_for ok n h = spares-only ok n byte h spares-byte

  spares-room : (n : ℕ) → Sparing {S = S} (room n)
  unfolding room
  spares-room n u at r = spares-choice (n ≤? length r) _ _ tt refl

  spares-times : {A : Type 0} (m : Reader S A) → Sparing m → (n : ℕ) → Sparing (times m n)
  unfolding times
  spares-times m h zero u at r = tt
  spares-times m h (suc n) u at r = spares_then (m u at r) _ (h u at r) (λ x u' p r'. spares_then (times m n u' p r') _ (spares-times m h n u' p r') (λ xs v q r''. tt))

  spares-many : {A : Type 0} (m : Reader S A) → Sparing m → (n : ℕ) → Sparing (many m n)
  unfolding many
  spares-many m h zero u at r = tt
  spares-many m h (suc n) u at r = spares_then (m u at r) _ (h u at r) (λ x u' p r'. spares_then (many m n u' p r') _ (spares-many m h n u' p r') (λ xs v q r''. tt))

  spares-letters : (n : ℕ) → Sparing {S = S} (letters n)
  unfolding letters
  spares-letters n u at r =
      spares_then (byte_for leads BadName u at r) _ (spares-byte_for leads BadName refl u at r) (λ b u' p r'.
      spares_then (many (byte_for follows BadName) (n - 1) u' p r') _ (spares-many (byte_for follows BadName) (spares-byte_for follows BadName refl) (n - 1) u' p r') (λ bs v q r''. tt))

  spares-spelled : (P : Spelling) (n : ℕ) → Sparing {S = S} (spelled P n)
  unfolding spelled
  spares-spelled P n = spares-only P.allowed ReservedWord (letters n) refl (spares-letters n)

  spares-name : (P : Spelling) → Sparing {S = S} (name P)
  unfolding name
  spares-name P u at r =
      spares_then (byte_for (between 1 P.longest) BadName u at r) _ (spares-byte_for (between 1 P.longest) BadName refl u at r) (λ n u' p r'.
      spares_then (room n u' p r') _ (spares-room n u' p r') (λ _. spares-spelled P n))

spares-listed : {H : Type 0} (u at p : ℕ) (r : Bytes) (o : Option H) → Spares (listed u at p r o)
spares-listed u at p r none = refl
spares-listed u at p r (some h) = tt

spares-tag : {H : Type 0} (most : ℕ) (heads : ℕ → Option H) → Sparing (tag most heads)
unfolding tag
spares-tag most heads u at r = spares_then (byte u at r) _ (spares-byte u at r) (λ k u' p r'. spares-choice (u <? most) _ _ (spares-listed u at p r' (heads k)) refl)

spares-too_many : (A : Type 0) → Sparing (too_many {A = A})
unfolding too_many
spares-too_many A u at r = spares_then (byte u at r) _ (spares-byte u at r) (λ k u' p r'. refl)

spares-node : {H A : Type 0} (F : Layout H A) (most depth : ℕ) → Sparing (node F most depth)
unfolding node
spares-node {H} {A} F most zero u at r = spares-too_many A u at r
spares-node {H} {A} F most (suc depth) u at r =
    spares_then (tag most (head_by_tag F.heads) u at r) _ (spares-tag most (head_by_tag F.heads) u at r) (λ h u' p r'.
    spares_then (times (name F.spelling) (F.names h) u' p r') _ (spares-times (name F.spelling) (spares-name F.spelling) (F.names h) u' p r') (λ xs v q r''.
    spares_then (times (node F most depth) (F.parts h) v q r'') _ (spares-times (node F most depth) (spares-node F most depth) (F.parts h) v q r'') (λ ts w s r'''. tt)))

-- In a proof rules and formula nodes are counted apart.
spares-rules : {A : Type 0} (m : Reader ℕ A) → Sparing m → Sparing (counting_rules m)
spares-rules {A} m h u at r = go (m u.rules at r) (h u.rules at r)
  where
    go : (g : Got ℕ A) → Spares g → Spares (rule_got u.formulas g)
    go (got x v p q) k = tt
    go (bad n p) k = k

spares-formulas : {A : Type 0} (m : Reader ℕ A) → Sparing m → Sparing (counting_formulas m)
spares-formulas {A} m h u at r = go (m u.formulas at r) (h u.formulas at r)
  where
    go : (g : Got ℕ A) → Spares g → Spares (formula_got u.rules g)
    go (got x v p q) k = tt
    go (bad n p) k = k

spares-rule : (part : Reader Met Formula) → Sparing part → (h : RuleHead) → Sparing (rule_of part h)
spares-rule part l (a_plain k) u at r = tt
spares-rule part l a_cut u at r = spares_then (part u at r) _ (l u at r) (λ a u' p r'. tt)
spares-rule part l (a_focus k) u at r = spares_then (byte u at r) _ (spares-byte u at r) (λ b u' p r'. spares_then (byte u' p r') _ (spares-byte u' p r') (λ c v q r''. tt))

spares-proof : (L : Limits) (depth : ℕ) → Sparing (proof_at L depth)
unfolding proof_at
spares-proof L zero u at r = spares-rules too_many (spares-too_many Proof) u at r
spares-proof L (suc depth) u at r =
    let part = counting_formulas (node formulas L.formulas L.formulas) in
    let l : Sparing part = spares-formulas (node formulas L.formulas L.formulas) (spares-node formulas L.formulas L.formulas) in
    spares_then (counting_rules (tag L.rules (head_by_tag rule_heads)) u at r) _ (spares-rules (tag L.rules (head_by_tag rule_heads)) (spares-tag L.rules (head_by_tag rule_heads)) u at r) (λ h u₁ p₁ r₁.
    spares_then (rule_of part h u₁ p₁ r₁) _ (spares-rule part l h u₁ p₁ r₁) (λ k u₂ p₂ r₂.
    spares_then (byte u₂ p₂ r₂) _ (spares-byte u₂ p₂ r₂) (λ n u₃ p₃ r₃.
    spares_then (many part n u₃ p₃ r₃) _ (spares-many part l n u₃ p₃ r₃) (λ fs u₄ p₄ r₄.
    spares_then (byte_for (◌≤? 3) NotListed u₄ p₄ r₄) _ (spares-byte_for (◌≤? 3) NotListed refl u₄ p₄ r₄) (λ m u₅ p₅ r₅.
    spares_then (many (proof_at L depth) m u₅ p₅ r₅) _ (spares-many (proof_at L depth) (spares-proof L depth) m u₅ p₅ r₅) (λ ps u₆ p₆ r₆. tt))))))

-- ---- whole inputs

abbrev SparesOutcome : {A : Type 0} → Outcome A → Type 0
SparesOutcome (Ok x) = Unit {0}
SparesOutcome (Err q) = spares_scratch q.reason ≡ true

spares-ended : {S A : Type 0} (i : ℕ) (g : Got S A) → Spares g → SparesOutcome (ended i g)
spares-ended i (got x u at []) h = tt
spares-ended i (got x u at (b ∷ r)) h = refl
spares-ended i (bad n p) h = h

spares-outcome : {A : Type 0} (b : Bool) (x y : Outcome A) → SparesOutcome x → SparesOutcome y → SparesOutcome (if b then x else y)
spares-outcome true x y h k = h
spares-outcome false x y h k = k

spares_whole : {S A : Type 0} (L : Limits) (i : ℕ) (s : Bytes) (m : Reader S A) (u : S) → Sparing m → SparesOutcome (whole L i s m u)
unfolding whole
spares_whole L i s m u h = spares-outcome (L.bytes <? length s) _ _ refl (spares-ended i (m u 0 s) (h u 0 s))

-- Such a refusal leaves the scratch as it was.
spared : {A : Type 0} (o : Outcome A) (q : Refusal) → SparesOutcome o → o ≡ Err q → spares_scratch q.reason ≡ true
spared (Ok x) q h e = absurd (let z : ◌≡◌ {A = ℕ} 0 1 = cc in omega arith)
spared (Err r) q h e = let d : q ≡ r = cc in rw d h

pub term-spares : (L : Limits) (i : ℕ) (s : Bytes) (q : Refusal) → read_term L i s ≡ Err q → spares_scratch q.reason ≡ true
unfolding read_term
term-spares L i s q e = spared (read_term L i s) q (spares_whole L i s (node terms L.nodes L.nodes) 0 (spares-node terms L.nodes L.nodes)) e

pub formula-spares : (L : Limits) (i : ℕ) (s : Bytes) (q : Refusal) → read_formula L i s ≡ Err q → spares_scratch q.reason ≡ true
unfolding read_formula
formula-spares L i s q e = spared (read_formula L i s) q (spares_whole L i s (node formulas L.formulas L.formulas) 0 (spares-node formulas L.formulas L.formulas)) e

pub proof-spares : (L : Limits) (i : ℕ) (s : Bytes) (q : Refusal) → read_proof L i s ≡ Err q → spares_scratch q.reason ≡ true
unfolding read_proof
proof-spares L i s q e = spared (read_proof L i s) q (spares_whole L i s (proof_at L L.rules) _ (spares-proof L L.rules)) e

pub name-spares : (i : ℕ) (s : Bytes) (q : Refusal) → read_name i s ≡ Err q → spares_scratch q.reason ≡ true
unfolding read_name
name-spares i s q e =
    spared (read_name i s) q
    (spares-outcome (between 1 name_most (length s)) _ _ (spares-ended i (spelled name_spelling (length s) (tt {0}) 0 s) (spares-spelled name_spelling (length s) (tt {0}) 0 s)) refl) e
