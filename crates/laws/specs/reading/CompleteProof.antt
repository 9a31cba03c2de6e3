-- Completeness of the reader of proofs: where a legal proof is written, and there are few enough rules and formula nodes, it is read; by induction on the proof.
-- Assumes nothing.
use Rattle.std.specs.Prelude.{ℕ, zero, suc, ◌+◌, ◌*◌, ◌/◌, ◌%◌, ◌<◌, ◌≤◌, ◌≡◌, refl}
use native.Mathlib.Omega.{arith}
use Rattle.std.proofs.Common.{ap}
use mathlib.Core.List.{List, [], ◌∷◌, ◌++◌, append_assoc}
use Rattle.std.proofs.Math.ListN.{length, length-append}
use borrow.Author.Tests.{lt-ltb, le-leb}
use Rattle.rules.specs.Basic.{Bytes}
use Rattle.rules.specs.Limits.{Limits}
use Rattle.rules.specs.Layout.{head_by_tag}
use Rattle.rules.specs.Formula.{Formula, formulas, encode_formula, formula_nodes}
use Rattle.rules.specs.Proof.{Proof, proof, Premises, done, ◌then◌, row, premise_count, Rule, plain, cut, focus, RuleHead, rule_heads, encode_proof, rules, rule_formula_nodes, proof_formula_nodes}
use Rattle.rules.specs.Legal.{LegalFormula, LegalFormulas, LegalRule, LegalProof, LegalPremises}
use Rattle.rules.specs.Reading.{got, Reader, Met, counting_rules, counting_formulas, many, byte, byte_for, tag, node, rule_of, proof_at}
use Rattle.laws.specs.reading.Lists.{joined, total, EachOf}
use Rattle.laws.specs.reading.WrittenFormula.{written-formulas}
use Rattle.laws.specs.reading.WrittenProof.{tag_of_rule, head_at, head_of, carried, chain, chain_length, chain-rules, chain-nodes}
use Rattle.laws.specs.reading.Complete.{node-found}

abbrev counts : (rules formulas : ℕ) → Met
counts k f = record { rules = k; formulas = f }

-- so many more were met
abbrev counted : Met → ℕ → ℕ → Met
counted u k f = counts (u.rules + k) (u.formulas + f)

same-counts : (k f k' f' : ℕ) → k ≡ k' → f ≡ f' → counts k f ≡ counts k' f'
same-counts k f k' f' a b = cc

met-got : {A : Type 0} (x : A) (v w : Met) (p q : ℕ) (r : Bytes) → v.rules ≡ w.rules → v.formulas ≡ w.formulas → p ≡ q → got x v p r ≡ got x w q r
met-got x v w p q r a b c = let e : v ≡ w = same-counts v.rules v.formulas w.rules w.formulas a b in cc

-- premises as a list
abbrev listed : Premises → List Proof
listed done = []
listed (p then ps) = p ∷ listed ps

row_listed : (ps : Premises) → row (listed ps) ≡ ps
row_listed done = refl
row_listed (p then ps) = ap (λ qs. p then qs) (row_listed ps)

listed-length : (ps : Premises) → length (listed ps) ≡ premise_count ps
listed-length done = refl
listed-length (p then ps) = ap suc (listed-length ps)

module _ (L : Limits) where
  -- m reads x wherever x is written, if there is room for its rules and formula nodes
  abbrev pub Reads : {A : Type 0} → (A → Bytes) → (rule_count node_count : A → ℕ) → Reader Met A → A → Type 0
  Reads enc rule_count node_count m x = (u : Met) (at : ℕ) (r : Bytes) → u.rules + rule_count x ≤ L.rules → u.formulas + node_count x ≤ L.formulas
      → m u at (enc x ++ r) ≡ got x (counted u (rule_count x) (node_count x)) (at + length (enc x)) r

  module _ {A : Type 0} (enc : A → Bytes) (rule_count node_count : A → ℕ) (m : Reader Met A) where
    many-found : (xs : List A) → EachOf (Reads enc rule_count node_count m) xs → Reads (joined enc) (total rule_count) (total node_count) (many m (length xs)) xs
    unfolding many
    many-found [] f u at r h k = met-got [] _ _ _ _ r (omega arith) (omega arith) (omega arith)
    many-found (x ∷ xs) f u at r h k =
        rw (
          append_assoc (enc x) (joined enc xs) r,
          f.0 u at (joined enc xs ++ r) (omega arith) (omega arith),
          many-found xs f.1 (counted u (rule_count x) (node_count x)) (at + length (enc x)) r (omega arith) (omega arith),
        )
        (met-got (x ∷ xs) _ _ _ _ r (omega arith) (omega arith) (omega (arith, length-append (enc x) (joined enc xs))))

  abbrev part : Reader Met Formula
  part = counting_formulas (node formulas L.formulas L.formulas)

  abbrev none_of : {A : Type 0} → A → ℕ
  none_of x = 0

  part-found : (f : Formula) → LegalFormula f → Reads encode_formula none_of formula_nodes part f
  part-found f l u at r h k =
      rw (node-found formulas encode_formula formula_nodes LegalFormula written-formulas L.formulas f l L.formulas (omega arith) u.formulas at r k)
      (met-got f _ _ _ _ r (omega arith) refl refl)

  parts-found : (fs : List Formula) → LegalFormulas fs → EachOf (Reads encode_formula none_of formula_nodes part) fs
  parts-found [] l = tt
  parts-found (f ∷ fs) l = (part-found f l.0, parts-found fs l.1)

  rule_found : (x : Rule) → LegalRule x → Reads carried none_of rule_formula_nodes (rule_of part (head_of x)) x
  unfolding byte
  rule_found (plain k) l u at r h i = met-got (plain k) _ _ _ _ r (omega arith) (omega arith) (omega arith)
  rule_found (cut f) l u at r h i = rw (part-found f l u at r h i)
  rule_found (focus k n) l u at r h i =
      let e : n % 256 + 256 * (n / 256) ≡ n = omega arith in
      rw e (met-got (focus k n) _ _ _ _ r (omega arith) (omega arith) (omega arith))

  tag-found : (h : RuleHead) (u : Met) (at : ℕ) (r : Bytes) → u.rules < L.rules
      → counting_rules (tag L.rules (head_by_tag rule_heads)) u at (tag_of_rule h ∷ r) ≡ got h (counts (u.rules + 1) u.formulas) (at + 1) r
  unfolding tag byte
  tag-found h u at r l = rw (lt-ltb u.rules L.rules l, head_at h)

  abbrev ReadsProof : ℕ → Proof → Type 0
  ReadsProof depth p = Reads encode_proof rules proof_formula_nodes (proof_at L depth) p

  none-total : {A : Type 0} (xs : List A) → total none_of xs ≡ 0
  none-total [] = refl
  none-total (x ∷ xs) = omega (arith, none-total xs)

  module _ (x : Rule) (l : List Formula) (ps : List Proof) where
    build-found : (depth : ℕ) → LegalRule x → LegalFormulas l → length ps ≤ 3 → EachOf (ReadsProof depth) ps → ReadsProof (suc depth) (proof x l (row ps))
    unfolding proof_at byte_for byte
    build-found depth a b c f u at r h k =
        let us : rules (proof x l (row ps)) ≡ 1 + total rules ps = chain-rules x l ps in
        let ns : proof_formula_nodes (proof x l (row ps)) ≡ rule_formula_nodes x + (total formula_nodes l + total proof_formula_nodes ps) = chain-nodes x l ps in
        let no-rules : total none_of l ≡ 0 = none-total l in
        let u1 = counts (u.rules + 1) u.formulas in
        let u2 = counted u1 0 (rule_formula_nodes x) in
        let u3 = counted u2 (total none_of l) (total formula_nodes l) in
        let p2 = at + 1 + length (carried x) in
        let p3 = p2 + 1 + length (joined encode_formula l) in
        let r3 = length ps ∷ (joined encode_proof ps ++ r) in
        rw (
          chain x l ps r,
          tag-found (head_of x) u at (carried x ++ (length l ∷ (joined encode_formula l ++ r3))) (omega arith),
          rule_found x a u1 (at + 1) (length l ∷ (joined encode_formula l ++ r3)) (omega arith) (omega arith),
          many-found encode_formula none_of formula_nodes part l (parts-found l b) u2 (p2 + 1) r3 (omega arith) (omega arith),
          le-leb (length ps) 3 c,
          many-found encode_proof rules proof_formula_nodes (proof_at L depth) ps f u3 (p3 + 1) r (omega arith) (omega arith),
        )
        (met-got (proof x l (row ps)) _ _ _ _ r (omega arith) (omega arith) (omega (arith, chain_length x l ps)))

  -- read at any depth that is not too small
  abbrev Deep : Proof → Type 0
  Deep p = (depth : ℕ) → rules p ≤ depth → ReadsProof depth p

  all-deep : (depth : ℕ) (ps : List Proof) → total rules ps ≤ depth → EachOf Deep ps → EachOf (ReadsProof depth) ps
  all-deep depth [] h d = tt
  all-deep depth (p ∷ ps) h d = (d.0 depth (omega arith), all-deep depth ps (omega arith) d.1)

  build-deep : (x : Rule) (l : List Formula) (ps : List Proof) → LegalRule x → LegalFormulas l → length ps ≤ 3 → EachOf Deep ps → Deep (proof x l (row ps))
  build-deep x l ps a b c d zero k = absurd (omega (arith, chain-rules x l ps))
  build-deep x l ps a b c d (suc depth) k = build-found x l ps depth a b c (all-deep depth ps (omega (arith, chain-rules x l ps)) d)

  mutual
    unfolding LegalProof

    pub proof-found : (p : Proof) → LegalProof p → Deep p
    proof-found (proof x l ps) k =
        rw (← row_listed ps) (build-deep x l (listed ps) k.0 k.1 (omega (arith, listed-length ps, k.4)) (premises-found ps k.2))

    premises-found : (ps : Premises) → LegalPremises ps → EachOf Deep (listed ps)
    premises-found done k = tt
    premises-found (p then ps) k = (proof-found p k.0, premises-found ps k.1)
