-- Rules are written as their heads say: a tag, which is the head's place in the list, and then what the rule carries; and a proof's parts one after the other.
-- Assumes nothing.
use Rattle.std.specs.Prelude.{ℕ, ◌+◌, ◌≡◌, refl, List, [], ◌∷◌, ◌++◌, length}
use Rattle.std.proofs.Common.{arith, ap, ◌∙◌, append_assoc, length-append}
use Rattle.std.proofs.Math.Option.{some}
use Rattle.rules.specs.Basic.{Bytes, low-high}
use Rattle.rules.specs.Layout.{head_by_tag}
use Rattle.rules.specs.Formula.{Formula, encode_formula, formula_nodes}
use Rattle.rules.specs.Proof.{Plain, Axiom, OneIntro, BottomIntro, TensorIntro, ParIntro, TopIntro, WithIntro, PlusIntroLeft, PlusIntroRight, OfCourseIntro, WhyNotIntro, Weakening, Contraction, Dereliction, Blur}
use Rattle.rules.specs.Proof.{FocusPositive, FocusNegative, Rule, plain, cut, focus, RuleHead, a_plain, a_cut, a_focus, rule_heads, plain_tag, focus_tag, encode_rule}
use Rattle.rules.specs.Proof.{Proof, proof, row, premise_count, encode_proof, rules, rule_formula_nodes, proof_formula_nodes}
use Rattle.laws.specs.reading.Written.{placed}
use Rattle.laws.specs.reading.Lists.{joined, total, formulas-joined, formulas-total, premises-joined, premises-count, premises-rules, premises-nodes}

abbrev pub tag_of_rule : RuleHead → ℕ
tag_of_rule (a_plain k) = plain_tag k
tag_of_rule a_cut = 2
tag_of_rule (a_focus k) = focus_tag k

plain_at : (k : Plain) → head_by_tag rule_heads (plain_tag k) ≡ some (a_plain k)
plain_at Axiom = refl
plain_at OneIntro = refl
plain_at BottomIntro = refl
plain_at TensorIntro = refl
plain_at ParIntro = refl
plain_at TopIntro = refl
plain_at WithIntro = refl
plain_at PlusIntroLeft = refl
plain_at PlusIntroRight = refl
plain_at OfCourseIntro = refl
plain_at WhyNotIntro = refl
plain_at Weakening = refl
plain_at Contraction = refl
plain_at Dereliction = refl
plain_at Blur = refl

pub head_at : (h : RuleHead) → head_by_tag rule_heads (tag_of_rule h) ≡ some h
head_at (a_plain k) = plain_at k
head_at a_cut = refl
head_at (a_focus FocusPositive) = refl
head_at (a_focus FocusNegative) = refl

pub tag_at : (k : ℕ) (h : RuleHead) → head_by_tag rule_heads k ≡ some h → k ≡ tag_of_rule h
tag_at = placed tag_of_rule rule_heads (omega arith)

-- a rule's head, and the bytes of what it carries
abbrev pub head_of : Rule → RuleHead
head_of (plain k) = a_plain k
head_of (cut a) = a_cut
head_of (focus k n) = a_focus k

abbrev pub carried : Rule → Bytes
carried (plain k) = []
carried (cut a) = encode_formula a
carried (focus k n) = low-high n

pub rule-bytes : (r : Rule) → encode_rule r ≡ tag_of_rule (head_of r) ∷ carried r
unfolding encode_rule
rule-bytes (plain k) = refl
rule-bytes (cut a) = refl
rule-bytes (focus k n) = refl

-- A proof's parts, its premises as a list.
regroup : (t n m : ℕ) (a b c r : Bytes) → ((t ∷ a) ++ ((n ∷ b) ++ (m ∷ c))) ++ r ≡ t ∷ (a ++ (n ∷ (b ++ (m ∷ (c ++ r)))))
regroup t n m a b c r = ap (λ l. t ∷ l) (append_assoc a (n ∷ (b ++ (m ∷ c))) r ∙ ap (λ l. a ++ (n ∷ l)) (append_assoc b (m ∷ c) r))

three : (t n m : ℕ) (a b c : Bytes) → length ((t ∷ a) ++ ((n ∷ b) ++ (m ∷ c))) ≡ 3 + (length a + (length b + length c))
three t n m a b c = omega (arith, length-append a (n ∷ (b ++ (m ∷ c))), length-append b (m ∷ c))

abbrev pub Chain : Rule → List Formula → List Proof → Bytes → Bytes
Chain x l ps r = tag_of_rule (head_of x) ∷ (carried x ++ (length l ∷ (joined encode_formula l ++ (length ps ∷ (joined encode_proof ps ++ r)))))

module _ (x : Rule) (l : List Formula) (ps : List Proof) where
  pub chain : (r : Bytes) → encode_proof (proof x l (row ps)) ++ r ≡ Chain x l ps r
  unfolding encode_proof
  chain r =
      rw (rule-bytes x, formulas-joined l, premises-count ps, premises-joined ps)
      (regroup (tag_of_rule (head_of x)) (length l) (length ps) (carried x) (joined encode_formula l) (joined encode_proof ps) r)

  pub chain_length : length (encode_proof (proof x l (row ps))) ≡ 3 + (length (carried x) + (length (joined encode_formula l) + length (joined encode_proof ps)))
  unfolding encode_proof
  chain_length =
      rw (rule-bytes x, formulas-joined l, premises-joined ps)
      (three (tag_of_rule (head_of x)) (length l) (premise_count (row ps)) (carried x) (joined encode_formula l) (joined encode_proof ps))

  pub chain-rules : rules (proof x l (row ps)) ≡ 1 + total rules ps
  unfolding rules
  chain-rules = omega (arith, premises-rules ps)

  pub chain-nodes : proof_formula_nodes (proof x l (row ps)) ≡ rule_formula_nodes x + (total formula_nodes l + total proof_formula_nodes ps)
  unfolding proof_formula_nodes
  chain-nodes = omega (arith, formulas-total l, premises-nodes ps)
