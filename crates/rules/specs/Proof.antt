-- Proofs: a rule, the formulas of `linear`, the premises; and the rules' tags, 1 to 18 in the order of `Rule`.
-- Assumes nothing: these are definitions.
use Rattle.std.specs.Prelude.{ℕ, suc, ◌+◌, List, [], ◌∷◌, length}
use Rattle.rules.specs.Basic.{Bytes, ◌‥◌, low-high}
use Rattle.rules.specs.Formula.{Formula, encode_formula, formula_nodes}

-- the rules that carry nothing
pub data Plain : Type 0 where
  Axiom OneIntro BottomIntro TensorIntro ParIntro TopIntro WithIntro PlusIntroLeft PlusIntroRight OfCourseIntro WhyNotIntro Weakening Contraction Dereliction Blur : Plain

pub data Focus : Type 0 where
  FocusPositive FocusNegative : Focus

-- Cut has a formula, either Focus an index.
pub data Rule : Type 0 where
  plain : Plain → Rule
  cut : Formula → Rule
  focus : Focus → ℕ → Rule

mutual
  pub data Proof : Type 0 where
    proof : Rule → (linear : List Formula) → Premises → Proof

  pub data Premises : Type 0 where
    done : Premises
    ◌then◌ : Proof → Premises → Premises

infixr 50 ◌then◌
abbrev pub row : List Proof → Premises
row [] = done
row (p ∷ ps) = p then row ps

-- a rule without its formula or index
pub data RuleHead : Type 0 where
  a_plain : Plain → RuleHead
  a_cut : RuleHead
  a_focus : Focus → RuleHead

-- in the order of their tags, the first at tag 1
abbrev pub rule_heads : List RuleHead
rule_heads =
    a_plain Axiom ∷ a_cut ∷ a_plain OneIntro ∷ a_plain BottomIntro ∷ a_plain TensorIntro ∷ a_plain ParIntro ∷ a_plain TopIntro ∷ a_plain WithIntro ∷ a_plain PlusIntroLeft
    ∷ a_plain PlusIntroRight ∷ a_plain OfCourseIntro ∷ a_plain WhyNotIntro ∷ a_plain Weakening ∷ a_plain Contraction ∷ a_plain Dereliction
    ∷ a_focus FocusPositive ∷ a_focus FocusNegative ∷ a_plain Blur ∷ []

abbrev pub plain_tag : Plain → ℕ
plain_tag Axiom = 1
plain_tag OneIntro = 3
plain_tag BottomIntro = 4
plain_tag TensorIntro = 5
plain_tag ParIntro = 6
plain_tag TopIntro = 7
plain_tag WithIntro = 8
plain_tag PlusIntroLeft = 9
plain_tag PlusIntroRight = 10
plain_tag OfCourseIntro = 11
plain_tag WhyNotIntro = 12
plain_tag Weakening = 13
plain_tag Contraction = 14
plain_tag Dereliction = 15
plain_tag Blur = 18

abbrev pub focus_tag : Focus → ℕ
focus_tag FocusPositive = 16
focus_tag FocusNegative = 17

-- rule tag; for Cut a formula, for either Focus a two-byte index, low byte first
unfoldable pub encode_rule : Rule → Bytes
encode_rule (plain k) = plain_tag k ∷ []
encode_rule (cut a) = 2 ∷ encode_formula a
encode_rule (focus k n) = focus_tag k ∷ low-high n

unfoldable pub encode_formulas : List Formula → Bytes
encode_formulas [] = []
encode_formulas (a ∷ as') = encode_formula a ‥ encode_formulas as'

abbrev pub premise_count : Premises → ℕ
premise_count done = 0
premise_count (p then ps) = suc (premise_count ps)

-- the rule; a byte counting the formulas of `linear`, the formulas; a byte counting premises, the premises
unfoldable mutual
  pub encode_proof : Proof → Bytes
  encode_proof (proof r l ps) = encode_rule r ‥ (length l ∷ encode_formulas l) ‥ premise_count ps ∷ encode_premises ps

  pub encode_premises : Premises → Bytes
  encode_premises done = []
  encode_premises (p then ps) = encode_proof p ‥ encode_premises ps

-- how many rules and formula nodes a proof has
unfoldable mutual
  pub rules : Proof → ℕ
  rules (proof r l ps) = suc (rules_in ps)

  pub rules_in : Premises → ℕ
  rules_in done = 0
  rules_in (p then ps) = rules p + rules_in ps

abbrev pub rule_formula_nodes : Rule → ℕ
rule_formula_nodes (plain k) = 0
rule_formula_nodes (cut a) = formula_nodes a
rule_formula_nodes (focus k n) = 0

abbrev pub list_nodes : List Formula → ℕ
list_nodes [] = 0
list_nodes (a ∷ as') = formula_nodes a + list_nodes as'

unfoldable mutual
  pub proof_formula_nodes : Proof → ℕ
  proof_formula_nodes (proof r l ps) = rule_formula_nodes r + (list_nodes l + premises_formula_nodes ps)

  pub premises_formula_nodes : Premises → ℕ
  premises_formula_nodes done = 0
  premises_formula_nodes (p then ps) = proof_formula_nodes p + premises_formula_nodes ps
