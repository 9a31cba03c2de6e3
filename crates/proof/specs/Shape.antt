-- A formula and a proof as a head and a row of parts: what a walk sees. Assumes nothing: these are definitions.
use Rattle.std.specs.Prelude.{ℕ, ◌+◌, ◌≡◌, List, [], ◌∷◌, length}
use Rattle.rules.specs.Basic.{Bytes, ◌‥◌}
use Rattle.rules.specs.Name.{encode_name}
use Rattle.rules.specs.Formula.{Formula, atom, constant, exponential, connective, tag_of_sign, constant_tag, exponential_tag, connective_tag, encode_formula}
use Rattle.rules.specs.Proof.{Proof, proof, Premises, done, ◌then◌, Rule}
use Rattle.laws.specs.reading.Lists.{joined}
use Rattle.laws.specs.reading.WrittenProof.{tag_of_rule, head_of, carried}
use Rattle.term.specs.Node.{packed}
use Rattle.term.specs.declared.node.Row.{Row}
use Rattle.proof.specs.declared.rule.Looked.{Looked}

abbrev pub formula_tag : Formula → ℕ
formula_tag (atom k x) = tag_of_sign k
formula_tag (constant k) = constant_tag k
formula_tag (exponential k a) = exponential_tag k
formula_tag (connective k a b) = connective_tag k

abbrev pub formula_head : Formula → Bytes
formula_head (atom k x) = tag_of_sign k ∷ encode_name x
formula_head (constant k) = constant_tag k ∷ []
formula_head (exponential k a) = exponential_tag k ∷ []
formula_head (connective k a b) = connective_tag k ∷ []

abbrev pub formula_parts : Formula → List Formula
formula_parts (atom k x) = []
formula_parts (constant k) = []
formula_parts (exponential k a) = a ∷ []
formula_parts (connective k a b) = a ∷ b ∷ []

-- how many parts follow a formula's tag, two bits a tag
abbrev pub parts_after : ℕ → ℕ
parts_after k = packed 155353728 k

-- a look at the formula f at `at`
pub record Spread (at : ℕ) (f : Formula) (r : Row) : Type 0 where
  pub start : r.start ≡ at + length (formula_head f)
  pub parts : r.parts ≡ length (formula_parts f)

abbrev pub rule_of : Proof → Rule
rule_of (proof r l ps) = r

abbrev pub linear_of : Proof → List Formula
linear_of (proof r l ps) = l

abbrev pub listed : Premises → List Proof
listed done = []
listed (p then ps) = p ∷ listed ps

abbrev pub premises_of : Proof → List Proof
premises_of (proof r l ps) = listed ps

abbrev pub rule_tag : Rule → ℕ
rule_tag r = tag_of_rule (head_of r)

-- all that stands before the premises
abbrev pub proof_head : Proof → Bytes
proof_head p = (rule_tag (rule_of p) ∷ carried (rule_of p)) ‥ (length (linear_of p) ∷ joined encode_formula (linear_of p)) ‥ length (premises_of p) ∷ []

-- a look at the rule of the proof p at `at`
pub record Sees (at : ℕ) (p : Proof) (r : Looked) : Type 0 where
  pub tag : r.tag ≡ rule_tag (rule_of p)
  pub linear : r.linear ≡ at + 1 + length (carried (rule_of p))
  pub premises : r.premises ≡ length (premises_of p)
  pub first : r.first ≡ at + length (proof_head p)
