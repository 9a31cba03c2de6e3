-- The reader of proofs (rules, Reading.antt) in the stages in which the code has it.
-- Assumes nothing: these are definitions.
use Rattle.rules.specs.declared.Reason.TheVariants.{NotListed}
use Rattle.std.specs.Prelude.{ℕ, ◌+◌, ◌*◌, List}
use Rattle.rules.specs.Basic.{◌≤?◌}
use Rattle.rules.specs.Limits.{Limits}
use Rattle.rules.specs.Layout.{head_by_tag}
use Rattle.rules.specs.Formula.{Formula, formulas}
use Rattle.rules.specs.Proof.{Rule, RuleHead, rule_heads}
use Rattle.rules.specs.Reading.{Reader, Met, ◌>>=◌, pure, many, byte, byte_for, tag, node, counting_rules, counting_formulas, rule_of}

abbrev pub formula_of : Limits → Reader Met Formula
formula_of L = counting_formulas (node formulas L.formulas L.formulas)

-- formulas in a row
unfoldable pub row_of : Limits → ℕ → Reader Met (List Formula)
row_of L n = many (formula_of L) n

-- two bytes, low byte first
unfoldable pub index_of : Reader Met ℕ
index_of = do
  low ← byte
  high ← byte
  pure (low + 256 * high)

abbrev pub tag_of : Limits → Reader Met RuleHead
tag_of L = counting_rules (tag L.rules (head_by_tag rule_heads))

-- a rule's tag, and what it carries
unfoldable pub own_of : Limits → Reader Met Rule
own_of L = do
  h ← tag_of L
  rule_of (formula_of L) h

unfoldable pub linear_of : Limits → Reader Met (List Formula)
linear_of L = do
  n ← byte
  row_of L n

unfoldable pub count_of : Reader Met ℕ
count_of = byte_for (◌≤? 3) NotListed

-- what stands before the premises
pub record Top : Type 0 where
  pub rule : Rule
  pub linear : List Formula
  pub premises : ℕ

unfoldable pub top_of : Limits → Reader Met Top
top_of L = do
  r ← own_of L
  l ← linear_of L
  n ← count_of
  pure (record { rule = r; linear = l; premises = n })
