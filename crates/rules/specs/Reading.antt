-- Reading the three forms: one reading from the left that stops at the first fault (01, "Refusal numbers", "Order").
-- A reader is at a position of the input, with a count of what it has met so far and the bytes that are left.
-- Assumes nothing: these are definitions.
use Rattle.std.specs.Prelude.{ℕ, zero, suc, ◌+◌, ◌-◌, ◌*◌, Bool, List, [], ◌∷◌, length, if◌then◌else◌, Ok}
use Rattle.std.proofs.Math.Option.{Option, none, some}
use Rattle.rules.specs.Basic.{Bytes, ◌<?◌, ◌≤?◌, between}
use Rattle.rules.specs.Limits.{Limits}
use Rattle.rules.specs.Refusal.{Reason, Outcome, refuse}
use Rattle.rules.specs.declared.Reason.TheVariants.{InputTooLong, EndsInside, NotListed, BadName, OneTooMany, LeftOver, ReservedWord}
use Rattle.rules.specs.Name.{Name, leads, follows, name_most, Spelling, name_spelling}
use Rattle.rules.specs.Layout.{Layout, Tuple, head_by_tag}
use Rattle.rules.specs.Formula.{Formula, formulas}
use Rattle.rules.specs.Term.{Term, terms}
use Rattle.rules.specs.Proof.{Proof, proof, row, Rule, plain, cut, focus, RuleHead, a_plain, a_cut, a_focus, rule_heads}

-- What was read, with the count of what was met, the next position and the rest; or a fault, why and where.
pub data Got (S A : Type 0) : Type 0 where
  got : A → S → (next : ℕ) → (rest : Bytes) → Got S A
  bad : Reason → (place : ℕ) → Got S A

abbrev pub Reader : Type 0 → Type 0 → Type 0
Reader S A = (met : S) (at : ℕ) (rest : Bytes) → Got S A

abbrev pub and_then : {S A B : Type 0} → Got S A → (A → Reader S B) → Got S B
and_then (got x u p r) k = k x u p r
and_then (bad n p) k = bad n p

abbrev pub ◌>>=◌ : {S A B : Type 0} → Reader S A → (A → Reader S B) → Reader S B
◌>>=◌ m k u p r = and_then (m u p r) k

abbrev pub pure : {S A : Type 0} → A → Reader S A
pure x u p r = got x u p r

-- n items, one after the other
unfoldable pub times : {S A : Type 0} → Reader S A → (n : ℕ) → Reader S (Tuple A n)
times m zero = pure tt
times m (suc n) = do
  x ← m
  xs ← times m n
  pure (x, xs)

unfoldable pub many : {S A : Type 0} → Reader S A → ℕ → Reader S (List A)
many m zero = pure []
many m (suc n) = do
  x ← m
  xs ← many m n
  pure (x ∷ xs)

-- 3: the input ends inside an item, at its length, which is the position where nothing is left.
unfoldable pub byte : {S : Type 0} → Reader S ℕ
byte u at [] = bad EndsInside at
byte u at (b ∷ r) = got b u (at + 1) r

-- What is allowed of what is read, or else a fault where that begins.
abbrev pub only : {S A : Type 0} → (allowed : A → Bool) → Reason → Reader S A → Reader S A
only ok n m u at r = and_then (m u at r) (λ x u' p r'. if ok x then got x u' p r' else bad n at)

-- 4 for a premise count, 5 in a name
unfoldable pub byte_for : {S : Type 0} → (allowed : ℕ → Bool) → Reason → Reader S ℕ
byte_for ok n = only ok n byte

-- n bytes are there, or else 3.
unfoldable pub room : {S : Type 0} → ℕ → Reader S (Unit {0})
room n u at r = if n ≤? length r then got tt u at r else bad EndsInside (at + length r)

unfoldable pub letters : {S : Type 0} → ℕ → Reader S Name
letters n = do
  b ← byte_for leads BadName
  bs ← many (byte_for follows BadName) (n - 1)
  pure (b ∷ bs)

-- 15: a word, at its first letter.
unfoldable pub spelled : {S : Type 0} → Spelling → ℕ → Reader S Name
spelled P n = only P.allowed ReservedWord (letters n)

-- In a name: 3 for a missing length, 5 for a bad length, 3 for missing bytes, 5 for a bad byte, 15 for a word.
unfoldable pub name : {S : Type 0} → Spelling → Reader S Name
name P = do
  n ← byte_for (between 1 P.longest) BadName
  _ ← room n
  spelled P n

abbrev pub listed : {H : Type 0} → (met at next : ℕ) → Bytes → Option H → Got ℕ H
listed u at p r none = bad NotListed at
listed u at p r (some h) = got h (u + 1) p r

-- At a node the order is 3, 6, 4: a tag is there; it is not one too many; it is listed.
unfoldable pub tag : {H : Type 0} → (most : ℕ) → (ℕ → Option H) → Reader ℕ H
tag most heads u at r = and_then (byte u at r) (λ k u' p r'. if u <? most then listed u at p r' (heads k) else bad OneTooMany at)

-- where no node may follow
unfoldable pub too_many : {A : Type 0} → Reader ℕ A
too_many u at r = and_then (byte u at r) (λ k u' p r'. bad OneTooMany at)

-- A node: its tag, its names, its parts. Nodes nest no deeper than there are, so a depth of `most` is enough.
unfoldable pub node : {H A : Type 0} → Layout H A → (most depth : ℕ) → Reader ℕ A
node F most zero = too_many
node F most (suc depth) = do
  h ← tag most (head_by_tag F.heads)
  xs ← times (name F.spelling) (F.names h)
  ts ← times (node F most depth) (F.parts h)
  pure (F.build h xs ts)

-- In a proof rules and formula nodes are counted apart.
pub record Met : Type 0 where
  pub rules : ℕ
  pub formulas : ℕ

abbrev pub rule_got : {A : Type 0} → (formulas : ℕ) → Got ℕ A → Got Met A
rule_got f (got x u p r) = got x (record { rules = u; formulas = f }) p r
rule_got f (bad n p) = bad n p

abbrev pub formula_got : {A : Type 0} → (rules : ℕ) → Got ℕ A → Got Met A
formula_got k (got x u p r) = got x (record { rules = k; formulas = u }) p r
formula_got k (bad n p) = bad n p

abbrev pub counting_rules : {A : Type 0} → Reader ℕ A → Reader Met A
counting_rules m u at r = rule_got u.formulas (m u.rules at r)

abbrev pub counting_formulas : {A : Type 0} → Reader ℕ A → Reader Met A
counting_formulas m u at r = formula_got u.rules (m u.formulas at r)

-- For Cut a formula, for either Focus a two-byte index, low byte first, any value.
abbrev pub rule_of : Reader Met Formula → RuleHead → Reader Met Rule
rule_of part (a_plain k) = pure (plain k)
rule_of part a_cut = do
  a ← part
  pure (cut a)
rule_of part (a_focus k) = do
  low ← byte
  high ← byte
  pure (focus k (low + 256 * high))

-- A proof: its rule; a byte counting the formulas of `linear`, the formulas; a byte counting premises (0 to 3, else 4), the premises.
unfoldable pub proof_at : Limits → (depth : ℕ) → Reader Met Proof
proof_at L zero = counting_rules too_many
proof_at L (suc depth) = do
  h ← counting_rules (tag L.rules (head_by_tag rule_heads))
  r ← rule_of (counting_formulas (node formulas L.formulas L.formulas)) h
  n ← byte
  linear ← many (counting_formulas (node formulas L.formulas L.formulas)) n
  m ← byte_for (◌≤? 3) NotListed
  ps ← many (proof_at L depth) m
  pure (proof r linear (row ps))

-- 7: bytes left over, at the first of them.
abbrev pub ended : {S A : Type 0} → (input : ℕ) → Got S A → Outcome A
ended i (got x u at []) = Ok x
ended i (got x u at (b ∷ r)) = refuse LeftOver at i
ended i (bad n p) = refuse n p i

-- 2: input over 4,096 bytes; then one reading.
unfoldable pub whole : {S A : Type 0} → Limits → (input : ℕ) → Bytes → Reader S A → S → Outcome A
whole L i s m u = if L.bytes <? length s then refuse InputTooLong L.bytes i else ended i (m u 0 s)

unfoldable pub read_term : Limits → (input : ℕ) → Bytes → Outcome Term
read_term L i s = whole L i s (node terms L.nodes L.nodes) 0

unfoldable pub read_formula : Limits → (input : ℕ) → Bytes → Outcome Formula
read_formula L i s = whole L i s (node formulas L.formulas L.formulas) 0

unfoldable pub read_proof : Limits → (input : ℕ) → Bytes → Outcome Proof
read_proof L i s = whole L i s (proof_at L L.rules) (record { rules = 0; formulas = 0 })

-- A bare name argument has no length byte; empty or over 24 bytes is 5 at 0.
unfoldable pub read_name : (input : ℕ) → Bytes → Outcome Name
read_name i s = if between 1 name_most (length s) then ended i (spelled name_spelling (length s) (tt {0}) 0 s) else refuse BadName 0 i
