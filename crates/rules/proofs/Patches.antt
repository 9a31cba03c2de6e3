-- The patches to try, P1 to P12 of document 01: one table, one statement, computed.
use Rattle.std.specs.Prelude.{Ok, Err}
use Prim.Native.Nat.{ℕ}
use Prim.Native.String.{String}
use mathlib.Core.Path.{◌≡◌, refl}
use mathlib.Core.Bool.{Bool, true, false}
use mathlib.Core.List.{List, [], ◌∷◌, map, foldr}
use lib.ListN.{length}
use Rattle.rules.specs.Basic.{Bytes, say, digits, ◌‥◌}
use Rattle.rules.specs.Limits.{Limits, limits}
use Rattle.rules.specs.Refusal.{Outcome}
use Rattle.rules.specs.Formula.{connective, Tensor}
use Rattle.rules.specs.Term.{Term, var, leaf, one, two, abs, both, branch, pair, app, discard, let_a_pair, copy, fst, abort, nodes, encode, fits}
use Rattle.rules.specs.Proof.{Proof, Axiom, OneIntro}
use Rattle.rules.specs.Text.{leaf_text, one_text}
use Rattle.rules.specs.Substitution.{subst}
use Rattle.rules.specs.Step.{Rule, App, Fst, Stepped, normal, found, step, contract, is_normal_term as is_normal_of}
use Rattle.rules.specs.Reduction.{Counts, zero_counts, plus, Reduced, stopped, outgrew, reduce_from, reduce}
use Rattle.rules.specs.Extraction.{extract_from, extract, oldest, axiom_name}
use Rattle.rules.proofs.Notation.{v, ⟨⟩, ⟨◌﹐◌⟩, ◌·◌, ƛ◌⇒◌, lets◌﹐◌≔◌⨟◌, copies◌⇉◌﹐◌⨟◌, A, A⊥, 𝟏, by◌on◌from◌, cuts◌from◌}

infix 75 ◌∶◌
infix 70 ◌steps_to◌
infix 70 ◌is_normal
infix 70 ◌comes_back_at_limit_0
infix 70 ◌gives◌after◌
infix 70 ◌for◌turns◌into◌
infix 70 ◌has◌nodes
infix 70 ◌extracts◌with_counter◌
-- As the document shows terms: like the printed text, but with brackets round an applied Abs.
abbrev pub bracketed : Term → Bytes → Bytes
bracketed (abs x e) s = say "(" ‥ s ‥ say ")"
bracketed (var x) s = s
bracketed (leaf k) s = s
bracketed (one k e) s = s
bracketed (two k a b) s = s
bracketed (both k x y e b) s = s
bracketed (branch x y e l r) s = s

unfoldable pub shown : Term → Bytes
shown (var x) = x
shown (leaf k) = say (leaf_text k)
shown (one k e) = say (one_text k) ‥ shown e
shown (two pair a b) = say "(" ‥ shown a ‥ say ", " ‥ shown b ‥ say ")"
shown (two app a b) = say "(" ‥ bracketed a (shown a) ‥ say " " ‥ shown b ‥ say ")"
shown (two discard e b) = say "discard in " ‥ shown b
shown (abs x e) = say "λ" ‥ x ‥ say ". " ‥ shown e
shown (both let_a_pair x y e b) = say "let (" ‥ x ‥ say ", " ‥ y ‥ say ") = " ‥ shown e ‥ say " in " ‥ shown b
shown (both copy x y e b) = say "copy " ‥ shown e ‥ say " as (" ‥ x ‥ say ", " ‥ y ‥ say ") in " ‥ shown b
shown (branch x y e l r) = say "case " ‥ shown e ‥ say " of { inl " ‥ x ‥ say " => " ‥ shown l ‥ say " | inr " ‥ y ‥ say " => " ‥ shown r ‥ say " }"

-- What is asked, and what is answered.
pub data Question : Type 0 where
  shown_of : Term → Question
  node_count_of : Term → Question
  step_of : Term → Question
  reduction_of : (limit : ℕ) → Term → Question
  substitution_of : String → Term → Term → Question
  extraction_of : Proof → Question

pub data Answer : Type 0 where
  words : Bytes → Answer
  number : ℕ → Answer
  is_normal_term : Answer
  is : Term → Answer
  reduces : (steps : ℕ) → Counts → Bool → Term → Answer
  extracted : Term → (counter : ℕ) → Answer
  refuses : Answer

abbrev pub step_answer : Stepped → Answer
step_answer normal = is_normal_term
step_answer (found r p h t) = is t

abbrev pub reduce_answer : Reduced → Answer
reduce_answer (stopped n c b t) = reduces n c b t
reduce_answer (outgrew n t) = refuses

abbrev pub extract_answer : Outcome (Term × ℕ) → Answer
extract_answer (Ok r) = extracted r.0 r.1
extract_answer (Err r) = refuses

unfoldable pub answer : Question → Answer
unfolding shown nodes step contract subst reduce_from fits encode extract_from extract oldest axiom_name digits
answer (shown_of t) = words (shown t)
answer (node_count_of t) = number (nodes t)
answer (step_of t) = step_answer (step t)
answer (reduction_of n t) = reduce_answer (reduce limits n t)
answer (substitution_of x u t) = is (subst (say x) u t)
answer (extraction_of p) = extract_answer (extract_from limits 0 p)

-- A patch is what the document shows, and the term; a row is some questions with their answers.
pub record Patch : Type 0 where
  pub text : String
  pub term : Term

abbrev pub ◌∶◌ : String → Term → Patch
s ∶ t = record { text = s; term = t }

abbrev pub Row : Type 0
Row = List (Question × Answer)

abbrev pub reads : Patch → Question × Answer
reads p = (shown_of p.term, words (say p.text))

abbrev pub ◌steps_to◌ : Patch → Patch → Row
p steps_to q = reads p ∷ reads q ∷ (step_of p.term, is q.term) ∷ []

abbrev pub ◌is_normal : Patch → Row
p is_normal = reads p ∷ (step_of p.term, is_normal_term) ∷ []

abbrev pub ◌comes_back_at_limit_0 : Patch → Row
p comes_back_at_limit_0 = reads p ∷ (reduction_of 0 p.term, reduces 0 zero_counts false p.term) ∷ []

-- reduced with limit 1,000: as many steps, by these rules, and no step remains
abbrev pub ◌gives◌after◌ : Patch → Patch → List Rule → Row
p gives q after rs = reads p ∷ reads q ∷ (reduction_of 1000 p.term, reduces (length rs) (foldr plus zero_counts rs) true q.term) ∷ []

abbrev pub ◌for◌turns◌into◌ : Term → String → Patch → Patch → Row
u for x turns p into q = reads p ∷ reads q ∷ (substitution_of x u p.term, is q.term) ∷ []

abbrev pub ◌has◌nodes : Patch → ℕ → Row
p has n nodes = reads p ∷ (node_count_of p.term, number n) ∷ []

abbrev pub ◌extracts◌with_counter◌ : Proof → Patch → ℕ → Row
p extracts q with_counter n = reads q ∷ (extraction_of p, extracted q.term n) ∷ []

abbrev pub table : List Row
table =
    -- P1: y is caught
    "((λx. λy. x) y)" ∶ (ƛ "x" ⇒ ƛ "y" ⇒ v "x") · v "y" steps_to "λy. y" ∶ ƛ "y" ⇒ v "y"
    -- P2: a for x, then b for y in all that results
    ∷ "let (x, y) = (y, ()) in (x y)" ∶ lets "x" ﹐ "y" ≔ ⟨ v "y" ﹐ ⟨⟩ ⟩ ⨟ v "x" · v "y" steps_to "(() ())" ∶ ⟨⟩ · ⟨⟩
    -- P3: Abort is never entered
    ∷ "absurd ((λx. x) ())" ∶ one abort ((ƛ "x" ⇒ v "x") · ⟨⟩) is_normal
    -- P4: Copy the source alone
    ∷ "copy s as (x, y) in ((λz. z) x)" ∶ copies v "s" ⇉ "x" ﹐ "y" ⨟ (ƛ "z" ⇒ v "z") · v "x" is_normal
    -- P5
    ∷ "let (x, y) = p in fst (u, v)" ∶ lets "x" ﹐ "y" ≔ v "p" ⨟ one fst ⟨ v "u" ﹐ v "v" ⟩ steps_to "let (x, y) = p in u" ∶ lets "x" ﹐ "y" ≔ v "p" ⨟ v "u"
    -- P6
    ∷ "fst ((λx. x) (a, b))" ∶ one fst ((ƛ "x" ⇒ v "x") · ⟨ v "a" ﹐ v "b" ⟩) comes_back_at_limit_0
    -- P7: 2 steps: one App, one Fst
    ∷ "fst ((λx. x) (a, b))" ∶ one fst ((ƛ "x" ⇒ v "x") · ⟨ v "a" ﹐ v "b" ⟩) gives "a" ∶ v "a" after (App ∷ Fst ∷ [])
    -- P8
    ∷ ⟨⟩ for "y" turns "λy. y" ∶ ƛ "y" ⇒ v "y" into "λy. y" ∶ ƛ "y" ⇒ v "y"
    -- P9: 9 nodes, then 6, then 3
    ∷ "(((λx. λy. (x y)) a) b)" ∶ (ƛ "x" ⇒ ƛ "y" ⇒ v "x" · v "y") · v "a" · v "b" has 9 nodes
    ∷ "(((λx. λy. (x y)) a) b)" ∶ (ƛ "x" ⇒ ƛ "y" ⇒ v "x" · v "y") · v "a" · v "b" steps_to "((λy. (a y)) b)" ∶ (ƛ "y" ⇒ v "a" · v "y") · v "b"
    ∷ "((λy. (a y)) b)" ∶ (ƛ "y" ⇒ v "a" · v "y") · v "b" has 6 nodes
    ∷ "((λy. (a y)) b)" ∶ (ƛ "y" ⇒ v "a" · v "y") · v "b" steps_to "(a b)" ∶ v "a" · v "b"
    ∷ "(a b)" ∶ v "a" · v "b" has 3 nodes
    -- P10: Cut on Tensor over two OneIntro, counter 0
    ∷ cuts connective Tensor 𝟏 𝟏 from (by OneIntro on [] from [] ∷ by OneIntro on [] from [] ∷ []) extracts "let (x1, x2) = () in ()" ∶ lets "x1" ﹐ "x2" ≔ ⟨⟩ ⨟ ⟨⟩ with_counter 3
    -- P11: the oldest entry
    ∷ cuts A from (by OneIntro on [] from [] ∷ cuts A from (by OneIntro on [] from [] ∷ by Axiom on (A⊥ ∷ A ∷ []) from [] ∷ []) ∷ []) extracts "((a0 ()) ())" ∶ v "a0" · ⟨⟩ · ⟨⟩ with_counter 2
    -- P12: Axiom with One only
    ∷ by Axiom on (𝟏 ∷ []) from [] extracts "λx0. x0" ∶ ƛ "x0" ⇒ v "x0" with_counter 1
    ∷ []

abbrev pub questions : Row
questions = foldr ◌‥◌ [] table

-- Every question of the table has the answer that stands beside it.
pub patches-hold : map (λ q. answer q.0) questions ≡ map (λ q. q.1) questions
unfolding answer
patches-hold = refl

-- P6 of every term, at any limits.
pub limit-0 : (L : Limits) (t : Term) → reduce L 0 t ≡ stopped 0 zero_counts (is_normal_of (step t)) t
unfolding reduce_from
limit-0 L t = refl
