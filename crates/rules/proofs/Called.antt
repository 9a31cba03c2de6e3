-- Every public call as numbers, at small limits, so that a table can list what a call answers and what it leaves in the buffers that it is lent.
-- Assumes nothing: these are definitions.
use Rattle.std.specs.Prelude.{Ok, Err}
use Prim.Native.Nat.{ℕ, ◌+◌, ◌-◌}
use mathlib.Core.Bool.{Bool, true, false}
use mathlib.Core.List.{List, [], ◌∷◌}
use mathlib.Core.Option.{Option, none, some}
use lib.ListN.{length, replicate}
use Rattle.rules.specs.Basic.{Bytes, ◌‥◌, digits}
use Rattle.rules.specs.Limits.{Limits}
use Rattle.rules.specs.Refusal.{Refusal, Outcome, number_of}
use Rattle.rules.specs.Name.{leads, follows, before, is_a_word}
use Rattle.rules.specs.Formula.{formula_nodes}
use Rattle.rules.specs.Term.{nodes, encode, fits}
use Rattle.rules.specs.Proof.{rules}
use Rattle.rules.specs.Reading.{times, many, byte, byte_for, room, letters, spelled, name, tag, too_many, node, proof_at, whole, read_term, read_formula, read_proof, read_name}
use Rattle.rules.specs.Text.{text, text_of_formula}
use Rattle.rules.specs.Free.{insert, union, without, free}
use Rattle.rules.specs.Substitution.{subst}
use Rattle.rules.specs.Step.{step, contract}
use Rattle.rules.specs.Reduction.{Counts, reduce_from}
use Rattle.rules.specs.Straight.{binders, variables, count, plain, once, straight}
use Rattle.rules.specs.Extraction.{extract_from, extract, oldest, axiom_name}
use Rattle.rules.specs.Stored.{Kind, weighed, blocks, stored, open_block, opened_blocks, opened}
use Rattle.rules.specs.Buffers.{Wrote, Worked}
use Rattle.rules.specs.Calls.{check_term_call, check_formula_call, check_proof_call, free_vars_call, text_call, formula_text_call, substituted, substitute_call, StepAnswer, Normal, Found, step_call, ReduceAnswer, ReduceCall, reduce_call, is_normal_call, is_straight_call, locate_call, child_call, child_start, child_fault_call, store_call, load_call, start_call, Entry, Extracted, extract_call}
use Rattle.rules.proofs.Notation.{equal, number_of_rule}

-- asked: output 90, text 450, formula text 110, stored 512, scratch 180, 6 entries
abbrev pub tiny : Limits
tiny = record { bytes = 90; nodes = 16; rules = 6; formulas = 10 }

-- A call, with the sizes of the buffers that it is lent.
pub data Call : Type 0 where
  check_term check_formula check_proof : Bytes → Call
  free_vars prints prints_formula : (output : ℕ) → Bytes → Call
  substitutes : (output scratch : ℕ) (term name value : Bytes) → Call
  steps : (output scratch : ℕ) (term : Bytes) → Call
  reduces : (output scratch : ℕ) (limit : ℕ) (term : Bytes) → Call
  is_normal_term is_straight_term : Bytes → Call
  locates child child_starts : (term : Bytes) (k : ℕ) → Call
  extracts : (output scratch entries : ℕ) (counter : ℕ) (proof : Bytes) → Call
  stores loads : (output : ℕ) → Kind → Bytes → Call

-- A lent buffer is full of sevens. It is left untouched, or some bytes stand in it, then zeros.
pub data Left : Type 0 where
  untouched : Left
  then-zeros : Bytes → Left

abbrev pub zeroed : Left
zeroed = then-zeros []

abbrev pub sevens : ℕ → Bytes
sevens n = replicate n 7

abbrev pub left : ℕ → Left → Bytes
left n untouched = sevens n
left n (then-zeros s) = s ‥ replicate (n - length s) 0

abbrev pub lefts : List ℕ → List Left → Bytes
lefts [] ls = []
lefts (n ∷ ns) [] = []
lefts (n ∷ ns) (l ∷ ls) = left n l ‥ lefts ns ls

-- the sizes of what is lent; an entry is two numbers
abbrev pub lent_to : Call → List ℕ
lent_to (check_term t) = []
lent_to (check_formula f) = []
lent_to (check_proof p) = []
lent_to (free_vars o t) = o ∷ []
lent_to (prints o t) = o ∷ []
lent_to (prints_formula o f) = o ∷ []
lent_to (substitutes o s t x u) = o ∷ s ∷ []
lent_to (steps o s t) = o ∷ s ∷ []
lent_to (reduces o s n t) = o ∷ s ∷ []
lent_to (is_normal_term t) = []
lent_to (is_straight_term t) = []
lent_to (locates t k) = []
lent_to (child t k) = []
lent_to (child_starts t k) = []
lent_to (extracts o s e n p) = o ∷ s ∷ (e + e) ∷ []
lent_to (stores o k s) = o ∷ []
lent_to (loads o k f) = o ∷ []

-- an answer as numbers: 0 and what it says; or the refusal's number, place and input
abbrev pub numbers : {A : Type 0} → (A → List ℕ) → Outcome A → List ℕ
numbers f (Ok a) = 0 ∷ f a
numbers f (Err r) = number_of r.reason ∷ r.place ∷ r.input ∷ []

abbrev pub single : ℕ → List ℕ
single n = n ∷ []

abbrev pub bool_number : Bool → ℕ
bool_number true = 1
bool_number false = 0

abbrev pub step_numbers : StepAnswer → List ℕ
step_numbers Normal = []
step_numbers (Found r p n) = number_of_rule r ∷ p ∷ n ∷ []

abbrev pub count_numbers : Counts → List ℕ
count_numbers c = c.app ∷ c.lets ∷ c.case ∷ c.fst ∷ c.snd ∷ c.derelict ∷ c.copy ∷ c.discard ∷ []

abbrev pub reduce_numbers : ReduceAnswer → List ℕ
reduce_numbers a = a.steps ∷ (count_numbers a.counts ‥ single (bool_number a.none_left))

abbrev pub fault_numbers : Option Refusal → List ℕ
fault_numbers none = 0 ∷ []
fault_numbers (some r) = number_of r.reason ∷ r.place ∷ r.input ∷ []

abbrev pub entry_numbers : List Entry → List ℕ
entry_numbers [] = []
entry_numbers (e ∷ es) = e.0 ∷ e.1 ∷ entry_numbers es

-- the answer, then the buffers
abbrev pub wrote_numbers : Wrote ℕ → List ℕ
wrote_numbers w = numbers single w.answer ‥ w.output

abbrev pub worked_numbers : {A : Type 0} → (A → List ℕ) → Worked A → List ℕ
worked_numbers f w = numbers f w.answer ‥ w.output ‥ w.scratch

-- after the answer the length of what stands in the output
abbrev pub reduce_call_numbers : ReduceCall → List ℕ
reduce_call_numbers w = numbers reduce_numbers w.answer ‥ w.output_length ∷ (w.output ‥ w.scratch)

-- after the answer the counter
abbrev pub extracted_numbers : Extracted → List ℕ
extracted_numbers w = numbers single w.answer ‥ w.counter ∷ (w.output ‥ w.scratch ‥ entry_numbers w.entries)

unfoldable pub after : Call → List ℕ
unfolding times many byte byte_for room letters spelled name tag too_many node proof_at whole read_term read_formula read_proof read_name leads follows is_a_word before insert union without free subst step contract text text_of_formula nodes formula_nodes rules encode fits reduce_from binders variables count plain once straight extract_from extract oldest axiom_name digits weighed blocks stored open_block opened_blocks opened check_term_call check_formula_call check_proof_call free_vars_call text_call formula_text_call substituted substitute_call step_call reduce_call is_normal_call is_straight_call locate_call child_call child_start child_fault_call store_call load_call extract_call
after (check_term t) = numbers single (check_term_call tiny t)
after (check_formula f) = numbers single (check_formula_call tiny f)
after (check_proof p) = numbers single (check_proof_call tiny p)
after (free_vars o t) = wrote_numbers (free_vars_call tiny t (sevens o))
after (prints o t) = wrote_numbers (text_call tiny t (sevens o))
after (prints_formula o f) = wrote_numbers (formula_text_call tiny f (sevens o))
after (substitutes o s t x u) = worked_numbers single (substitute_call tiny t x u (sevens o) (sevens s))
after (steps o s t) = worked_numbers step_numbers (step_call tiny t (sevens o) (sevens s))
after (reduces o s n t) = reduce_call_numbers (reduce_call tiny t n (sevens o) (sevens s))
after (is_normal_term t) = numbers (λ b. single (bool_number b)) (is_normal_call tiny t)
after (is_straight_term t) = numbers (λ b. single (bool_number b)) (is_straight_call tiny t)
after (locates t k) = numbers (λ p. p.from ∷ p.end ∷ []) (locate_call tiny t k)
after (child t k) = fault_numbers (child_fault_call tiny t k) ‥ child_call tiny t k
after (child_starts t k) = 0 ∷ child_start tiny t k ∷ []
after (extracts o s e n p) = extracted_numbers (extract_call tiny (start_call n) p (sevens o) (sevens s) (replicate e (7, 7)))
after (stores o k s) = wrote_numbers (store_call tiny k s (sevens o))
after (loads o k f) = wrote_numbers (load_call tiny k f (sevens o))

infix 60 ◌⟹◌⟫◌
infix 65 refuses◌at◌of◌
-- A row: a call, its answer, and what it leaves in each buffer.
pub data Row : Type 0 where
  ◌⟹◌⟫◌ : Call → (answer : List ℕ) → List Left → Row

unfoldable pub right : Row → Bool
unfolding after
right (c ⟹ a ⟫ ls) = equal (after c) (a ‥ lefts (lent_to c) ls)

-- how a row says an answer
abbrev pub answers : List ℕ → List ℕ
answers ns = 0 ∷ ns

abbrev pub counts : ℕ → List ℕ
counts n = answers (single n)

abbrev pub refuses◌at◌of◌ : (number place input : ℕ) → List ℕ
refuses n at p of i = n ∷ p ∷ i ∷ []
