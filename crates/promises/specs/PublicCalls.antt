-- Every public call: what it is given, what it answers and leaves, and the definition with which its contract is an equation.
-- Assumes nothing: these are definitions.
use Rattle.std.specs.Prelude.{ℕ, ◌≡◌, Bool, List, length, replicate}
use Rattle.std.proofs.Math.Option.{Option, some}
use Rattle.rules.specs.Basic.{Bytes}
use Rattle.rules.specs.Limits.{limits, entry_room}
use Rattle.rules.specs.Refusal.{Outcome, mapped}
use Rattle.rules.specs.declared.Kind.{Kind}
use Rattle.rules.specs.Buffers.{Wrote, Worked, filled}
use Rattle.rules.specs.declared.Places.{Places}
use Rattle.rules.specs.Calls.{check_term_call, check_formula_call, check_proof_call, is_normal_call, is_straight_call, locate_call, child_call, child_fault_call, text_call, formula_text_call, free_vars_call, store_call, load_call, substitute_call, StepAnswer, step_call, ReduceCall, reduce_call, Entry, no_entry, Extracted, extract_call}
use Rattle.rules.specs.Program.{patchrun}
use Rattle.rules.specs.declared.Refusal.{Refusal}
use Rattle.program.specs.Printing.{term_left, scratch_left}

pub data Call : Type 0 where
  check_term check_formula check_proof : Call
  is_normal_term is_straight_term : Call
  locate child child_fault : Call
  term_text text_of_formula free_names : Call
  store load : Call
  substitute step reduce : Call
  -- extract has a row of cut entries of its own; the Extractor is lent one
  extract extractor : Call
  -- what the program patchrun prints, and leaves in buffers of its own
  printed : Call

-- The arguments in the order in which the definition takes them: inputs first, then what is lent.
abbrev pub Input : Call → Type 0
Input check_term = Bytes
Input check_formula = Bytes
Input check_proof = Bytes
Input is_normal_term = Bytes
Input is_straight_term = Bytes
Input locate = Bytes × ℕ
Input child = Bytes × ℕ
Input child_fault = Bytes × ℕ
Input term_text = Bytes × Bytes
Input text_of_formula = Bytes × Bytes
Input free_names = Bytes × Bytes
Input store = Kind × Bytes × Bytes
Input load = Kind × Bytes × Bytes
Input substitute = Bytes × Bytes × Bytes × Bytes × Bytes
Input step = Bytes × Bytes × Bytes
Input reduce = Bytes × ℕ × Bytes × Bytes
Input extract = ℕ × Bytes × Bytes × Bytes
Input extractor = ℕ × Bytes × Bytes × Bytes × List Entry
Input printed = Bytes × Bytes × Bytes × Bytes

pub record Printed : Type 0 where
  pub output_length : ℕ
  pub output : Bytes
  pub term : Bytes
  pub scratch : Bytes

abbrev pub Answer : Call → Type 0
Answer check_term = Outcome ℕ
Answer check_formula = Outcome ℕ
Answer check_proof = Outcome ℕ
Answer is_normal_term = Outcome Bool
Answer is_straight_term = Outcome Bool
Answer locate = Outcome Places
Answer child = Bytes
Answer child_fault = Option Refusal
Answer term_text = Wrote ℕ
Answer text_of_formula = Wrote ℕ
Answer free_names = Wrote ℕ
Answer store = Wrote ℕ
Answer load = Wrote ℕ
Answer substitute = Worked ℕ
Answer step = Worked StepAnswer
Answer reduce = ReduceCall
Answer extract = Worked (ℕ × ℕ)
Answer extractor = Extracted
Answer printed = Printed

-- Any function of a call's type; the contract asks for the one that is its definition.
abbrev pub Version : Call → Type 0
Version c = Input c → Answer c

-- extract answers the length and the counter together, and its row is its own
abbrev pub own_row : List Entry
own_row = replicate (entry_room limits) no_entry

abbrev pub without_row : Extracted → Worked (ℕ × ℕ)
without_row w = record { answer = mapped (λ n. (n, w.counter)) w.answer; output = w.output; scratch = w.scratch }

unfoldable pub definition : (c : Call) → Version c
definition check_term = check_term_call limits
definition check_formula = check_formula_call limits
definition check_proof = check_proof_call limits
definition is_normal_term = is_normal_call limits
definition is_straight_term = is_straight_call limits
definition locate = λ (t, k). locate_call limits t k
definition child = λ (t, k). child_call limits t k
definition child_fault = λ (t, k). child_fault_call limits t k
definition term_text = λ (t, o). text_call limits t o
definition text_of_formula = λ (f, o). formula_text_call limits f o
definition free_names = λ (t, o). free_vars_call limits t o
definition store = λ (k, s, o). store_call limits k s o
definition load = λ (k, f, o). load_call limits k f o
definition substitute = λ (t, x, v, o, s). substitute_call limits t x v o s
definition step = λ (t, o, s). step_call limits t o s
definition reduce = λ (t, n, o, s). reduce_call limits t n o s
definition extract = λ (n, p, o, s). without_row (extract_call limits n p o s own_row)
definition extractor = λ (n, p, o, s, es). extract_call limits n p o s es
definition printed = λ (f, t, s, o).
    record { output_length = length (patchrun limits f); output = filled o (some (patchrun limits f)); term = term_left limits f t s; scratch = scratch_left limits f t s }

-- A version meets a call's contract if it is equal to the definition on all inputs.
abbrev pub Meets : (c : Call) → Version c → Type 0
Meets c f = (x : Input c) → f x ≡ definition c x
