-- How a wrong version is refuted: by an input on which what it answers and leaves is not what the contract's definition says, as computed numbers.
use Prim.Native.Nat.{ℕ, suc}
use mathlib.Core.Path.{◌≡◌, refl, sym, ap, ◌∙◌}
use mathlib.Core.Bool.{Bool, true, false, not, false≢true}
use mathlib.Core.List.{List, [], ◌∷◌}
use lib.Dec.{eqb}
use borrow.Author.Tests.{eq-eqb}
use native.Mathlib.Omega.{arith}
use Rattle.rules.specs.Basic.{digits, ◌‥◌}
use Rattle.rules.specs.Name.{leads, follows, is_a_word, before}
use Rattle.rules.specs.Formula.{formula_nodes}
use Rattle.rules.specs.Term.{nodes, encode, fits}
use Rattle.rules.specs.Proof.{rules}
use Rattle.rules.specs.Reading.{times, many, byte, byte_for, room, letters, spelled, name, tag, too_many, node, proof_at, whole, read_term, read_formula, read_proof, read_name}
use Rattle.rules.specs.Text.{text, text_of_formula as text_of}
use Rattle.rules.specs.Free.{insert, union, without, free}
use Rattle.rules.specs.Substitution.{subst}
use Rattle.rules.specs.Step as Step
use Rattle.rules.specs.Reduction.{reduce_from}
use Rattle.rules.specs.Extraction as Extraction
use Rattle.rules.specs.Stored.{weighed, blocks, stored, open_block, opened_blocks, opened}
use Rattle.rules.specs.Calls.{check_term_call, check_formula_call, check_proof_call, free_vars_call, text_call, formula_text_call, substituted, substitute_call, step_call, reduce_call, is_normal_call, is_straight_call, locate_call, child_call, child_fault_call, store_call, load_call, extract_call}
use Rattle.rules.specs.Program as Program
use Rattle.rules.specs.Straight.{binders, variables, count, plain, once, straight, Each}
use Rattle.program.specs.Printing.{term_left, scratch_left}
use Rattle.rules.proofs.Notation.{wrong_from, wrong}
use Rattle.rules.proofs.Called.{numbers, single, bool_number, fault_numbers, step_numbers, wrote_numbers, worked_numbers, reduce_call_numbers, extracted_numbers}
use Rattle.promises.specs.PublicCalls.{Call, Input, Answer, Meets, definition, check_term, check_formula, check_proof, is_normal_term, is_straight_term, locate, child, child_fault, term_text, text_of_formula, free_names, store, load, substitute, step, reduce, extract, extractor, printed}
use Rattle.promises.specs.Wrong.{Wrong}
use Rattle.promises.specs.Wrong.Put.{first_free, put_in}
use Rattle.promises.specs.Wrong.Step.{contract_by, step_by, stepped}
use Rattle.promises.specs.Wrong.Reduction.{reduce_from_by, reduced}
use Rattle.promises.specs.Wrong.Extraction.{extract_by, extracted}
use Rattle.promises.specs.Wrong.Version.{version, answered_by}

infix 50 ◌∶◌on◌
-- A row: a call, what is wrong with a version of it, and the input that refutes it.
pub data Row : Type 0 where
  ◌∶◌on◌ : (c : Call) → Wrong → Input c → Row

abbrev pub Refuted : Row → Type 0
Refuted (c ∶ w on x) = ¬ Meets c (version w c)

-- an answer and all that is left in buffers, as numbers
abbrev pub shown : (c : Call) → Answer c → List ℕ
shown check_term = numbers single
shown check_formula = numbers single
shown check_proof = numbers single
shown is_normal_term = numbers (λ b. single (bool_number b))
shown is_straight_term = numbers (λ b. single (bool_number b))
shown locate = numbers (λ p. p.from ∷ p.end ∷ [])
shown child = λ s. s
shown child_fault = fault_numbers
shown term_text = wrote_numbers
shown text_of_formula = wrote_numbers
shown free_names = wrote_numbers
shown store = wrote_numbers
shown load = wrote_numbers
shown substitute = worked_numbers single
shown step = worked_numbers step_numbers
shown reduce = reduce_call_numbers
shown extract = worked_numbers (λ r. r.0 ∷ r.1 ∷ [])
shown extractor = extracted_numbers
shown printed = λ p. p.output_length ∷ (p.output ‥ p.term ‥ p.scratch)

-- equal, looked at no further than the first difference
abbrev pub alike : List ℕ → List ℕ → Bool
alike [] [] = true
alike [] (b ∷ y) = false
alike (a ∷ x) [] = false
alike (a ∷ x) (b ∷ y) = elim (eqb a b) [ true ↦ alike x y | false ↦ false ]

unfoldable pub differs : Row → Bool
unfolding definition version answered_by times many byte byte_for room letters spelled name tag too_many node proof_at whole read_term read_formula read_proof read_name leads follows is_a_word before insert union without free subst Step.step Step.contract text text_of nodes formula_nodes rules encode fits reduce_from Extraction.extract_from Extraction.extract Extraction.oldest Extraction.axiom_name digits weighed blocks stored open_block opened_blocks opened check_term_call check_formula_call check_proof_call free_vars_call text_call formula_text_call substituted substitute_call step_call reduce_call is_normal_call locate_call child_call child_fault_call store_call load_call extract_call is_straight_call straight once plain binders variables count Program.patchrun term_left scratch_left Program.counts_line Program.refusal_line first_free put_in contract_by step_by stepped reduce_from_by reduced extract_by extracted
differs (c ∶ w on x) = not (alike (shown c (version w c x)) (shown c (definition c x)))

alike_self : (s : List ℕ) → alike s s ≡ true
alike_self [] = refl
alike_self (a ∷ s) = rw (eq-eqb a a refl, alike) (alike_self s)

-- A version that meets the contract would not differ.
refutes : (r : Row) → differs r ≡ true → Refuted r
unfolding differs
refutes (c ∶ w on x) d =
    λ m. false≢true (sym (ap not (alike_self (shown c (definition c x)))) ∙ sym (ap (λ (a : Answer c). not (alike (shown c a) (shown c (definition c x)))) (m x)) ∙ d)

-- If every row of a table differs, every row is refuted.
all_from : (n : ℕ) (rs : List Row) → wrong_from differs n rs ≡ [] → Each Refuted rs
all_from n [] e = tt
all_from n (r ∷ rs) e = go (differs r) refl (all_from (suc n) rs)
  where
    go : (b : Bool) → differs r ≡ b → (wrong_from differs (suc n) rs ≡ [] → Each Refuted rs) → Refuted r × Each Refuted rs
    go true d rest = (refutes r d, rest (rw d at e))
    go false d rest = absurd (let h = rw d at e in let z : ◌≡◌ {A = ℕ} 0 1 = cc in omega arith)

pub all-refuted : (rs : List Row) → wrong differs rs ≡ [] → Each Refuted rs
all-refuted rs e = all_from 0 rs e
