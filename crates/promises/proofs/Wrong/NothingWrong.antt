-- A version with nothing wrong meets every contract: by recursion on the term, on the limit and on the proof. So the definition over which the wrong
-- versions are made is the contract's own, and each of them differs by its one fault alone. Assumes nothing.
use Rattle.std.specs.Prelude.{Ok, Err}
use Prim.Native.Nat.{ℕ, zero, suc, ◌+◌}
use mathlib.Core.Path.{◌≡◌, refl, ap, ◌∙◌}
use mathlib.Core.Bool.{true, false, ◌&&◌}
use mathlib.Core.Option.{some}
use lib.ListN.{length}
use mathlib.Core.List.{List, [], ◌∷◌}
use Rattle.rules.specs.Basic.{Bytes, ◌<?◌, ◌≤?◌}
use Rattle.rules.specs.Limits.{limits, most_counter, entry_room}
use Rattle.rules.specs.Refusal.{Outcome, refuse, mapped, ◌>>=◌}
use Rattle.rules.specs.declared.Reason.TheVariants.{Outgrows, CounterOver}
use Rattle.rules.specs.Formula.{Formula}
use Rattle.rules.specs.Term.{Term, var, leaf, one, two, abs, both, branch, inl, inr, fst, snd, abort, promote, derelict, pair, app, discard, let_a_pair, copy, size}
use Rattle.rules.specs.Proof.{Proof, proof, Premises, done, ◌then◌, Rule, plain, cut, focus}
use Rattle.rules.specs.Step as Step
use Rattle.rules.specs.Step.{Stepped, normal, found, contract, here, or_else, in_part, name_bytes, step_fits}
use Rattle.rules.specs.Reduction as Reduction
use Rattle.rules.specs.Reduction.{Reduced, stopped, outgrew, plus, reduce_from}
use Rattle.rules.specs.Extraction.{Making, terms, sizes, size_fits, Premise, by_rule, extract as extract_of, extracts as extracts_of, extract_from}
use Rattle.rules.specs.Reading.{read_term, read_proof}
use Rattle.rules.specs.Stored.{opened}
use Rattle.rules.specs.Buffers.{filled, lent, worked}
use Rattle.rules.specs.Calls.{work_room, step_ending, read_ending, reduce_ending, reduce_with, extract_with, extract_ending, is_normal_call, text_call, formula_text_call, free_vars_call, store_call, load_call, substitute_call, substituted, step_call, reduce_call, Entry, extract_call}
use Rattle.rules.specs.Program as Program
use Rattle.rules.specs.declared.Kind.TheVariants.{Term as a_term}
use Rattle.rules.specs.declared.Counts.{Counts}
use Rattle.program.specs.Printing.{term_left, scratch_left}
use Rattle.promises.specs.Wrong.{nothing}
use Rattle.promises.specs.Wrong.Step.{contract_by, step_by, instead_found, stepped}
use Rattle.promises.specs.Wrong.Reduction.{reduce_from_by, told, reduced, reduce_ending_by}
use Rattle.promises.specs.Wrong.Extraction.{by_rule_by, extract_by, extracts_by, extracted}
use Rattle.promises.specs.Wrong.Version.{version, answered_by, reduce_call_by, extract_call_by, patchrun_by}
use Rattle.promises.specs.PublicCalls.{Call, Meets, definition, own_row, without_row, check_term, check_formula, check_proof, is_normal_term, is_straight_term, locate, child, child_fault, term_text, text_of_formula, free_names, store, load, substitute, step, reduce, extract, extractor, printed}

contracts : (t : Term) → contract_by nothing t ≡ contract t
unfolding contract_by contract
contracts (var x) = refl
contracts (leaf k) = refl
contracts (one k e) = refl
contracts (abs x e) = refl
contracts (two pair a b) = refl
contracts (two discard a b) = refl
contracts (two app (var x) a) = refl
contracts (two app (leaf k) a) = refl
contracts (two app (one k e) a) = refl
contracts (two app (two k e b) a) = refl
contracts (two app (abs x e) a) = refl
contracts (two app (both k x y e b) a) = refl
contracts (two app (branch x y e l r) a) = refl
contracts (both let_a_pair x y e b) = refl
contracts (both copy x y e b) = refl
contracts (branch x y e l r) = refl

steps : (t : Term) → step_by nothing t ≡ Step.step t
unfolding step_by Step.step contract_by contract
steps (var x) = refl
steps (leaf k) = refl
steps (one abort e) = refl
steps (one inl e) = λ i. in_part 1 (one inl) (steps e i)
steps (one inr e) = λ i. in_part 1 (one inr) (steps e i)
steps (one promote e) = λ i. in_part 1 (one promote) (steps e i)
steps (one fst e) = λ i. here (contract (one fst e)) (in_part 1 (one fst) (steps e i))
steps (one snd e) = λ i. here (contract (one snd e)) (in_part 1 (one snd) (steps e i))
steps (one derelict e) = λ i. here (contract (one derelict e)) (in_part 1 (one derelict) (steps e i))
steps (two k a b) = λ i. here (contracts (two k a b) i) (or_else (in_part 1 (λ p. two k p b) (steps a i)) (in_part (1 + size a) (two k a) (steps b i)))
steps (abs x e) = λ i. in_part (1 + name_bytes x) (abs x) (steps e i)
steps (both let_a_pair x y e b) =
    λ i.
    here (contracts (both let_a_pair x y e b) i)
    (or_else (in_part (1 + name_bytes x + name_bytes y) (λ p. both let_a_pair x y p b) (steps e i)) (in_part (1 + name_bytes x + name_bytes y + size e) (both let_a_pair x y e) (steps b i)))
steps (both copy x y e b) = λ i. here (contracts (both copy x y e b) i) (in_part (1 + name_bytes x + name_bytes y) (λ p. both copy x y p b) (steps e i))
steps (branch x y e l r) = λ i. here (contracts (branch x y e l r) i) (in_part (1 + name_bytes x + name_bytes y) (λ p. branch x y p l r) (steps e i))

-- what is told of a step and of a reduction is what was found
found-so : (u : Term) (s : Stepped) → instead_found nothing u s ≡ s
found-so u normal = refl
found-so u (found r p h t) = refl

pub stepped-so : (u : Term) → stepped nothing u ≡ Step.step u
unfolding stepped
stepped-so u = found-so u (step_by nothing u) ∙ steps u

reduces : (limit n : ℕ) (c : Counts) (t : Term) → reduce_from_by nothing limit n c t ≡ reduce_from limits limit n c t
unfolding reduce_from_by reduce_from
reduces zero n c t = λ i. stopped n c (Step.is_normal_term (steps t i)) t
reduces (suc limit) n c t =
    λ i. elim (steps t i) [
      | normal ↦ stopped n c true t
      | found r p h u ↦ elim (step_fits limits h u) [ true ↦ reduces limit (suc n) (plus r c) u i | false ↦ outgrew n t ]
    ]

told-so : (u : Term) (r : Reduced) → told nothing u r ≡ r
told-so u (stopped n c b t) = refl
told-so u (outgrew n t) = refl

ends_so : (r : Reduced) → reduce_ending_by nothing r ≡ reduce_ending r
ends_so (stopped n c b t) = refl
ends_so (outgrew n t) = refl

pub reduced-so : (limit : ℕ) (u : Term) → reduced nothing limit u ≡ Reduction.reduce limits limit u
unfolding reduced
reduced-so limit u = told-so u (reduce_from_by nothing limit 0 Reduction.zero_counts u) ∙ reduces limit 0 Reduction.zero_counts u

ending-so : (limit : ℕ) (u : Term) → reduce_ending_by nothing (reduced nothing limit u) ≡ reduce_ending (Reduction.reduce limits limit u)
ending-so limit u = ends_so (reduced nothing limit u) ∙ ap reduce_ending (reduced-so limit u)

module _ {A : Type 0} (make : Making A) where
  by-rule : (r : Rule) (l : List Formula) (ps : List (Premise make)) → by_rule_by nothing make r l ps ≡ by_rule make r l ps
  by-rule (plain k) l ps = refl
  by-rule (focus k n) l ps = refl
  by-rule (cut f) l [] = refl
  by-rule (cut f) l (p ∷ []) = refl
  by-rule (cut f) l (p ∷ q ∷ []) = refl
  by-rule (cut f) l (p ∷ q ∷ r ∷ ps) = refl

  mutual
    unfolding extract_by extract_of

    extracts-one : (p : Proof) → extract_by nothing make p ≡ extract_of make p
    extracts-one (proof r l ps) = by-rule r l (extracts_by nothing make ps) ∙ ap (by_rule make r l) (extracts-row ps)

    extracts-row : (ps : Premises) → extracts_by nothing make ps ≡ extracts_of make ps
    extracts-row done = refl
    extracts-row (p then ps) = λ i. extracts-one p i ∷ extracts-row ps i

pub extracted-so : (n : ℕ) (p : Proof) → extracted nothing n p ≡ extract_from limits n p
unfolding extracted extract_from
extracted-so n p =
    λ i.
    let (size, next) = extracts-one sizes p i [] n in
    elim (most_counter <? next) [
      | true ↦ refuse CounterOver 0 0
      | false ↦ elim (size_fits limits size) [ true ↦ Ok (extracts-one terms p i [] n) | false ↦ refuse Outgrows 0 0 ]
    ]

extract-so : (n : ℕ) (p o s : Bytes) (es : List Entry) → extract_call_by nothing n p o s es ≡ extract_call limits n p o s es
unfolding extract_call
extract-so n p o s es =
    λ i.
    let x : Outcome (Term × ℕ) = ◌>>=◌ (read_proof limits 1 p) (λ q. extracted-so n q i) in
    extract_with o s es n x (lent (work_room limits o s && (entry_room limits ≤? length es)) (extract_ending x))

patchrun-so : (f : Bytes) → patchrun_by nothing f ≡ Program.patchrun limits f
unfolding Program.patchrun
patchrun-so f =
    λ i. Program.report (do
      s ← opened limits a_term f
      t ← read_term limits 1 s
      Program.reduced_report (reduced-so Program.program_steps t i))

reduce-so : (t : Bytes) (n : ℕ) (o s : Bytes) → reduce_call_by nothing t n o s ≡ reduce_call limits t n o s
unfolding reduce_call
reduce-so t n o s = λ i. reduce_with o s (lent (work_room limits o s) (read_ending (read_term limits 1 t) (λ u. ending-so n u i)))

printed-so : (f t s o : Bytes) → version nothing printed (f, t, s, o) ≡ definition printed (f, t, s, o)
unfolding version answered_by definition term_left scratch_left
printed-so f t s o =
    λ i.
    record {
      output_length = length (patchrun-so f i);
      output = filled o (some (patchrun-so f i));
      term = elim (opened limits a_term f) [ Ok c ↦ (reduce-so c Program.program_steps t s i).output | Err r ↦ t ];
      scratch = elim (opened limits a_term f) [ Ok c ↦ (reduce-so c Program.program_steps t s i).scratch | Err r ↦ s ];
    }

pub nothing-wrong : (c : Call) → Meets c (version nothing c)
unfolding version answered_by definition is_normal_call text_call formula_text_call free_vars_call store_call load_call substitute_call substituted step_call
nothing-wrong check_term = λ t. refl
nothing-wrong check_formula = λ f. refl
nothing-wrong check_proof = λ p. refl
nothing-wrong is_normal_term = λ t i. mapped (λ u. Step.is_normal_term (stepped-so u i)) (read_term limits 1 t)
nothing-wrong is_straight_term = λ t. refl
nothing-wrong locate = λ x. refl
nothing-wrong child = λ x. refl
nothing-wrong child_fault = λ x. refl
nothing-wrong term_text = λ x. refl
nothing-wrong text_of_formula = λ x. refl
nothing-wrong free_names = λ x. refl
nothing-wrong store = λ x. refl
nothing-wrong load = λ x. refl
nothing-wrong substitute = λ x. refl
nothing-wrong step = λ (t, o, s) i. worked o s (lent (work_room limits o s) (read_ending (read_term limits 1 t) (λ u. step_ending limits (stepped-so u i))))
nothing-wrong reduce = λ (t, n, o, s). reduce-so t n o s
nothing-wrong extract = λ (n, p, o, s) i. without_row (extract-so n p o s own_row i)
nothing-wrong extractor = λ (n, p, o, s, es). extract-so n p o s es
nothing-wrong printed = λ (f, t, s, o). printed-so f t s o
