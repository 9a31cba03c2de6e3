-- Every public call, with something wrong or nothing.
-- Assumes nothing: these are definitions.
use Rattle.std.specs.Prelude.{ℕ, ◌&&◌, List, [], length, if◌then◌else◌, Ok, Err}
use Rattle.std.proofs.Math.Option.{Option, some}
use Rattle.rules.specs.Basic.{Bytes, ◌≤?◌}
use Rattle.rules.specs.Limits.{limits, output_room, text_room, formula_text_room, stored_room, entry_room}
use Rattle.rules.specs.Refusal.{Outcome, ◌>>=◌, mapped}
use Rattle.rules.specs.Name.{encode_names}
use Rattle.rules.specs.Term.{Term, encode}
use Rattle.rules.specs.Reading.{read_term, read_formula, read_proof, read_name}
use Rattle.rules.specs.Text as Text
use Rattle.rules.specs.Free.{free}
use Rattle.rules.specs.Step as Step
use Rattle.rules.specs.Stored.{stored, opened, read_kind}
use Rattle.rules.specs.Buffers.{answers, bytes_or}
use Rattle.rules.specs.Calls.{room_for, work_room, check_term_call, check_formula_call, check_proof_call, grown, step_ending, read_ending, ReduceCall, is_straight_call, locate_call, child_call, child_fault_call, Entry, Extracted}
use Rattle.rules.specs.Program.{program_steps, report, reduced_report}
use Rattle.rules.specs.declared.Refusal.{Refusal}
use Rattle.rules.specs.declared.Kind.TheVariants.{Term as a_term}
use Rattle.promises.specs.PublicCalls.{Call, Version, check_term, check_formula, check_proof, is_normal_term, is_straight_term, locate, child, child_fault, term_text, text_of_formula, free_names, store, load, substitute, step, reduce, extract, extractor, printed, Printed, own_row, without_row}
use Rattle.promises.specs.Wrong.{Wrong, ◌is◌, copies-input}
use Rattle.promises.specs.Wrong.Step.{put, instead, stepped}
use Rattle.promises.specs.Wrong.Reduction.{reduced, reduce_ending_by}
use Rattle.promises.specs.Wrong.Extraction.{extracted}
use Rattle.promises.specs.Wrong.Words.{read_by}
use Rattle.promises.specs.Wrong.Buffers.{says, lent_by, copied, agreed, filled_by, wrote_by, worked_by, reduced_by, extracted_by}

abbrev pub substituted_by : Wrong → (term name value : Bytes) → Outcome Bytes
substituted_by w t x v = do
  t' ← read_term limits 1 t
  x' ← read_name 2 x
  v' ← read_term limits 3 v
  grown limits (instead w t' (put w x' v' t'))

abbrev pub reduce_call_by : Wrong → (term : Bytes) → (limit : ℕ) → (output scratch : Bytes) → ReduceCall
reduce_call_by w t n o s = reduced_by w o s (lent_by w (work_room limits o s) (read_ending (read_term limits 1 t) (λ u. reduce_ending_by w (reduced w n u))))

-- all refused: an empty part, and the refusal
abbrev pub part_or : Wrong → Bytes → Bytes
part_or w s = elim (says w (Ok s)) [ Ok s' ↦ s' | Err r ↦ [] ]

abbrev pub fault_or : Wrong → Option Refusal → Option Refusal
fault_or w f = elim (says w (Ok f)) [ Ok f' ↦ f' | Err r ↦ some r ]

abbrev pub proof_outcome_by : Wrong → (counter : ℕ) → (proof : Bytes) → Outcome (Term × ℕ)
proof_outcome_by w n p = do
  q ← read_proof limits 1 p
  extracted w n q

abbrev pub extract_call_by : Wrong → (counter : ℕ) → (proof output scratch : Bytes) → (entries : List Entry) → Extracted
extract_call_by w n p o s es =
    extracted_by w o s es n (proof_outcome_by w n p)
    (lent_by w (work_room limits o s && (entry_room limits ≤? length es)) (bytes_or (copied w p (mapped (λ r. encode r.0) (proof_outcome_by w n p)))))

abbrev pub patchrun_by : Wrong → (stdin : Bytes) → Bytes
patchrun_by w f = report (says w (copied w f (do
  s ← opened limits a_term f
  t ← read_term limits 1 s
  reduced_report (reduced w program_steps t))))

abbrev pub printed_by : Wrong → (file term scratch output : Bytes) → Printed
printed_by w f t s o =
    record {
      output_length = length (patchrun_by w f);
      output = filled_by w o (answers (length (patchrun_by w f)) (patchrun_by w f));
      term = elim (opened limits a_term f) [ Ok c ↦ (reduce_call_by w c program_steps t s).output | Err r ↦ t ];
      scratch = elim (opened limits a_term f) [ Ok c ↦ (reduce_call_by w c program_steps t s).scratch | Err r ↦ s ];
    }

unfoldable pub answered_by : Wrong → (c : Call) → Version c
answered_by w check_term = λ t. says w (check_term_call limits t)
answered_by w check_formula = λ f. says w (check_formula_call limits f)
answered_by w check_proof = λ p. says w (check_proof_call limits p)
answered_by w is_normal_term = λ t. says w (agreed w (mapped (λ u. Step.is_normal_term (stepped w u)) (read_term limits 1 t)))
answered_by w is_straight_term = λ t. says w (agreed w (is_straight_call limits t))
answered_by w locate = λ (t, k). says w (locate_call limits t k)
answered_by w child = λ (t, k). part_or w (if w is copies-input then t else child_call limits t k)
answered_by w child_fault = λ (t, k). fault_or w (child_fault_call limits t k)
answered_by w term_text = λ (t, o). wrote_by w o (lent_by w (room_for (text_room limits) o) (bytes_or (copied w t (mapped Text.text (read_term limits 1 t)))))
answered_by w text_of_formula = λ (f, o). wrote_by w o (lent_by w (room_for (formula_text_room limits) o) (bytes_or (copied w f (mapped Text.text_of_formula (read_formula limits 1 f)))))
answered_by w free_names = λ (t, o). wrote_by w o (lent_by w (room_for (output_room limits) o) (bytes_or (copied w t (mapped (λ u. encode_names (free u)) (read_term limits 1 t)))))
answered_by w store = λ (k, s, o). wrote_by w o (lent_by w (room_for (stored_room limits) o) (bytes_or (copied w s (mapped (λ _. stored k s) (read_kind limits k 1 s)))))
answered_by w load = λ (k, f, o). wrote_by w o (lent_by w (room_for (output_room limits) o) (bytes_or (copied w f (opened limits k f))))
answered_by w substitute = λ (t, x, v, o, s). worked_by w o s (lent_by w (work_room limits o s) (bytes_or (substituted_by w t x v)))
answered_by w step = λ (t, o, s). worked_by w o s (lent_by w (work_room limits o s) (read_ending (read_term limits 1 t) (λ u. step_ending limits (stepped w u))))
answered_by w reduce = λ (t, n, o, s). reduce_call_by w t n o s
answered_by w extract = λ (n, p, o, s). without_row (extract_call_by w n p o s own_row)
answered_by w extractor = λ (n, p, o, s, es). extract_call_by w n p o s es
answered_by w printed = λ (f, t, s, o). printed_by w f t s o

unfoldable pub version : Wrong → (c : Call) → Version c
version w c x = answered_by w c (read_by w c x)
