-- Every public call: its answer, its output and its scratch, of all inputs and all lent buffers.
-- Assumes nothing: these are definitions.
use Rattle.std.specs.Prelude.{ℕ, ◌+◌, ◌-◌, Bool, ◌&&◌, List, [], ◌∷◌, length, take, drop, if◌then◌else◌, Ok, Err}
use Rattle.std.proofs.Math.Option.{Option, none, some}
use Rattle.std.proofs.Math.ListN.{get_elem?}
use Rattle.rules.specs.Basic.{Bytes, ◌≤?◌}
use Rattle.rules.specs.Limits.{Limits, output_room, text_room, formula_text_room, stored_room, scratch_room, entry_room}
pub use Rattle.rules.specs.declared.Places.{Places}
use Rattle.rules.specs.Refusal.{Refusal, Outcome, refuse, ◌>>=◌, mapped}
use Rattle.rules.specs.declared.Reason.TheVariants.{Outgrows, NoSuchChild}
use Rattle.rules.specs.Name.{encode_names}
use Rattle.rules.specs.Formula.{formula_nodes}
use Rattle.rules.specs.Term.{Term, encode, nodes, size, names, parts, fits}
use Rattle.rules.specs.Proof.{rules}
use Rattle.rules.specs.Reading.{read_term, read_formula, read_proof, read_name}
use Rattle.rules.specs.Text.{text, text_of_formula}
use Rattle.rules.specs.Free.{free}
use Rattle.rules.specs.Substitution.{subst}
use Rattle.rules.specs.Step.{Rule, Stepped, normal, found, step, is_normal_term, step_fits}
use Rattle.rules.specs.Reduction.{Counts, Reduced, stopped, outgrew, reduce}
use Rattle.rules.specs.Straight.{straight}
use Rattle.rules.specs.Extraction.{extract_from}
use Rattle.rules.specs.Stored.{Kind, stored, opened, read_kind}
use Rattle.rules.specs.Buffers.{Ending, answers, writes_nothing, bytes_or, lent, filled, written, cleared, Wrote, wrote, Worked, worked}

-- enough room in an output; in an output and a scratch
abbrev pub room_for : ℕ → Bytes → Bool
room_for n b = n ≤? length b

abbrev pub work_room : Limits → (output scratch : Bytes) → Bool
work_room L o s = room_for (output_room L) o && room_for (scratch_room L) s

-- check: accepted with its count of nodes or rules, or refused.
unfoldable pub check_term_call : Limits → (term : Bytes) → Outcome ℕ
check_term_call L t = mapped nodes (read_term L 1 t)

unfoldable pub check_formula_call : Limits → (formula : Bytes) → Outcome ℕ
check_formula_call L f = mapped formula_nodes (read_formula L 1 f)

unfoldable pub check_proof_call : Limits → (proof : Bytes) → Outcome ℕ
check_proof_call L p = mapped rules (read_proof L 1 p)

-- free_vars: the list of names, as names.
unfoldable pub free_vars_call : Limits → (term output : Bytes) → Wrote ℕ
free_vars_call L t o = wrote o (lent (room_for (output_room L) o) (bytes_or (mapped (λ u. encode_names (free u)) (read_term L 1 t))))

-- Term::pretty, Formula::pretty
unfoldable pub text_call : Limits → (term output : Bytes) → Wrote ℕ
text_call L t o = wrote o (lent (room_for (text_room L) o) (bytes_or (mapped text (read_term L 1 t))))

unfoldable pub formula_text_call : Limits → (formula output : Bytes) → Wrote ℕ
formula_text_call L f o = wrote o (lent (room_for (formula_text_room L) o) (bytes_or (mapped text_of_formula (read_formula L 1 f))))

-- 8, outside reduction: the finished term breaks a limit.
abbrev pub grown : Limits → Term → Outcome Bytes
grown L t = if fits L t then Ok (encode t) else refuse Outgrows 0 0

-- substitute: inputs 1 the term, 2 the name, 3 what is put in.
unfoldable pub substituted : Limits → (term name value : Bytes) → Outcome Bytes
substituted L t x v = do
  t' ← read_term L 1 t
  x' ← read_name 2 x
  v' ← read_term L 3 v
  grown L (subst x' v' t')

unfoldable pub substitute_call : Limits → (term name value output scratch : Bytes) → Worked ℕ
substitute_call L t x v o s = worked o s (lent (work_room L o s) (bytes_or (substituted L t x v)))

-- step: Normal, or Found with the rule and its place, and the new term's length.
pub data StepAnswer : Type 0 where
  Normal : StepAnswer
  Found : Rule → (place output_length : ℕ) → StepAnswer

abbrev pub step_ending : Limits → Stepped → Ending StepAnswer
step_ending L normal = writes_nothing (Ok Normal)
step_ending L (found r p h t) = if step_fits L h t then answers (Found r p (length (encode t))) (encode t) else writes_nothing (refuse Outgrows 0 0)

abbrev pub read_ending : {A B : Type 0} → Outcome A → (A → Ending B) → Ending B
read_ending (Ok a) k = k a
read_ending (Err r) k = writes_nothing (Err r)

unfoldable pub step_call : Limits → (term output scratch : Bytes) → Worked StepAnswer
step_call L t o s = worked o s (lent (work_room L o s) (read_ending (read_term L 1 t) (λ u. step_ending L (step u))))

-- normalize_bounded: the steps, the counts, whether no step remains.
pub record ReduceAnswer : Type 0 where
  pub steps : ℕ
  pub counts : Counts
  pub none_left : Bool

abbrev pub reduce_ending : Reduced → Ending ReduceAnswer
reduce_ending (stopped n c b t) = answers (record { steps = n; counts = c; none_left = b }) (encode t)
reduce_ending (outgrew n t) = record { says = refuse Outgrows n 0; writes = some (encode t) }

-- 8 leaves the last term that fitted, so the length of what stands in the output is told beside the answer.
pub record ReduceCall : Type 0 where
  pub answer : Outcome ReduceAnswer
  pub output_length : ℕ
  pub output : Bytes
  pub scratch : Bytes

abbrev pub reduce_with : (output scratch : Bytes) → Ending ReduceAnswer → ReduceCall
reduce_with o s e = record { answer = e.says; output_length = written e.writes; output = filled o e.writes; scratch = cleared 0 s e.says }

unfoldable pub reduce_call : Limits → (term : Bytes) → (limit : ℕ) → (output scratch : Bytes) → ReduceCall
reduce_call L t n o s = reduce_with o s (lent (work_room L o s) (read_ending (read_term L 1 t) (λ u. reduce_ending (reduce L n u))))

-- is_normal
unfoldable pub is_normal_call : Limits → (term : Bytes) → Outcome Bool
is_normal_call L t = mapped (λ u. is_normal_term (step u)) (read_term L 1 t)

-- is_straight (demand 3)
unfoldable pub is_straight_call : Limits → (term : Bytes) → Outcome Bool
is_straight_call L t = mapped straight (read_term L 1 t)

-- The parts stand behind the tag and the names, one after the other.
abbrev pub places_from : (place : ℕ) → List Term → List Places
places_from i [] = []
places_from i (t ∷ ts) = (record { from = i; end = i + size t }) ∷ places_from (i + size t) ts

abbrev pub part_places : Term → List Places
part_places t = places_from (1 + length (encode_names (names t))) (parts t)

-- 14: the term has no such child.
abbrev pub or_no_child : Option Places → Outcome Places
or_no_child none = refuse NoSuchChild 0 0
or_no_child (some p) = Ok p

-- locate: where child k stands, counted from 0.
unfoldable pub locate_call : Limits → (term : Bytes) → (k : ℕ) → Outcome Places
locate_call L t k = do
  u ← read_term L 1 t
  or_no_child (get_elem? (part_places u) k)

-- child: the part of the caller's bytes that is child k; refused, an empty part.
abbrev pub part_or_empty : (bytes : Bytes) → Outcome Places → Bytes
part_or_empty s (Ok p) = take (p.end - p.from) (drop p.from s)
part_or_empty s (Err r) = []

unfoldable pub child_call : Limits → (term : Bytes) → (k : ℕ) → Bytes
child_call L t k = part_or_empty t (locate_call L t k)

-- and where in the caller's bytes that part starts; an empty part stands at their start
abbrev pub start_or_first : Outcome Places → ℕ
start_or_first (Ok p) = p.from
start_or_first (Err r) = 0

unfoldable pub child_start : Limits → (term : Bytes) → (k : ℕ) → ℕ
child_start L t k = start_or_first (locate_call L t k)

-- a second call tells the number and place
abbrev pub fault_of : {A : Type 0} → Outcome A → Option Refusal
fault_of (Ok a) = none
fault_of (Err r) = some r

unfoldable pub child_fault_call : Limits → (term : Bytes) → (k : ℕ) → Option Refusal
child_fault_call L t k = fault_of (locate_call L t k)

-- store: the content is a legal term or proof.
unfoldable pub store_call : Limits → Kind → (content output : Bytes) → Wrote ℕ
store_call L k s o = wrote o (lent (room_for (stored_room L) o) (bytes_or (mapped (λ _. stored k s) (read_kind L k 1 s))))

-- load: the content of a stored file.
unfoldable pub load_call : Limits → Kind → (file output : Bytes) → Wrote ℕ
load_call L k f o = wrote o (lent (room_for (output_room L) o) (bytes_or (opened L k f)))

-- An extractor is a counter; it may start at any.
abbrev pub start_call : (counter : ℕ) → ℕ
start_call n = n

-- a cut entry: the formula's place, the name's counter
abbrev pub Entry : Type 0
Entry = ℕ × ℕ

abbrev pub no_entry : Entry
no_entry = (0, 0)

-- extract: the length of the term; a refusal leaves the counter as it was.
pub record Extracted : Type 0 where
  pub answer : Outcome ℕ
  pub output : Bytes
  pub scratch : Bytes
  pub entries : List Entry
  pub counter : ℕ

abbrev pub extract_ending : Outcome (Term × ℕ) → Ending ℕ
extract_ending o = bytes_or (mapped (λ r. encode r.0) o)

abbrev pub counter_after : {A : Type 0} → (before : ℕ) → Outcome A → Outcome (Term × ℕ) → ℕ
counter_after n (Ok a) (Ok r) = r.1
counter_after n (Ok a) (Err r) = n
counter_after n (Err f) o = n

abbrev pub extract_with : (output scratch : Bytes) (entries : List Entry) (counter : ℕ) → Outcome (Term × ℕ) → Ending ℕ → Extracted
extract_with o s es n x e =
    record {
      answer = e.says;
      output = filled o e.writes;
      scratch = cleared 0 s e.says;
      entries = cleared no_entry es e.says;
      counter = counter_after n e.says x;
    }

abbrev pub proof_outcome : Limits → (counter : ℕ) → (proof : Bytes) → Outcome (Term × ℕ)
proof_outcome L n p = do
  q ← read_proof L 1 p
  extract_from L n q

unfoldable pub extract_call : Limits → (counter : ℕ) → (proof output scratch : Bytes) → (entries : List Entry) → Extracted
extract_call L n p o s es =
    extract_with o s es n (proof_outcome L n p) (lent (work_room L o s && (entry_room L ≤? length es)) (extract_ending (proof_outcome L n p)))
