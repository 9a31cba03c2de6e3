-- Refusals and lent buffers, with something wrong or nothing.
-- Assumes nothing: these are definitions.
use Rattle.std.specs.Prelude.{ℕ, ◌-◌, suc, Bool, true, false, not, ◌&&◌, ◌||◌, List, length, replicate, take, drop, if◌then◌else◌, ◌==◌, Ok, Err}
use Rattle.std.proofs.Math.Option.{Option, none, some}
use Rattle.rules.specs.Basic.{Bytes, between, ◌‥◌}
use Rattle.rules.specs.Refusal.{Outcome, refuse, number_of, mapped}
use Rattle.rules.specs.declared.Reason.TheVariants.{ShortBuffer, EndsInside}
use Rattle.rules.specs.Term.{Term}
use Rattle.rules.specs.Buffers.{Ending, writes_nothing, lent, filled, written, cleared, Wrote, Worked}
use Rattle.rules.specs.Calls.{ReduceAnswer, ReduceCall, Entry, no_entry, Extracted, counter_after}
use Rattle.promises.specs.Wrong.{Wrong, ◌is◌, refuses-with-1, refuses-with-3, says-yes, copies-input, raises-counter-on-refusal, leaves-scratch, leaves-entries, clears-scratch-on-refusal, clears-entries-on-refusal, leaves-byte-behind, writes-on-refusal}

-- 1 is about no input; 3 is that of an empty first input
abbrev pub says : {A : Type 0} → Wrong → Outcome A → Outcome A
says w o = if w is refuses-with-1 then refuse ShortBuffer 0 0 else (if w is refuses-with-3 then refuse EndsInside 0 1 else o)

abbrev pub lent_by : {A : Type 0} → Wrong → Bool → Ending A → Ending A
lent_by w b e = if w is refuses-with-1 || w is refuses-with-3 then writes_nothing (says w e.says) else lent b e

-- bytes that are made of an input, or that input
abbrev pub copied : Wrong → (input : Bytes) → Outcome Bytes → Outcome Bytes
copied w s o = if w is copies-input then mapped (λ _. s) o else o

abbrev pub agreed : Wrong → Outcome Bool → Outcome Bool
agreed w o = if w is says-yes then mapped (λ _. true) o else o

abbrev pub was_refused : {A : Type 0} → Outcome A → Bool
was_refused (Ok a) = false
was_refused (Err r) = true

-- the answer, the byte behind it as it was lent, then zeros
abbrev pub filled_but : (buffer : Bytes) → Option Bytes → Bytes
filled_but b none = b
filled_but b (some s) = s ‥ take 1 (drop (length s) b) ‥ replicate (length b - suc (length s)) 0

abbrev pub filled_by : {A : Type 0} → Wrong → (buffer : Bytes) → Ending A → Bytes
filled_by w b e =
    if w is writes-on-refusal && was_refused e.says then replicate (length b) 0
    else (if w is leaves-byte-behind then filled_but b e.writes else filled b e.writes)

-- no refusal 2 to 7 or 15
abbrev pub was_read : {A : Type 0} → Outcome A → Bool
was_read (Ok a) = true
was_read (Err r) = not (between 2 7 (number_of r.reason) || (number_of r.reason == 15))

abbrev pub cleared_by : {A B : Type 0} → (leaves clears : Bool) → (zero : B) → List B → Outcome A → List B
cleared_by leaves clears z b o =
    if leaves && not (was_refused o) then b
    else (if clears && not (was_read o) then replicate (length b) z else cleared z b o)

abbrev pub scratch_by : {A : Type 0} → Wrong → Bytes → Outcome A → Bytes
scratch_by w s o = cleared_by (w is leaves-scratch) (w is clears-scratch-on-refusal) 0 s o

abbrev pub entries_by : {A : Type 0} → Wrong → List Entry → Outcome A → List Entry
entries_by w es o = cleared_by (w is leaves-entries) (w is clears-entries-on-refusal) no_entry es o

abbrev pub counter_by : {A : Type 0} → Wrong → (before : ℕ) → Outcome A → Outcome (Term × ℕ) → ℕ
counter_by w n o x = if w is raises-counter-on-refusal && was_refused o then suc n else counter_after n o x

-- what stands after a call
abbrev pub wrote_by : {A : Type 0} → Wrong → (output : Bytes) → Ending A → Wrote A
wrote_by w o e = record { answer = e.says; output = filled_by w o e }

abbrev pub worked_by : {A : Type 0} → Wrong → (output scratch : Bytes) → Ending A → Worked A
worked_by w o s e = record { answer = e.says; output = filled_by w o e; scratch = scratch_by w s e.says }

abbrev pub reduced_by : Wrong → (output scratch : Bytes) → Ending ReduceAnswer → ReduceCall
reduced_by w o s e = record { answer = e.says; output_length = written e.writes; output = filled_by w o e; scratch = scratch_by w s e.says }

abbrev pub extracted_by : Wrong → (output scratch : Bytes) (entries : List Entry) (counter : ℕ) → Outcome (Term × ℕ) → Ending ℕ → Extracted
extracted_by w o s es n x e =
    record {
      answer = e.says;
      output = filled_by w o e;
      scratch = scratch_by w s e.says;
      entries = entries_by w es e.says;
      counter = counter_by w n e.says x;
    }
