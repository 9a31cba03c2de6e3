-- How an extraction ends over a row of cut entries: what is answered, the counter after it, and how many entries are set to zeros; and when all that was lent stands as a call of the rules leaves it.
-- Assumes nothing: these are definitions.
use Rattle.std.specs.Prelude.{ℕ, ◌≤◌, ◌≡◌, List, [], length, Option, Some, None, if◌then◌else◌, Ok, Err}
use Rattle.rules.specs.Basic.{Bytes}
use Rattle.rules.specs.declared.Reason.{Reason}
use Rattle.rules.specs.Refusal.{spares_scratch, Outcome}
use Rattle.rules.specs.declared.Refusal.{Refusal}
use Rattle.rules.specs.Limits.{limits, entry_room, most_counter}
use Rattle.rules.specs.Term.{Term}
use Rattle.rules.specs.Proof.{Proof}
use Rattle.rules.specs.Extraction.{terms, extract}
use Rattle.rules.specs.Calls.{Entry, no_entry, Extracted, extract_call}
use Rattle.proof_draft.specs.Entries.{zeroed}
use Rattle.extract.specs.Whole.{extraction, Finished, Checked}
use Rattle.extract.specs.declared.Extraction.{Extraction}
use Rattle.extract.specs.declared.ending.Ended.{Ended}

-- a refusal by 1 to 7, 9 or 15 leaves the row untouched
abbrev pub clears_of : Reason → (room : ℕ) → ℕ
clears_of reason room = if spares_scratch reason then 0 else room

abbrev pub end_refused : Refusal → (before room : ℕ) → Ended
end_refused q before room = record { answer = Err q; counter = before; clears = clears_of q.reason room }

abbrev pub ended_of : Outcome Extraction → (before room : ℕ) → Ended
ended_of (Ok made) before room = record { answer = Ok made.bytes; counter = made.counter; clears = room }
ended_of (Err q) before room = end_refused q before room

-- the answer, the output, the scratch, the entries and the counter are those of x
pub record Extracts (x : Extracted) (r : Outcome ℕ) (out scratch : Bytes) (entries : List Entry) (counter : ℕ) : Type 0 where
  pub says : r ≡ x.answer
  pub leaves : out ≡ x.output
  pub clears : scratch ≡ x.scratch
  pub zeroes : entries ≡ x.entries
  pub counts : counter ≡ x.counter

-- what is had of an extraction beside a row of m entries
abbrev pub Beside : (n : ℕ) (p out scratch : Bytes) (m : ℕ) → Ended → Bytes → Bytes → Type 0
Beside n p out scratch m r out' scratch' =
    (es : List Entry) → length es ≡ m → (r.clears ≤ m) × Extracts (extract_call limits n p out scratch es) r.answer out' scratch' (zeroed no_entry r.clears es) r.counter

-- an extraction says, and leaves, what the call does that has entries enough
abbrev pub Alone : (n : ℕ) (p out scratch : Bytes) → Outcome Extraction → Bytes → Bytes → Type 0
Alone n p out scratch x out' scratch' =
    ((es : List Entry) → entry_room limits ≤ length es → x ≡ extraction (extract_call limits n p out scratch es).answer (extract_call limits n p out scratch es).counter)
    × (((es : List Entry) → entry_room limits ≤ length es → out' ≡ (extract_call limits n p out scratch es).output)
    × ((es : List Entry) → entry_room limits ≤ length es → scratch' ≡ (extract_call limits n p out scratch es).scratch))

-- a checked proof, a counter that is not over the most, and enough entries: the proof is to be walked
pub record Walks (n room : ℕ) (p out scratch : Bytes) : Type 0 where
  pub enough : entry_room limits ≤ room
  pub low : n ≤ most_counter
  pub value : Proof
  pub checked : Checked p out limits.rules value
  pub means : (x : Outcome Extraction) (out' scratch' : Bytes) → Finished (extract terms value [] n) out scratch x out' scratch' → Alone n p out scratch x out' scratch'

-- the call ends before anything is walked, and the row stays as it was; or the proof is to be walked
abbrev pub Begins : (n room : ℕ) (p out scratch : Bytes) → Option Ended → Type 0
Begins n room p out scratch (Some r) = (r.clears ≡ 0) × Beside n p out scratch room r out scratch
Begins n room p out scratch None = Walks n room p out scratch

-- the walk is over, and its draft is measured and written
pub record Closes (n room : ℕ) (e : Term × ℕ) (out scratch : Bytes) (r : Ended) (out' scratch' : Bytes) : Type 0 where
  pub made : Outcome Extraction
  pub finished : Finished e out scratch made out' scratch'
  pub is : r ≡ ended_of made n room
