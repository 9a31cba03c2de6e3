-- A whole extraction: what it comes to, from the term and the counter after it; and what the call leaves.
-- Assumes nothing: these are definitions.
use Rattle.std.specs.Prelude.{ℕ, ◌+◌, ◌≤◌, ◌≡◌, Bool, true, false, List, length, Ok, Err}
use Rattle.rules.specs.Basic.{Bytes, ◌<?◌}
use Rattle.rules.specs.Limits.{limits, output_room, most_counter}
use Rattle.rules.specs.Refusal.{Outcome, refuse}
use Rattle.rules.specs.declared.Reason.TheVariants.{Outgrows, CounterOver}
use Rattle.rules.specs.Term.{Term, encode, fits}
use Rattle.rules.specs.Legal.{Legal}
use Rattle.rules.specs.Proof.{Proof, rules}
use Rattle.rules.specs.Buffers.{filled, cleared}
use Rattle.rules.specs.Calls.{extract_ending}
use Rattle.laws.specs.reading.DecodingProof.{ProofIn}
use Rattle.draft.specs.declared.row.Row.{Row}
use Rattle.draft.specs.declared.size.Size.{Size}
use Rattle.draft.specs.Draft.{Drafts}
use Rattle.draft.specs.Made.{Small}
use Rattle.proof_draft.specs.declared.put.Drafted.{Drafted}
use Rattle.extract.specs.declared.Extraction.{Extraction}

-- 9, then 8
abbrev pub decided : (over fit : Bool) → Term × ℕ → Outcome (Term × ℕ)
decided true fit e = refuse CounterOver 0 0
decided false true e = Ok e
decided false false e = refuse Outgrows 0 0

abbrev pub outcome : Term × ℕ → Outcome (Term × ℕ)
outcome e = decided (most_counter <? e.1) (fits limits e.0) e

-- the code's answer: how many bytes were written, and the counter after it
abbrev pub extraction : Outcome ℕ → (counter : ℕ) → Outcome Extraction
extraction (Ok b) n = Ok (record { bytes = b; counter = n })
extraction (Err q) n = Err q

abbrev pub told : Outcome (Term × ℕ) → Outcome Extraction
told (Ok e) = Ok (record { bytes = length (encode e.0); counter = e.1 })
told (Err q) = Err q

-- a draft of the term of e, which is legal if its counter is not over the most; and room for its sizes and for a term
pub record Finishes (s : Bytes) (ws : List Row) (d : Drafted) (zs : List Size) (out : Bytes) (e : Term × ℕ) : Type 0 where
  pub counter : d.counter ≡ e.1
  pub part : Drafts s ws d.used d.part e.0
  pub small : Small ws d.used
  pub sized : d.used + 2 ≤ length zs
  pub legal : e.1 ≤ most_counter → Legal e.0
  pub room : output_room limits ≤ length out

-- the answer, the output and the scratch are what the outcome says
pub record Finished (e : Term × ℕ) (out scratch : Bytes) (r : Outcome Extraction) (out' scratch' : Bytes) : Type 0 where
  pub says : r ≡ told (outcome e)
  pub leaves : out' ≡ filled out (extract_ending (outcome e)).writes
  pub clears : scratch' ≡ cleared 0 scratch (extract_ending (outcome e)).says

-- s is the proof p, of so many rules at most, and there is room for a term
pub record Checked (s out : Bytes) (most : ℕ) (p : Proof) : Type 0 where
  pub holds : ProofIn limits s p
  pub few : rules p ≤ most
  pub room : output_room limits ≤ length out
