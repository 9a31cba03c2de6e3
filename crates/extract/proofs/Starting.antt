-- A checked proof is walked from no entry and no row on, and its draft is of the term that the proof makes. Assumes nothing.
use Prim.Native.Nat.{ℕ, ◌+◌, ◌<◌, ◌≤◌}
use mathlib.Core.Path.{◌≡◌, sym, ap, ◌∙◌}
use mathlib.Core.Bool.{Bool, true}
use mathlib.Core.List.{List, [], append-nil}
use native.Mathlib.Omega.{arith}
use lib.ListN.{length}
use borrow.Author.Tests.{lt-ltb}
use Rattle.rules.specs.Basic.{Bytes, ◌<?◌}
use Rattle.rules.specs.Limits.{limits, most_counter}
use Rattle.rules.specs.Refusal.{Outcome, refuse}
use Rattle.rules.specs.declared.Reason.TheVariants.{CounterOver}
use Rattle.rules.specs.Term.{Term, fits}
use Rattle.rules.specs.Proof.{Proof, encode_proof}
use Rattle.rules.specs.Extraction.{terms, extract}
use Rattle.rules.specs.Buffers.{filled, cleared}
use Rattle.rules.specs.Calls.{extract_ending}
use Rattle.draft.specs.declared.row.Row.{Row}
use Rattle.draft.specs.declared.size.Size.{Size}
use Rattle.proof_draft.specs.declared.put.Drafted.{Drafted}
use Rattle.proof_draft.specs.Walk.{Done}
use Rattle.proof_draft.specs.Whole.{Whole}
use Rattle.extract.specs.Legals.{extract-fine}
use Rattle.extract.specs.Whole.{decided, outcome, told, Finishes, Finished, Checked}
use Rattle.extract.specs.declared.Extraction.{Extraction}

module _ {s out : Bytes} {most : ℕ} {p : Proof} (w : Checked s out most p) {n : ℕ} where
  -- rows for its rules, and a row of entries for as many or more
  pub whole : {ws : List Row} {more : ℕ} → n ≤ most_counter → length ws ≡ most → most ≤ more → Whole s more ws n p
  whole low e h =
      record {
        proof = record { rest = []; bytes = w.holds.bytes ∙ sym (append-nil (encode_proof p)) };
        many = omega (arith, w.few, h);
        room = omega (arith, w.few, e);
        few = omega (arith, w.holds.few-rules, low);
      }

  pub done-finishes : {ws ws' : List Row} {zs : List Size} {d : Drafted} → length zs ≡ most + 2 → Done s 0 ws ws' 0 n p [] d → Finishes s ws' d zs out (extract terms p [] n)
  done-finishes l x =
      record {
        counter = x.counter;
        part = x.part;
        small = x.small;
        sized = omega (arith, x.few, w.few);
        legal = λ h. (extract-fine p w.holds.legal).legal [] n tt h;
        room = w.room;
      }

  -- with arrays for so many rules, what is drafted can be finished
  pub whole-finishes : {ws ws' : List Row} {zs : List Size} {d : Drafted} {more : ℕ} → n ≤ most_counter → length ws ≡ most → most ≤ more → length zs ≡ most + 2
      → ((q : Proof) → Whole s more ws n q → Done s 0 ws ws' 0 n q [] d) → Finishes s ws' d zs out (extract terms p [] n)
  whole-finishes low e h l f = done-finishes l (f p (whole low e h))

  -- a counter that is over the most before the walk is over it after the walk
  pub over-counter : most_counter < n → {scratch : Bytes} {r : Outcome Extraction} → r ≡ told (refuse CounterOver 0 0) → Finished (extract terms p [] n) out scratch r out scratch
  over-counter g {scratch} q =
      let x = extract terms p [] n in
      let up : n ≤ x.1 = (extract-fine p w.holds.legal).rises [] n in
      let z : (most_counter <? x.1) ≡ true = lt-ltb most_counter x.1 (omega (arith, g, up)) in
      let e : outcome x ≡ refuse CounterOver 0 0 = ap (λ (b : Bool). decided b (fits limits x.0) x) z in
      record { says = q ∙ ap told (sym e); leaves = ap (λ (z : Outcome (Term × ℕ)). filled out (extract_ending z).writes) (sym e); clears = ap (λ (z : Outcome (Term × ℕ)). cleared 0 scratch (extract_ending z).says) (sym e) }

-- a proof of no more rules than were counted; and of no more than a proof can have
pub checked-within : {s out : Bytes} {m most : ℕ} {p : Proof} → Checked s out m p → m ≤ most → Checked s out most p
checked-within w h = record { holds = w.holds; few = omega (arith, w.few, h); room = w.room }

pub checked-most : {s out : Bytes} {m : ℕ} {p : Proof} → Checked s out m p → Checked s out limits.rules p
checked-most w = record { holds = w.holds; few = w.holds.few-rules; room = w.room }
