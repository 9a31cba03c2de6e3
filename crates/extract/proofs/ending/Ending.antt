-- What a call of the rules leaves, from how the extraction beside the row ended: by cases of its answer.
-- Assumes nothing.
use Prim.Native.Nat.{ℕ, ◌<◌, ◌≤◌}
use mathlib.Core.Path.{◌≡◌, refl, sym, ap, subst, ◌∙◌}
use mathlib.Core.Bool.{Bool, true, false, ◌&&◌}
use mathlib.Core.List.{List, []}
use native.Mathlib.Omega.{arith}
use lib.ListN.{length, replicate, length-replicate}
use borrow.Author.Tests.{lt-leb}
use Rattle.std.specs.Prelude.{Some, None, if◌then◌else◌, Ok, Err}
use Rattle.rules.specs.Basic.{Bytes, ◌≤?◌}
use Rattle.rules.specs.Limits.{limits, entry_room, most_counter}
use Rattle.rules.specs.Proof.{Proof, rules}
use Rattle.rules.specs.Reading.{read_proof}
use Rattle.rules.specs.Extraction.{terms, extract}
use Rattle.rules.specs.declared.Refusal.{Refusal}
use Rattle.laws.specs.reading.Octets.{Octets}
use Rattle.laws.specs.reading.Numbers.{proof-spares}
use Rattle.buffer.specs.Rooms.{Rooms}
use Rattle.proof.specs.Accepted.{refuses-proof}
use Rattle.draft.specs.declared.row.Row.{Row}
use Rattle.draft.specs.Draft.{no_row}
use Rattle.proof_draft.specs.declared.put.Drafted.{Drafted}
use Rattle.proof_draft.specs.Walk.{Done, Starts, Ends}
use Rattle.proof_draft.specs.Whole.{Whole}
use Rattle.proof_draft.proofs.own.Starting.{whole-starts, whole-ends}
use Rattle.rules.specs.declared.Reason.{Reason}
use Rattle.rules.specs.declared.Reason.TheVariants.{ShortBuffer, CounterOver}
use Rattle.rules.specs.Refusal.{Outcome, mapped, spares_scratch}
use Rattle.rules.specs.Term.{Term}
use Rattle.rules.specs.Buffers.{cleared}
use Rattle.rules.specs.Calls.{Entry, no_entry, work_room, counter_after, proof_outcome, extract_call}
use Rattle.extract.specs.Whole.{extraction, Checked}
use Rattle.extract.proofs.Starting.{whole, over-counter, checked-most}
use Rattle.extract.proofs.Calling.{no_room, bad-proof, read, good-proof, value}
use Rattle.extract.specs.declared.Extraction.{Extraction}
use Rattle.proof_draft.specs.declared.entry.CutEntry.{CutEntry}
use Rattle.extract.specs.declared.ending.Ended.{Ended}
use Rattle.proof_draft.specs.Entries.{none, zeroed, pairs}
use Rattle.extract.specs.Ending.{end_refused, ended_of, Extracts, Beside, Alone, Begins, Closes}
use Rattle.proof_draft.proofs.entry.Filling.{zeroed-all, length_pairs, pairs-zeroed}

-- a refusal that is about no place of an input
abbrev bare : Reason → Refusal
bare k = record { reason = k; place = 0; input = 0 }

few-of : (b : Bool) (m : ℕ) → (if b then 0 else m) ≤ m
few-of true m = omega arith
few-of false m = omega arith

few : (x : Outcome Extraction) (n m : ℕ) → (ended_of x n m).clears ≤ m
few (Ok made) n m = omega arith
few (Err q) n m = few-of (spares_scratch q.reason) m

spared : (b : Bool) (es : List Entry) → zeroed no_entry (if b then 0 else length es) es ≡ (if b then es else replicate (length es) no_entry)
spared true es = refl
spared false es = zeroed-all no_entry es

zeroes-is : (a : Outcome ℕ) (k n : ℕ) (es : List Entry) → zeroed no_entry (ended_of (extraction a k) n (length es)).clears es ≡ cleared no_entry es a
zeroes-is (Ok b) k n es = zeroed-all no_entry es
zeroes-is (Err q) k n es = spared (spares_scratch q.reason) es

answer-is : (a : Outcome ℕ) (k n m : ℕ) → (ended_of (extraction a k) n m).answer ≡ a
answer-is (Ok b) k n m = refl
answer-is (Err q) k n m = refl

counter-is : (a : Outcome ℕ) (x : Outcome (Term × ℕ)) (n m : ℕ) → (ended_of (extraction a (counter_after n a x)) n m).counter ≡ counter_after n a x
counter-is (Ok b) x n m = refl
counter-is (Err q) x n m = refl

module _ (n : ℕ) (p out scratch : Bytes) where
  -- too few entries
  pub short_row : (m : ℕ) → m < entry_room limits → {r : Ended} → r ≡ ended_of (Err (bare ShortBuffer)) n m → Beside n p out scratch m r out scratch
  unfolding extract_call
  short_row m h {r} q es e = subst (λ (z : Ended). (z.clears ≤ m) × Extracts (extract_call limits n p out scratch es) z.answer out scratch (zeroed no_entry z.clears es) z.counter) (sym q)
      (omega arith, rw (no_room) (record { says = refl; leaves = refl; clears = refl; zeroes = refl; counts = refl }))
    where
      neither : (a b : Bool) → b ≡ false → (a && b) ≡ false
      neither true b i = i
      neither false b i = refl

      no_room : (work_room limits out scratch && (entry_room limits ≤? length es)) ≡ false
      no_room = neither (work_room limits out scratch) (entry_room limits ≤? length es) (lt-leb (entry_room limits) (length es) (subst (λ (k : ℕ). k < entry_room limits) (sym e) h))

  -- entries enough: the answer of the extraction that has its own
  pub long-row : (m : ℕ) → entry_room limits ≤ m → {x : Outcome Extraction} {r : Ended} {out' scratch' : Bytes} → r ≡ ended_of x n m
      → ((es : List Entry) → entry_room limits ≤ length es → x ≡ extraction (extract_call limits n p out scratch es).answer (extract_call limits n p out scratch es).counter)
      → ((es : List Entry) → entry_room limits ≤ length es → out' ≡ (extract_call limits n p out scratch es).output)
      → ((es : List Entry) → entry_room limits ≤ length es → scratch' ≡ (extract_call limits n p out scratch es).scratch) → Beside n p out scratch m r out' scratch'
  unfolding extract_call
  long-row m h {x} {r} {out'} {scratch'} q a b c es e =
      let g : entry_room limits ≤ length es = subst (λ (k : ℕ). entry_room limits ≤ k) (sym e) h in
      let X = extract_call limits n p out scratch es in
      let y = extraction X.answer X.counter in
      let w : r ≡ ended_of y n (length es) = q ∙ ap (λ (z : Outcome Extraction). ended_of z n m) (a es g) ∙ ap (λ (k : ℕ). ended_of y n k) (sym e) in (
        subst (λ (z : Ended). z.clears ≤ m) (sym q) (few x n m),
        record {
          says = ap (λ (z : Ended). z.answer) w ∙ answer-is X.answer X.counter n (length es);
          leaves = b es g;
          clears = c es g;
          zeroes = ap (λ (z : Ended). zeroed no_entry z.clears es) w ∙ zeroes-is X.answer X.counter n es;
          counts = ap (λ (z : Ended). z.counter) w ∙ counter-is X.answer (proof_outcome limits n p) n (length es);
        },
      )

-- the same, over the row itself
over-row : (n : ℕ) (p out scratch : Bytes) {m : ℕ} (r : Ended) {out' scratch' : Bytes} (ys : List CutEntry) → length ys ≡ m → Beside n p out scratch m r out' scratch' → (zs : List CutEntry) → zs ≡ zeroed none r.clears ys
    → Extracts (extract_call limits n p out scratch (pairs ys)) r.answer out' scratch' (pairs zs) r.counter
over-row n p out scratch r ys e b zs q =
    let x = (b (pairs ys) (length_pairs ys ∙ e)).1 in
    record { says = x.says; leaves = x.leaves; clears = x.clears; zeroes = ap pairs q ∙ pairs-zeroed r.clears ys ∙ x.zeroes; counts = x.counts }

-- ---- before anything is walked

module _ (n room : ℕ) (p out scratch : Bytes) where
  is-bare : {k : Reason} {q : Refusal} → q ≡ bare k → {r : Ended} → r ≡ end_refused q n room → r ≡ end_refused (bare k) n room
  is-bare i e = e ∙ ap (λ (x : Refusal). end_refused x n room) i

  untouched : (x : Refusal) → spares_scratch x.reason ≡ true → {r : Ended} → r ≡ ended_of (Err x) n room → r.clears ≡ 0
  untouched x s q = ap (λ (z : Ended). z.clears) q ∙ ap (λ (b : Bool). if b then 0 else room) s

  pub begins-short : room < entry_room limits → {q : Refusal} → q ≡ bare ShortBuffer → {r : Ended} → r ≡ end_refused q n room → Begins n room p out scratch (Some r)
  begins-short h i q = let e = is-bare i q in (untouched _ refl e, short_row n p out scratch room h e)

  module _ (h : entry_room limits ≤ room) where
    stays : (x : Refusal) → spares_scratch x.reason ≡ true → {r : Ended} → r ≡ ended_of (Err x) n room → Alone n p out scratch (Err x) out scratch
        → Begins n room p out scratch (Some r)
    stays x s q a = (untouched x s q, long-row n p out scratch room h q a.0 a.1.0 a.1.1)

    module _ {b : Bool} (w : Rooms (length out) (length scratch) b) where
      pub begins-no-room : b ≡ true → {q : Refusal} → q ≡ bare ShortBuffer → {r : Ended} → r ≡ end_refused q n room → Begins n room p out scratch (Some r)
      begins-no-room l i q = stays _ refl (is-bare i q) (no_room n p out scratch w l refl)

      module _ (l : b ≡ false) where
        pub begins-bad : (x : Refusal) → mapped rules (read_proof limits 1 p) ≡ Err x → {r : Ended} → r ≡ ended_of (Err x) n room
            → Begins n room p out scratch (Some r)
        begins-bad x e q = stays x (proof-spares limits 1 p x (refuses-proof limits 1 p e)) q (bad-proof n p out scratch w l x e)

        module _ (j : ℕ) (o : Octets p) (e : mapped rules (read_proof limits 1 p) ≡ Ok j) where
          pub begins-nine : most_counter < n → {q : Refusal} → q ≡ bare CounterOver → {r : Ended} → r ≡ end_refused q n room → Begins n room p out scratch (Some r)
          begins-nine g i q = stays _ refl (is-bare i q) (good-proof n p out scratch w l j o e (over-counter (read n p out scratch w l j o e) g refl))

          pub begins-walk : n ≤ most_counter → Begins n room p out scratch None
          begins-walk g =
              record {
                enough = h;
                low = g;
                value = value n p out scratch w l j o e;
                checked = checked-most (read n p out scratch w l j o e);
                means = λ x out' scratch' f. good-proof n p out scratch w l j o e f;
              }

-- what the walk asks, and what it gives, where the call did not end before
pub walk-gives : {n m : ℕ} {p out scratch : Bytes} (ys : List CutEntry) → length ys ≡ m → Begins n m p out scratch None → {r : Ended} {out' scratch' : Bytes} {zs : List CutEntry} → zs ≡ zeroed none r.clears ys
    → ((v : Proof) → Checked p out limits.rules v → Closes n (length ys) (extract terms v [] n) out scratch r out' scratch')
    → Extracts (extract_call limits n p out scratch (pairs ys)) r.answer out' scratch' (pairs zs) r.counter
walk-gives {n} {m} {p} {out} {scratch} ys e w {r} {out'} {scratch'} {zs} q f =
    let c = subst (λ (k : ℕ). Closes n k (extract terms w.value [] n) out scratch r out' scratch') e (f w.value w.checked) in
    let a = w.means c.made out' scratch' c.finished in
    over-row n p out scratch r ys e (long-row n p out scratch m w.enough c.is a.0 a.1.0 a.1.1) zs q

pub stop-gives : (n : ℕ) (p out scratch : Bytes) {m : ℕ} (ys : List CutEntry) → length ys ≡ m → (b : Ended) → Begins n m p out scratch (Some b) → Extracts (extract_call limits n p out scratch (pairs ys)) b.answer out scratch (pairs ys) b.counter
stop-gives n p out scratch ys e b s = over-row n p out scratch b ys e s.1 ys (sym (ap (λ (k : ℕ). zeroed none k ys) s.0))

-- no more entries are set to zeros than there are
pub closes-few : {n m : ℕ} {x : Term × ℕ} {out scratch : Bytes} {r : Ended} {out' scratch' : Bytes} → Closes n m x out scratch r out' scratch' → r.clears ≤ m
closes-few {n} {m} c = subst (λ (z : Ended). z.clears ≤ m) (sym c.is) (few c.made n m)

-- ---- the walk

abbrev pub no_rows : List Row
no_rows = replicate limits.rules no_row

module _ {s out : Bytes} {p : Proof} {n : ℕ} (low : n ≤ most_counter) (w : Checked s out limits.rules p) where
  whole-proof : Whole s limits.rules no_rows n p
  whole-proof = whole w low (length-replicate {A = Row} limits.rules no_row) (omega arith)

  pub walk-starts : {cs : List CutEntry} → entry_room limits ≤ length cs → Starts s 0 cs 0 no_rows 0 n
  walk-starts h = whole-starts h (p, whole-proof)

  pub walk-done : {cs : List CutEntry} → entry_room limits ≤ length cs → {ws : List Row} {d : Drafted} → Ends s 0 cs 0 no_rows ws 0 n d → Done s 0 no_rows ws 0 n p [] d
  walk-done h f = whole-ends h f p whole-proof
