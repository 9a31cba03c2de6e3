-- From a rule's premises to what it makes of them: what each premise starts from, and what the rule comes to when they are walked.
-- By the definition's own words for each kind of rule; the entries, the rows and the counter go from premise to premise. Assumes nothing.
use Prim.Native.Nat.{ℕ, suc, ◌+◌, ◌-◌, ◌<◌, ◌≤◌}
use mathlib.Core.Path.{◌≡◌, ap, subst, ◌∙◌}
use mathlib.Core.List.{List, [], ◌∷◌, append-nil}
use native.Mathlib.Omega.{arith}
use lib.ListN.{length, length-append}
use Rattle.std.specs.Prelude.{Option}
use Rattle.rules.specs.Basic.{Bytes, ◌‥◌}
use Rattle.rules.specs.Formula.{Formula}
use Rattle.rules.specs.Term.{Term, two, pair}
use Rattle.rules.specs.Proof.{Proof, encode_proof}
use Rattle.rules.specs.Extraction.{terms, Entries, fresh, stem_for, extract, joined}
use Rattle.laws.specs.reading.Lists.{joined as row}
use Rattle.draft.specs.declared.row.Row.{Row}
use Rattle.draft.specs.declared.row.RowKind.{RowKind}
use Rattle.draft.specs.Draft.{Drafts}
use Rattle.draft.specs.Made.{most_number, over, Small}
use Rattle.proof.specs.Place.{FormulaAt, ProofsAt, proofs_long}
use Rattle.proof_draft.specs.Entry.{EntriesAt}
use Rattle.proof_draft.specs.Puts.{Open, Put}
use Rattle.proof_draft.specs.Walk.{Task, Premises, Past, Starts, Ends, over_first, pair_of, cut_of}
use Rattle.proof_draft.specs.declared.put.Drafted.{Drafted}
use Rattle.proof_draft.specs.declared.entry.CutEntry.{CutEntry}
use Rattle.proof.proofs.rule.Items.{Some, SkipIs, first, others}

-- a rule that reads its first premise, and one that reads two
abbrev pub FirstOf : Bytes → (at m : ℕ) (cs : List CutEntry) (k : ℕ) (ws : List Row) (used n : ℕ) → Type 0
FirstOf s at m cs k ws used n = (p : Proof) × (qs : List Proof) × (es : Entries) × Premises s at m cs k ws used n (p ∷ qs) es

abbrev pub TwoOf : Bytes → (at : ℕ) (cs : List CutEntry) (k : ℕ) (ws : List Row) (used n : ℕ) → Type 0
TwoOf s at cs k ws used n = (p : Proof) × (q : Proof) × (es : Entries) × Premises s at 2 cs k ws used n (p ∷ q ∷ []) es

long-first : (p : Proof) (qs : List Proof) → proofs_long (p ∷ qs) ≡ length (encode_proof p) + proofs_long qs
long-first p qs = length-append (encode_proof p) (row encode_proof qs)

part-among : {s : Bytes} {ws : List Row} {n i : ℕ} {t : Term} → Drafts s ws n i t → i < n + 2
part-among d = d.among

open_at : {s : Bytes} {ws : List Row} {u i : ℕ} {t : Term} → Drafts s ws u i t → Small ws u → u < length ws → Open ws u
open_at d m h = record { rows = d.rows; small = m; room = h }

-- ---- the first premise, with a row over it or none

module _ {s : Bytes} {at m : ℕ} {cs : List CutEntry} {k : ℕ} {ws : List Row} {used n : ℕ} where
  module _ (names : ℕ) (few : names ≤ 3) where
    first-task : (p : Proof) (qs : List Proof) (es : Entries) → Premises s at m cs k ws used n (p ∷ qs) es → Task s at cs k ws used (n + names) p es
    first-task p qs es w =
        let r = w.ready in
        record {
          proof = first encode_proof s at m p qs w.proofs;
          ready =
              record {
                entries = r.entries;
                rows = r.rows;
                small = r.small;
                placed = omega (arith, r.placed);
                room = omega (arith, r.room);
                few = omega (arith, r.few);
              };
        }

    pub first-starts : FirstOf s at m cs k ws used n → Starts s at cs k ws used (n + names)
    first-starts (p, qs, es, w) = (p, es, first-task p qs es w)

    pub first_some : FirstOf s at m cs k ws used n → 0 < m
    first_some (p, qs, es, w) = omega (arith, w.proofs.many)

    module _ {ws' : List Row} {r : Drafted} (a : Ends s at cs k ws ws' used (n + names) r) where
      rest-here : (p : Proof) (qs : List Proof) (es : Entries) → Premises s at m cs k ws used n (p ∷ qs) es → ProofsAt s r.next (m - 1) qs
      rest-here p qs es w = others encode_proof s at m p qs w.proofs r.next (a p es (first-task p qs es w)).next

      pub first_rest : FirstOf s at m cs k ws used n → Some encode_proof s r.next (m - 1)
      first_rest (p, qs, es, w) = (qs, rest-here p qs es w)

      pub first-open : length ws' ≡ length ws → FirstOf s at m cs k ws used n → Open ws' r.used × (n < most_number) × (r.part < r.used + 2)
      first-open l (p, qs, es, w) =
          let d = a p es (first-task p qs es w) in
          (open_at d.part d.small (omega (arith, d.few, w.ready.room)), omega (arith, w.ready.few), part-among d.part)

      module _ (kind : Option RowKind) {next : ℕ} {ws'' : List Row} {r' : Drafted} (f : SkipIs encode_proof s r.next (m - 1) next)
          (g : (s : Bytes) (t : Term) → Drafts s ws' r.used r.part t → Put s ws' ws'' r.used r.counter next (over s kind n t, r.counter) r') where
        pub first_ends : (p : Proof) (qs : List Proof) (es : Entries) → Premises s at m cs k ws used n (p ∷ qs) es
            → Past s at ws ws'' used n (p ∷ qs) (over_first s kind names p es n) r'
        first_ends p qs es w =
            let d = a p es (first-task p qs es w) in
            let e = g s (extract terms p es (n + names)).0 d.part in
            record {
              next = omega (arith, e.next, f qs (rest-here p qs es w), d.next, long-first p qs);
              counter = e.counter ∙ d.counter;
              part = e.part;
              small = e.small;
              few = omega (arith, e.few, d.few);
              low = omega (arith, e.counter, d.low);
              still = λ i t x. e.still i t (d.still i t x);
            }

-- ---- two premises

long-two : (p q : Proof) → proofs_long (p ∷ q ∷ []) ≡ length (encode_proof p) + length (encode_proof q)
long-two p q = omega (arith, long-first p (q ∷ []), ap (λ (z : Bytes). length z) (append-nil (encode_proof q)))

module _ {s : Bytes} {at : ℕ} {cs : List CutEntry} {k : ℕ} {ws : List Row} {used n : ℕ} where
  -- the first, after some names
  one-task : (names : ℕ) → names ≤ 1 → (p q : Proof) (es : Entries) → Premises s at 2 cs k ws used n (p ∷ q ∷ []) es → Task s at cs k ws used (n + names) p es
  one-task names h p q es w = first-task names (omega arith) p (q ∷ []) es w

  producer-task : (p q : Proof) (es : Entries) → Premises s at 2 cs k ws used n (p ∷ q ∷ []) es → Task s at cs k ws used (n + 1) p es
  producer-task p q es w = one-task 1 (omega arith) p q es w

  pub one-starts : (names : ℕ) → names ≤ 1 → TwoOf s at cs k ws used n → Starts s at cs k ws used (n + names)
  one-starts names h (p, q, es, w) = (p, es, one-task names h p q es w)

  -- without a name before it
  bare-task : (p q : Proof) (es : Entries) → Premises s at 2 cs k ws used n (p ∷ q ∷ []) es → Task s at cs k ws used n p es
  bare-task p q es w = let z : n + 0 ≡ n = omega arith in rw z at (one-task 0 (omega arith) p q es w)

  -- ---- paired

  module _ {ws' : List Row} {r : Drafted} (a : Ends s at cs k ws ws' used n r) where
    pub two-on : TwoOf s at cs k ws used n → at ≤ r.next
    two-on (p, q, es, w) = omega (arith, (a p es (bare-task p q es w)).next)

    module _ (lw : length ws' ≡ length ws) where
      two-task : (p q : Proof) (es : Entries) → Premises s at 2 cs k ws used n (p ∷ q ∷ []) es → Task s r.next cs k ws' r.used r.counter q es
      two-task p q es w =
          let b = w.ready in
          let d = a p es (bare-task p q es w) in
          record {
            proof = first encode_proof s r.next 1 q [] (others encode_proof s at 2 p (q ∷ []) w.proofs r.next d.next);
            ready =
                record {
                  entries = b.entries;
                  rows = d.part.rows;
                  small = d.small;
                  placed = omega (arith, b.placed);
                  room = omega (arith, b.room, d.few);
                  few = omega (arith, b.few, d.low);
                };
          }

      pub two-starts : TwoOf s at cs k ws used n → Starts s r.next cs k ws' r.used r.counter
      two-starts (p, q, es, w) = (q, es, two-task p q es w)

      module _ {ws'' : List Row} {r' : Drafted} (b : Ends s r.next cs k ws' ws'' r.used r.counter r') where
        pub pair-open : length ws'' ≡ length ws → TwoOf s at cs k ws used n → Open ws'' r'.used × (r.part < r'.used + 2) × (r'.part < r'.used + 2)
        pair-open lw' (p, q, es, w) =
            let d = a p es (bare-task p q es w) in
            let e = b q es (two-task p q es w) in
            let x = e.still r.part (extract terms p es n).0 d.part in
            (open_at e.part e.small (omega (arith, d.few, e.few, w.ready.room)), part-among x, part-among e.part)

        module _ {ws''' : List Row} {r'' : Drafted}
            (g : (s : Bytes) (t u : Term) → Drafts s ws'' r'.used r.part t → Drafts s ws'' r'.used r'.part u
            → Put s ws'' ws''' r'.used r'.counter r'.next (two pair t u, r'.counter) r'') where
          pub pair_ends : (p q : Proof) (es : Entries) → Premises s at 2 cs k ws used n (p ∷ q ∷ []) es → Past s at ws ws''' used n (p ∷ q ∷ []) (pair_of p q es n) r''
          pair_ends p q es w =
              let d = a p es (bare-task p q es w) in
              let e = b q es (two-task p q es w) in
              let x = e.still r.part (extract terms p es n).0 d.part in
              let h = g s (extract terms p es n).0 (extract terms q es r.counter).0 x e.part in
              record {
                next = omega (arith, h.next, e.next, d.next, long-two p q);
                counter = h.counter ∙ e.counter ∙ ap (λ (m : ℕ). (extract terms q es m).1) d.counter;
                part = let y = h.part in rw d.counter at y;
                small = h.small;
                few = omega (arith, h.few, e.few, d.few);
                low = omega (arith, h.counter, e.low, d.low);
                still = λ i t z. h.still i t (e.still i t (d.still i t z));
              }

-- ---- the producer and the consumer of a Cut

-- a Cut that reads two
abbrev pub CutOf : Bytes → (own at : ℕ) (cs : List CutEntry) (k : ℕ) (ws : List Row) (used n : ℕ) → Type 0
CutOf s own at cs k ws used n =
    (f : Formula) × (p : Proof) × (q : Proof) × (es : Entries) × FormulaAt s own f × Premises s at 2 cs k ws used n (p ∷ q ∷ []) es

-- the entries that the consumer has
abbrev pub with_entry : Formula → Entries → ℕ → Entries
with_entry f es n = es ‥ (f, (fresh (stem_for f) n).0) ∷ []

add-one : (n : ℕ) → n + 1 ≡ suc n
add-one n = omega arith

module _ {s : Bytes} {own at : ℕ} {cs : List CutEntry} {k : ℕ} {ws : List Row} {used n : ℕ} where
  pub cut-formula-here : CutOf s own at cs k ws used n → (f : Formula) × FormulaAt s own f
  cut-formula-here (f, p, q, es, v, w) = (f, v)

  module _ {ws' : List Row} {r : Drafted} (a : Ends s at cs k ws ws' used (n + 1) r) where
    pub cut_on : CutOf s own at cs k ws used n → at ≤ r.next
    cut_on (f, p, q, es, v, w) = omega (arith, (a p es (producer-task p q es w)).next)

    module _ {cs' : List CutEntry} (e : (f : Formula) (es : Entries) → FormulaAt s own f → EntriesAt s cs k es → EntriesAt s cs' (k + 1) (with_entry f es n))
        (lc : length cs' ≡ length cs) (lw : length ws' ≡ length ws) where
      consumer-task : (f : Formula) (p q : Proof) (es : Entries) → FormulaAt s own f → Premises s at 2 cs k ws used n (p ∷ q ∷ []) es
          → Task s r.next cs' (k + 1) ws' r.used r.counter q (with_entry f es n)
      consumer-task f p q es v w =
          let b = w.ready in
          let d = a p es (producer-task p q es w) in
          record {
            proof = first encode_proof s r.next 1 q [] (others encode_proof s at 2 p (q ∷ []) w.proofs r.next d.next);
            ready =
                record {
                  entries = e f es v b.entries;
                  rows = d.part.rows;
                  small = d.small;
                  placed = omega (arith, b.placed);
                  room = omega (arith, b.room, d.few);
                  few = omega (arith, b.few, d.low);
                };
          }

      pub consumer-starts : CutOf s own at cs k ws used n → Starts s r.next cs' (k + 1) ws' r.used r.counter
      consumer-starts (f, p, q, es, v, w) = (q, with_entry f es n, consumer-task f p q es v w)

      module _ {ws'' : List Row} {r' : Drafted} (b : Ends s r.next cs' (k + 1) ws' ws'' r.used r.counter r') where
        pub cut-open : length ws'' ≡ length ws → CutOf s own at cs k ws used n
            → Open ws'' r'.used × (r'.counter + 2 < most_number) × (r.part < r'.used + 2) × (r'.part < r'.used + 2)
        cut-open lw' (f, p, q, es, v, w) =
            let d = a p es (producer-task p q es w) in
            let c = b q (with_entry f es n) (consumer-task f p q es v w) in
            let x = c.still r.part (extract terms p es (n + 1)).0 d.part in (
              open_at c.part c.small (omega (arith, d.few, c.few, w.ready.room)),
              omega (arith, d.low, c.low, w.ready.few),
              part-among x,
              part-among c.part,
            )

        module _ {ws''' : List Row} {r'' : Drafted}
            (g : (f : Formula) (t u : Term) → FormulaAt s own f → Drafts s ws'' r'.used r.part t → Drafts s ws'' r'.used r'.part u
            → Put s ws'' ws''' r'.used r'.counter r'.next (joined terms f t u r'.counter) r'') where
          pub cut-ends : (f : Formula) (p q : Proof) (es : Entries) → FormulaAt s own f → Premises s at 2 cs k ws used n (p ∷ q ∷ []) es
              → Past s at ws ws''' used n (p ∷ q ∷ []) (cut_of f p q es n) r''
          cut-ends f p q es v w =
              let d = a p es (producer-task p q es w) in
              let es' = with_entry f es n in
              let c = b q es' (consumer-task f p q es v w) in
              let x = c.still r.part (extract terms p es (n + 1)).0 d.part in
              let h = g f (extract terms p es (n + 1)).0 (extract terms q es' r.counter).0 v x c.part in
              let is : joined terms f (extract terms p es (n + 1)).0 (extract terms q es' r.counter).0 r'.counter ≡ cut_of f p q es n =
              ap (λ (m : ℕ). joined terms f (extract terms p es (n + 1)).0 (extract terms q es' r.counter).0 m) c.counter
              ∙ ap (λ (m : ℕ). joined terms f (extract terms p es (n + 1)).0 (extract terms q es' m).0 (extract terms q es' m).1) d.counter
              ∙ ap
              (λ (m : ℕ). joined terms f (extract terms p es m).0 (extract terms q es' (extract terms p es m).1).0 (extract terms q es' (extract terms p es m).1).1)
              (add-one n) in
              record {
                next = omega (arith, h.next, c.next, d.next, long-two p q);
                counter = h.counter ∙ ap (λ (z : Term × ℕ). z.1) is;
                part = subst (λ (z : Term × ℕ). Drafts s ws''' r''.used r''.part z.0) is h.part;
                small = h.small;
                few = omega (arith, h.few, c.few, d.few);
                low = omega (arith, h.low, c.low, d.low);
                still = λ i t z. h.still i t (c.still i t (d.still i t z));
              }
