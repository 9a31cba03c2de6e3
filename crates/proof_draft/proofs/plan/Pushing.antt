-- A cut entry put behind the others, and the row as it was before. Assumes nothing.
use Prim.Native.Nat.{ℕ, zero, suc, ◌+◌, ◌<◌, ◌≤◌}
use mathlib.Core.Path.{◌≡◌, refl, sym, ap, ◌∙◌}
use mathlib.Core.Logic.{⊎_elim}
use mathlib.Core.List.{List, [], ◌∷◌}
use native.Mathlib.Nat.{eq-or-lt_of_le, not-suc-le-zero}
use native.Mathlib.Omega.{arith}
use lib.ListN.{length, set, take, length-set, length-append, get_or-append}
use lib.Seq.{get_or-set_same, get_or-set_other, get_or-append_seam}
use Rattle.std.proofs.lemmas.List.{length-take-le, get_or-take}
use Rattle.rules.specs.Basic.{Bytes, ◌‥◌}
use Rattle.rules.specs.Name.{Name}
use Rattle.rules.specs.Formula.{Formula, constant, One}
use Rattle.rules.specs.Extraction.{Entries, fresh, stem_for}
use Rattle.draft.specs.Made.{most_number}
use Rattle.proof.specs.Place.{FormulaAt}
use Rattle.proof_draft.specs.Entry.{EntryAt, EntriesAt, entry_at, in_row}
use Rattle.proof_draft.specs.declared.entry.CutEntry.{CutEntry}
use Rattle.proof_draft.specs.Entries.{none as zeros}

module _ (row : List CutEntry) (k : ℕ) (e : CutEntry) (l : k < length row) (low : e.counter + 1 < most_number)
    (s : Bytes) (f : Formula) (es : Entries) (v : FormulaAt s e.place f) (w : EntriesAt s row k es) where
  abbrev name : Name
  name = (fresh (stem_for f) e.counter).0

  abbrev more : Entries
  more = es ‥ (f, name) ∷ []

  abbrev Entry : ℕ → Type 0
  Entry i = EntryAt s (in_row (set row k e) i) (entry_at more i).0 (entry_at more i).1

  old : (i : ℕ) → i < k → Entry i
  old i h =
      let a : in_row (set row k e) i ≡ in_row row i = get_or-set_other row k i e zeros (λ q. omega arith) in
      let c : entry_at more i ≡ entry_at es i = get_or-append es ((f, name) ∷ []) (constant One, []) i (omega (arith, w.many)) in
      rw (a, c) (w.each i h)

  last : (i : ℕ) → i ≡ k → Entry i
  last i q =
      let a : in_row (set row k e) i ≡ e = rw q (get_or-set_same row k e zeros l) in
      let c : entry_at more i ≡ (f, name) = rw (q ∙ sym w.many) (get_or-append_seam es (f, name) [] (constant One, [])) in
      rw (a, c) (record { formula = v; name = refl; low = low })

  pub pushed : EntriesAt s (set row k e) (k + 1) more
  pushed =
      record {
        many = length-append es ((f, name) ∷ []) ∙ omega (arith, w.many);
        room = omega (arith, length-set row k e);
        each = λ i h. ⊎_elim (λ q. last i q) (λ q. old i q) (eq-or-lt_of_le (below i h));
      }
    where
      below : (i : ℕ) → i < k + 1 → i ≤ k
      below i h = omega arith

-- the entry that was there, put back
pub restored : (row : List CutEntry) (k : ℕ) (e : CutEntry) → k < length row → set (set row k e) k (in_row row k) ≡ row
restored [] k e l = absurd (not-suc-le-zero l)
restored (c ∷ row) zero e l = refl
restored (c ∷ row) (suc k) e l = ap (λ (z : List CutEntry). c ∷ z) (restored row k e (omega (arith, l)))

-- the first k entries, as a row of their own
pub entries-taken : {s : Bytes} {row : List CutEntry} {k : ℕ} {es : Entries} → EntriesAt s row k es → EntriesAt s (take k row) (length (take k row)) es
entries-taken {s} {row} {k} {es} w =
    let long = length-take-le k row w.room in
    record {
      many = w.many ∙ sym long;
      room = omega arith;
      each = λ i h. let l : i < k = omega (arith, long) in rw (get_or-take k row i zeros l) (w.each i l);
    }
