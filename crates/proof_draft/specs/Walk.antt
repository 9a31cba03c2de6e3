-- What the walk starts from, and what it leaves. Assumes nothing: these are definitions.
use Rattle.std.specs.Prelude.{ℕ, ◌+◌, ◌*◌, ◌^◌, ◌≤◌, ◌<◌, ◌≡◌, List, [], ◌∷◌, length, Option}
use Rattle.rules.specs.Basic.{Bytes}
use Rattle.rules.specs.Formula.{Formula}
use Rattle.rules.specs.Term.{Term, unit}
use Rattle.rules.specs.Proof.{Proof, rules, encode_proof}
use Rattle.rules.specs.Extraction.{terms, Entries, extract, paired, cutting}
use Rattle.laws.specs.reading.Lists.{total}
use Rattle.draft.specs.declared.row.Row.{Row}
use Rattle.draft.specs.declared.row.RowKind.{RowKind}
use Rattle.draft.specs.Draft.{Rows, Drafts}
use Rattle.draft.specs.Made.{over, Small}
use Rattle.proof.specs.Place.{ProofAt, ProofsAt, proofs_long}
use Rattle.proof_draft.specs.declared.put.Drafted.{Drafted}
use Rattle.proof_draft.specs.declared.entry.CutEntry.{CutEntry}
use Rattle.proof_draft.specs.Entry.{EntriesAt}

-- k entries and the rows used so far, and room for so many rules more: a rule puts an entry and a row, and takes three names, at most; an entry's counter has 32 bits
pub record Ready (s : Bytes) (row : List CutEntry) (k : ℕ) (ws : List Row) (used n more : ℕ) (es : Entries) : Type 0 where
  pub entries : EntriesAt s row k es
  pub rows : Rows ws used
  pub small : Small ws used
  pub placed : k + more ≤ length row
  pub room : used + more ≤ length ws
  pub few : n + 3 * more < 2 ^ 32

-- what was made, and the counter after it, stand in the rows; the parts that were there are what they were
pub record Walked (s : Bytes) (ws ws' : List Row) (used n more end : ℕ) (made : Term × ℕ) (r : Drafted) : Type 0 where
  pub next : r.next ≡ end
  pub counter : r.counter ≡ made.1
  pub part : Drafts s ws' r.used r.part made.0
  pub small : Small ws' r.used
  pub few : r.used ≤ used + more
  pub low : r.counter ≤ n + 3 * more
  pub still : (i : ℕ) (t : Term) → Drafts s ws used i t → Drafts s ws' r.used i t

-- the proof p stands at a place, and is to be walked
pub record Task (s : Bytes) (at : ℕ) (row : List CutEntry) (k : ℕ) (ws : List Row) (used n : ℕ) (p : Proof) (es : Entries) : Type 0 where
  pub proof : ProofAt s at p
  pub ready : Ready s row k ws used n (rules p) es

abbrev pub Done : Bytes → (at : ℕ) (ws ws' : List Row) (used n : ℕ) → Proof → Entries → Drafted → Type 0
Done s at ws ws' used n p es r = Walked s ws ws' used n (rules p) (at + length (encode_proof p)) (extract terms p es n) r

-- what the walk asks, and what it ensures
abbrev pub Starts : Bytes → (at : ℕ) (row : List CutEntry) (k : ℕ) (ws : List Row) (used n : ℕ) → Type 0
Starts s at row k ws used n = (p : Proof) × (es : Entries) × Task s at row k ws used n p es

abbrev pub Ends : Bytes → (at : ℕ) (row : List CutEntry) (k : ℕ) (ws ws' : List Row) (used n : ℕ) → Drafted → Type 0
Ends s at row k ws ws' used n r = (p : Proof) → (es : Entries) → Task s at row k ws used n p es → Done s at ws ws' used n p es r

-- the premises of a rule stand from a place on, and there is room for the rule and for them
pub record Premises (s : Bytes) (at many : ℕ) (row : List CutEntry) (k : ℕ) (ws : List Row) (used n : ℕ) (ps : List Proof) (es : Entries) : Type 0 where
  pub proofs : ProofsAt s at many ps
  pub ready : Ready s row k ws used n (1 + total rules ps) es

abbrev pub Past : Bytes → (at : ℕ) (ws ws' : List Row) (used n : ℕ) → List Proof → Term × ℕ → Drafted → Type 0
Past s at ws ws' used n ps made r = Walked s ws ws' used n (1 + total rules ps) (at + proofs_long ps) made r

-- two premises, paired; and those of a Cut
abbrev pub pair_of : (first second : Proof) → Entries → ℕ → Term × ℕ
pair_of p q es n = paired terms unit (extract terms p ∷ extract terms q ∷ []) es n

abbrev pub cut_of : Formula → (producer consumer : Proof) → Entries → ℕ → Term × ℕ
cut_of f p q es n = cutting terms f (extract terms p ∷ extract terms q ∷ []) es n

-- the first premise, with a row over it or none, and some names before it
abbrev pub over_first : Bytes → Option RowKind → (names : ℕ) → Proof → Entries → ℕ → Term × ℕ
over_first s k m p es n = (over s k n (extract terms p es (n + m)).0, (extract terms p es (n + m)).1)
