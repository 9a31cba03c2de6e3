-- What adding a row to a draft leaves. Assumes nothing: these are definitions.
use Rattle.std.specs.Prelude.{ℕ, zero, suc, ◌+◌, ◌^◌, ◌<◌, ◌≡◌, List, length, Option, Some, None}
use Rattle.rules.specs.Basic.{Bytes}
use Rattle.rules.specs.Term.{Term}
use Rattle.draft.specs.declared.row.Row.{Row}
use Rattle.draft.specs.declared.row.RowKind.{RowKind}
use Rattle.draft.specs.Draft.{row_at, Rows, Drafts, shaped, shape_of}

-- two terms, told by the numbers 0 and 1
abbrev pub either : Term → Term → ℕ → Term
either a b zero = a
either a b (suc i) = b

-- the term that a row makes of its two parts
abbrev pub made : Bytes → RowKind → (a b : Term) (number stem : ℕ) → Term
made s kind a b number stem = shaped s (record { kind = kind; first = 0; second = 1; number = number; stem = stem }) (either a b) (shape_of kind)

-- a row over a term, or none; it may count names from n on
abbrev pub over : Bytes → Option RowKind → (n : ℕ) → Term → Term
over s None n t = t
over s (Some k) n t = made s k t t n 0

-- two lists whose first n rows are the same
abbrev pub Same : (n : ℕ) → List Row → List Row → Type 0
Same n ws ws' = (k : ℕ) → k < n → row_at ws' k ≡ row_at ws k

-- the numbers of names are small enough to be counted on from
abbrev pub most_number : ℕ
most_number = 2 ^ 62

pub record Small (ws : List Row) (n : ℕ) : Type 0 where
  pub each : (i : ℕ) → i < n → (row_at ws i).number < most_number

-- ws' is ws with the row r behind its n rows: the parts are what they were, and the new one is what its row makes
pub record Added (ws : List Row) (n : ℕ) (r : Row) (ws' : List Row) : Type 0 where
  pub long : length ws' ≡ length ws
  pub rows : Rows ws' (n + 1)
  pub small : Small ws n → r.number < most_number → Small ws' (n + 1)
  pub still : (s : Bytes) (i : ℕ) (t : Term) → Drafts s ws n i t → Drafts s ws' (n + 1) i t
  pub new : (s : Bytes) (a b : Term) → Drafts s ws n r.first a → Drafts s ws n r.second b → Drafts s ws' (n + 1) (n + 2) (made s r.kind a b r.number r.stem)
