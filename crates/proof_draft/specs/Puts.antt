-- A row put into the draft: what there must be room for, and what it makes. Assumes nothing: these are definitions.
use Rattle.std.specs.Prelude.{ℕ, ◌+◌, ◌<◌, ◌≤◌, ◌≡◌, List, length}
use Rattle.rules.specs.Basic.{Bytes}
use Rattle.rules.specs.Term.{Term}
use Rattle.draft.specs.declared.row.Row.{Row}
use Rattle.draft.specs.Draft.{Rows, Drafts}
use Rattle.draft.specs.Made.{Small}
use Rattle.proof_draft.specs.declared.put.Drafted.{Drafted}

-- room for a row
pub record Open (ws : List Row) (used : ℕ) : Type 0 where
  pub rows : Rows ws used
  pub small : Small ws used
  pub room : used < length ws

-- what one row, or none, makes of the parts that are there
pub record Put (s : Bytes) (ws ws' : List Row) (used n end : ℕ) (made : Term × ℕ) (r : Drafted) : Type 0 where
  pub next : r.next ≡ end
  pub counter : r.counter ≡ made.1
  pub part : Drafts s ws' r.used r.part made.0
  pub small : Small ws' r.used
  pub few : r.used ≤ used + 1
  pub low : r.counter ≤ n + 2
  pub still : (i : ℕ) (t : Term) → Drafts s ws used i t → Drafts s ws' r.used i t
