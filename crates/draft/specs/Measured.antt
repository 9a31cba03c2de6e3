-- The sizes of parts, held at a cap. Assumes nothing: these are definitions.
use Rattle.std.specs.Prelude.{ℕ, ◌+◌, ◌<◌, ◌≤◌, min, ◌≡◌, List, length, get_or}
use Rattle.rules.specs.Basic.{Bytes}
use Rattle.rules.specs.Term.{Term, nodes, size}
use Rattle.draft.specs.declared.row.Row.{Row}
use Rattle.draft.specs.declared.size.Size.{Size}
use Rattle.draft.specs.Draft.{Rows, Drafts}
use Rattle.draft.specs.Made.{Small}

-- sizes over this are all the same
abbrev pub cap : ℕ
cap = 65535

abbrev pub capped : ℕ → ℕ
capped n = min cap n

-- a size that was not counted
abbrev pub no_size : Size
no_size = record { bytes = 0; nodes = 0 }

abbrev pub size_at : List Size → ℕ → Size
size_at zs i = get_or zs i no_size

-- the bytes and the nodes of part i
pub record Sized (s : Bytes) (ws : List Row) (n i : ℕ) (z : Size) : Type 0 where
  pub bytes : (t : Term) → Drafts s ws n i t → z.bytes ≡ capped (size t)
  pub nodes : (t : Term) → Drafts s ws n i t → z.nodes ≡ capped (nodes t)

-- a draft of n rows whose sizes can be counted
pub record Countable (ws : List Row) (n : ℕ) (zs : List Size) : Type 0 where
  pub rows : Rows ws n
  pub small : Small ws n
  pub room : n + 2 ≤ length zs

-- the first m parts are measured
pub record Measured (s : Bytes) (ws : List Row) (n m : ℕ) (zs : List Size) : Type 0 where
  pub each : (i : ℕ) → i < m → Sized s ws n i (size_at zs i)
