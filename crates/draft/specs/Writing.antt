-- What writing a part needs and leaves. Assumes nothing: these are definitions.
use Rattle.std.specs.Prelude.{ℕ, ◌+◌, ◌≤◌, List, length}
use Rattle.rules.specs.Basic.{Bytes}
use Rattle.rules.specs.Term.{Term, encode, size}
use Rattle.rules.specs.Legal.{Legal}
use Rattle.buffer.specs.Wrote.{Wrote}
use Rattle.draft.specs.declared.row.Row.{Row}
use Rattle.draft.specs.Draft.{Drafts}

-- part i is the legal term t, and there is room for it
pub record Writable (s : Bytes) (ws : List Row) (n i : ℕ) (out : Bytes) (at : ℕ) (t : Term) : Type 0 where
  pub drafts : Drafts s ws n i t
  pub legal : Legal t
  pub room : at + size t ≤ length out

-- what a part writes from a place on, whatever term it is
abbrev pub Puts : Bytes → List Row → ℕ → ℕ → Bytes → ℕ → Bytes → ℕ → Type 0
Puts s ws n i out at out' past = (t : Term) → Drafts s ws n i t → Wrote out at (encode t) out' past
