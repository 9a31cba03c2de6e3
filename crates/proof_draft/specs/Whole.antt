-- A whole proof, which is to be walked with no entry and no row yet. Assumes nothing: these are definitions.
use Rattle.std.specs.Prelude.{ℕ, ◌+◌, ◌*◌, ◌^◌, ◌≤◌, ◌<◌, List, length}
use Rattle.rules.specs.Basic.{Bytes}
use Rattle.rules.specs.Proof.{Proof, rules}
use Rattle.draft.specs.declared.row.Row.{Row}
use Rattle.proof.specs.Place.{ProofAt}

-- s is the proof p, of so many rules at most; there are rows for them, and the counter leaves room for their names
pub record Whole (s : Bytes) (most : ℕ) (ws : List Row) (n : ℕ) (p : Proof) : Type 0 where
  pub proof : ProofAt s 0 p
  pub many : rules p ≤ most
  pub room : rules p ≤ length ws
  pub few : n + 3 * rules p < 2 ^ 32
