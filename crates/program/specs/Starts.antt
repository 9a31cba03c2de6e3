-- What stands at the start of a buffer. Assumes nothing: this is a definition.
use Rattle.std.specs.Prelude.{ℕ, ◌≡◌, length, take}
use Rattle.rules.specs.Basic.{Bytes}

-- out starts with xs, and r is the place after it
pub record Starts (out xs : Bytes) (r : ℕ) : Type 0 where
  pub holds : take r out ≡ xs
  pub ends : r ≡ length xs
