-- When the output and the scratch of a call are too short. Assumes nothing: these are definitions.
use Rattle.std.specs.Prelude.{ℕ, ◌≤◌, ◌≡◌, Bool, true, false, ◌&&◌}
use Rattle.rules.specs.Basic.{◌≤?◌}
use Rattle.rules.specs.Limits.{limits, output_room, scratch_room}

-- r tells whether an output or a scratch of these lengths is too short
pub record Rooms (out scratch : ℕ) (r : Bool) : Type 0 where
  pub few : r ≡ true → ((output_room limits ≤? out) && (scratch_room limits ≤? scratch)) ≡ false
  pub many : r ≡ false → (output_room limits ≤ out) × (scratch_room limits ≤ scratch)
