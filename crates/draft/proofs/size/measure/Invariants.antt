-- `size::measure` meets its contract: after i rows the first i + 2 parts are measured. Assumes nothing.
use Prim.Native.Nat.{◌+◌}
use mathlib.Core.Path.{◌≡◌}
use lib.ListN.{length}
use Rattle.draft.specs.Measured.{Measured}
use Rattle.draft.proofs.size.measure.Given as goal

abbrev pub invariant-loop-i : goal.invariant-loop-i
invariant-loop-i l = (length l.sizes ≡ length l.initial.sizes) × Measured l.s l.rows (length l.rows) (l.i + 2) l.sizes
