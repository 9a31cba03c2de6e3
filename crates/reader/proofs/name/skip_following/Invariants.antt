-- `name::skip_following` meets its contract: what is left to read from p on is what was to be read from `at` on. Assumes nothing.
use Rattle.rules.specs.declared.Reason.TheVariants.{BadName}
use Prim.Native.Nat.{ℕ, ◌-◌, ◌≤◌}
use mathlib.Core.Path.{◌≡◌}
use lib.ListN.{length, drop}
use Rattle.rules.specs.Name.{follows}
use Rattle.rules.specs.Reading.{byte_for, many}
use Rattle.reader.specs.View.{view}
use Rattle.reader.proofs.name.skip_following.Given as goal

abbrev pub invariant-loop-p : goal.invariant-loop-p
invariant-loop-p l =
    (l.end ≤ length l.s) × ((u : ℕ) → view (many (byte_for follows BadName) (l.end - l.at) u l.at (drop l.at l.s)) ≡ view (many (byte_for follows BadName) (l.end - l.p) u l.p (drop l.p l.s)))
