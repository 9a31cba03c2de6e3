-- `name::skip_names` meets its contract: what is left to read from p on is what was to be read from `at` on. Assumes nothing.
use Prim.Native.Nat.{ℕ, ◌-◌, ◌≤◌}
use mathlib.Core.Path.{◌≡◌}
use lib.ListN.{length, drop}
use Rattle.rules.specs.Reading.{times, name}
use Rattle.reader.specs.Words.{spelling_of}
use Rattle.reader.specs.View.{view}
use Rattle.reader.proofs.name.skip_names.Given as goal

abbrev pub invariant-loop : goal.invariant-loop
invariant-loop l =
    (l.p ≤ length l.s)
    × ((u : ℕ) → view (times (name (spelling_of l.form)) l.n u l.at (drop l.at l.s)) ≡ view (times (name (spelling_of l.form)) (l.n - l.counter) u l.p (drop l.p l.s)))
