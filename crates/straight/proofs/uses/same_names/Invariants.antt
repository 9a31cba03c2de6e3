-- `uses::same_names` meets its contract: whatever the names that are left have, all of them have that and what was met.
-- Assumes nothing.
use Prim.Native.Nat.{◌-◌}
use Rattle.straight.proofs.uses.NameRows.{Passing}
use Rattle.straight.proofs.uses.same_names.Given as goal

abbrev pub invariant-loop : goal.invariant-loop
invariant-loop l = Passing l.s l.at l.n l.name l.next (l.n - l.counter) l.same
