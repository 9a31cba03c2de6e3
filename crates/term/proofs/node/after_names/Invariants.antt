-- `node::after_names` meets its contract: where the names that are left end, all of them end. Assumes nothing.
use Prim.Native.Nat.{ℕ, ◌-◌}
use mathlib.Core.List.{List}
use Rattle.rules.specs.Name.{Name}
use Rattle.term.specs.Place.{NamesAt}
use Rattle.term.proofs.node.Names.{AfterIs}
use Rattle.term.proofs.node.after_names.Given as goal

abbrev pub invariant-loop : goal.invariant-loop
invariant-loop l =
    let left = l.n - l.counter in
    ((xs : List Name) × NamesAt l.s l.i left xs) × ((r : ℕ) → AfterIs l.s l.i left r → AfterIs l.s l.at l.n r)
