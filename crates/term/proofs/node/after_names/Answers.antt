-- `node::after_names` meets its contract: where the names that are left end, all of them end. Assumes nothing.
use Prim.Native.Nat.{◌+◌, ◌-◌}
use mathlib.Core.Path.{◌≡◌}
use native.Mathlib.Omega.{arith}
use Rattle.term.proofs.node.Names.{none_after, name-byte, name-next, name_done}
use Rattle.term.proofs.node.after_names.Goals as goal

pub bounds-s-i : goal.bounds-s-i
bounds-s-i c = omega (arith, name-byte _ _ _ (λ z. omega arith) c.loop.invariant.0)

pub loop-preserved : goal.loop-preserved
loop-preserved c =
    let l = c.loop in
    let e : c.args.n - (l.counter + 1) ≡ c.args.n - l.counter - 1 = omega arith in
    rw e (name-next _ _ _ (λ z. omega arith) l.invariant.0, λ r f. l.invariant.1 r (name_done _ _ _ (λ z. omega arith) r f))

pub overflow_add-i : goal.overflow_add-i
overflow_add-i c = omega (arith, name-byte _ _ _ (λ z. omega arith) c.loop.invariant.0)

pub overflow_add-i-in-loop : goal.overflow_add-i-in-loop
overflow_add-i-in-loop c = omega (arith, name-byte _ _ _ (λ z. omega arith) c.loop.invariant.0)

pub returns : goal.returns
returns c = c.loop.invariant.1 c.loop.i (none_after _ _ _ (omega arith))
