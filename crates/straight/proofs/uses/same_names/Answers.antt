-- `uses::same_names` meets its contract: whatever the names that are left have, all of them have that and what was met.
-- Assumes nothing.
use Prim.Native.Nat.{◌+◌, ◌-◌}
use mathlib.Core.Path.{◌≡◌, ap, ◌∙◌}
use native.Mathlib.Omega.{arith}
use Rattle.rules.specs.Name.{same}
use Rattle.term.proofs.node.Names.{name-room, some-single}
use Rattle.straight.proofs.uses.NameRows.{finish, one-here, it_is, small, turn}
use Rattle.straight.proofs.uses.same_names.Goals as goal

pub after_names-next-requires : goal.after_names-next-requires
after_names-next-requires c = some-single _ _ (one-here c.loop.invariant (omega arith))

pub loop-preserved : goal.loop-preserved
loop-preserved c =
    let l = c.loop in
    let e : c.args.n - (l.counter + 1) ≡ c.args.n - l.counter - 1 = omega arith in
    rw e (turn l.invariant (omega arith) _ _ (it_is _ _ _ _ _ (λ y w. c.same_bytes.ensures ∙ ap (λ z. same c.args.name.now z) (c.name.ensures y w)) c.from-same.ensures) c.after_names-next.ensures)

pub overflow_add-same : goal.overflow_add-same
overflow_add-same c =
    let l = c.loop in
    let y = one-here l.invariant (omega arith) in
    omega (arith, l.invariant.past, small l.invariant (omega arith) _ (it_is _ _ _ _ _ (λ y w. c.same_bytes.ensures ∙ ap (λ z. same c.args.name.now z) (c.name.ensures y w)) c.from-same.ensures), name-room _ _ y)

pub returns : goal.returns
returns c = finish c.loop.invariant (omega arith)

pub name-requires : goal.name-requires
name-requires c = one-here c.loop.invariant (omega arith)
