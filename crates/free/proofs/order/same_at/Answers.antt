-- `order::same_at` meets its contract: where lengths or last bytes differ the names do, and else the library compares all bytes. Assumes nothing.
use native.Mathlib.Omega.{arith}
use mathlib.Core.Path.{sym, ap, ◌∙◌}
use Rattle.rules.specs.Name.{same}
use Rattle.term.proofs.node.Names.{name-room}
use Rattle.free.proofs.order.Comparing.{other_length, other_last}
use Rattle.free.proofs.order.Orders.{same-bytes}
use Rattle.free.proofs.order.same_at.Goals as goal

pub returns-then-s-other : goal.returns-then-s-other
returns-then-s-other c = other_length _ _ _ c.if-s-other.true

pub bounds-s-at-2 : goal.bounds-s-at-2
bounds-s-at-2 c = omega (arith, name-room _ c.args.at (c.requires.0, c.requires.2))

pub bounds-s-other-2 : goal.bounds-s-other-2
bounds-s-other-2 c = omega (arith, name-room _ c.args.other (c.requires.1, c.requires.3), c.if-s-other.false)

pub returns-then-s-at : goal.returns-then-s-at
returns-then-s-at c = other_last _ _ _ c.if-s-at.true

pub returns : goal.returns
returns c = λ x y w v. c.eq.ensures ∙ sym (same-bytes c.name.result.now c.name-2.result.now) ∙ ap (λ z. same z c.name-2.result.now) (c.name.ensures x w) ∙ ap (λ z. same x z) (c.name-2.ensures y v)
