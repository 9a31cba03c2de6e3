-- `order::order_at` meets its contract: the bytes behind the lengths are the names. Assumes nothing.
use mathlib.Core.Path.{ap, ◌∙◌}
use Rattle.free.specs.Order.{order_of}
use Rattle.free.proofs.order.order_at.Goals as goal

pub returns : goal.returns
returns c = λ x y w v. c.order.ensures ∙ ap (λ z. order_of z c.name-2.result.now) (c.name.ensures x w) ∙ ap (λ z. order_of x z) (c.name-2.ensures y v)
