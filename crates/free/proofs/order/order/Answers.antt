-- `order::order` meets its contract: the library compares bytes as names are compared. Assumes nothing.
use mathlib.Core.Path.{sym, ◌∙◌}
use Rattle.free.proofs.order.Orders.{order-bytes}
use Rattle.free.proofs.order.order.Goals as goal

pub returns : goal.returns
returns c = c.cmp.ensures ∙ sym (order-bytes _ _)
