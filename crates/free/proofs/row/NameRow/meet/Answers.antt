-- `row::NameRow::meet` meets its contract: the guess that is kept stands behind the binders. Assumes nothing.
use native.Mathlib.Omega.{arith}
use Rattle.free.proofs.row.Meeting.{met-noted}
use Rattle.free.proofs.row.NameRow.meet.Goals as goal

pub returns-then-not-knows : goal.returns-then-not-knows
returns-then-not-knows c = λ x xs l w. met-noted w (c.find_or_put.ensures.met x xs l w) _ _ (omega arith)
