-- `row::NameRow::knows` meets its contract: the entry is that of a name found or of a binder passed, and is compared. Assumes nothing.
use Rattle.free.proofs.row.Meeting.{guess-names, guess-kept}
use Rattle.free.proofs.row.NameRow.knows.Goals as goal

pub returns-then-is_live : goal.returns-then-is_live
returns-then-is_live c = guess-kept _ _ _ _ _ _ (c.is_live.ensures.0 c.if-is_live.true) _ c.same_at.ensures

pub same_at-requires : goal.same_at-requires
same_at-requires c = guess-names _ _ _ _ _ _ (c.is_live.ensures.0 c.if-is_live.true) c.requires
