-- `write::put_part` ends: a part's number falls.
use Rattle.draft.proofs.write.+put_part.Given as goal

abbrev pub decreases-put_part : goal.decreases-put_part
decreases-put_part l = l.part
