-- `extract::extract_within` meets its contract: the draft of the whole proof is finished, over arrays for so many rules. Assumes nothing.
use mathlib.Core.Path.{◌∙◌}
use native.Mathlib.Omega.{arith}
use lib.ListN.{length-replicate}
use Rattle.extract.proofs.Starting.{whole-finishes}
use Rattle.extract.proofs.extract_within.Goals as goal

pub finish-requires : goal.finish-requires
finish-requires g c =
    let q = c.requires in
    (_, _, whole-finishes q.2.1 q.3 (length-replicate g.row.RULES _) (omega arith) (length-replicate g.row.PARTS _ ∙ q.1) c.draft_whole-draft.ensures)

pub returns : goal.returns
returns g c =
    let q = c.requires in
    λ p w. c.finish.ensures _ _ (whole-finishes w q.3 (length-replicate g.row.RULES _) (omega arith) (length-replicate g.row.PARTS _ ∙ q.1) c.draft_whole-draft.ensures)
