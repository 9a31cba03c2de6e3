-- `row::put_row` meets its contract: nothing below the row changes, and the row stands where it was put. Assumes nothing.
use lib.ListN.{length-set}
use lib.Seq.{get_or-set_same, get_or-set_other}
use native.Mathlib.Omega.{arith}
use Rattle.draft.specs.Draft.{no_row}
use Rattle.draft.specs.Adding.{added}
use Rattle.draft.proofs.row.put_row.Goals as goal

pub returns : goal.returns
returns c =
    let a = c.args in
    let w = c.requires in
    added a.rows.now _ a.n a.row w.0 (λ k h. get_or-set_other a.rows.now a.n k a.row no_row (λ q. omega arith)) (length-set a.rows.now a.n a.row) w.1
    (get_or-set_same a.rows.now a.n a.row no_row w.1) w.2 w.3
