-- `size::measure_row` meets its contract: its parts come before it, so their sizes stand, and its own are put behind them.
-- Assumes nothing.
use native.Mathlib.Omega.{arith}
use Rattle.draft.specs.Draft.{row_at, shape_of}
use Rattle.draft.proofs.write.Sizing.{first-most, second-most, few-nodes, row-bytes, row-nodes, measured-more, measured-as}
use Rattle.draft.proofs.size.measure_row.Goals as goal

pub returns : goal.returns
returns c =
    let i = c.args.i in
    let h = c.requires.2 in
    measured-as (omega arith)
    (measured-more (record { bytes = c.total-bytes.result; nodes = c.total-nodes.result }) (omega (arith, c.requires.0.room, h)) c.requires.1
    (record {
      bytes = row-bytes i c.requires.0.rows h c.requires.1 _ _ _ c.part_count-count.ensures c.head_len-own.ensures.0 c.total-bytes.ensures;
      nodes = row-nodes i c.requires.0.rows h c.requires.1 _ _ _ c.part_count-count.ensures c.node_count.ensures c.total-nodes.ensures;
    }))

pub total-bytes-requires : goal.total-bytes-requires
total-bytes-requires c =
    (omega (arith, c.head_len-own.ensures.1), (first-most c.requires.0 c.args.i c.requires.2 c.requires.1).0, (second-most c.requires.0 c.args.i c.requires.2 c.requires.1).0)

pub total-nodes-requires : goal.total-nodes-requires
total-nodes-requires c =
    (omega (arith, c.node_count.ensures, few-nodes (shape_of (row_at c.args.rows.now c.args.i).kind)), (first-most c.requires.0 c.args.i c.requires.2 c.requires.1).1, (second-most c.requires.0 c.args.i c.requires.2 c.requires.1).1)
