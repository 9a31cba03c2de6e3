-- `read_from` meets its contract: one node is a row of one, nodes with one part may be passed before it, and two depths that suffice
-- read the same. Assumes nothing.
use native.Mathlib.Omega.{arith}
use mathlib.Core.Path.{sym, ap, ◌∙◌}
use lib.ListN.{drop}
use Rattle.reader.specs.Form.{layout_of}
use Rattle.reader.specs.View.{view}
use Rattle.reader.proofs.node.Depth.{same}
use Rattle.reader.proofs.node.Node.{node-out}
use Rattle.reader.proofs.node.Rest.{rest-is, rest-one}
use Rattle.reader.proofs.ahead.read_from.Goals as goal

pub returns : goal.returns
returns c =
    let a = c.args in
    let F = layout_of a.form in
    λ d h.
    c.read_row.ensures
    ∙ sym (c.pass_ones-past.ensures.2 a.most a.used (λ q. omega (arith, c.pass_ones-past.ensures.1, c.end_within-end.ensures.1, c.room_for.ensures)))
    ∙ sym (rest-is F a.most a.s.now 1 a.used a.at)
    ∙ sym (rest-one F a.most a.s.now a.used a.at)
    ∙ ap view (same F a.most a.most d a.used a.at (drop a.at a.s.now) (omega arith) h)

pub returns-then-s-at : goal.returns-then-s-at
returns-then-s-at c = let a = c.args in λ d h. c.fault.ensures ∙ sym (ap view (node-out (layout_of a.form) a.most a.s.now a.used a.at c.if-s-at.true d))
