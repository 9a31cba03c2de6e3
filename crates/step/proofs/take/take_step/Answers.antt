-- `take::take_step` meets its contract: the first redex is where the rules step. Assumes nothing.
use mathlib.Core.Path.{sym, ◌∙◌}
use Rattle.term.proofs.node.Terms.{whole}
use Rattle.step.proofs.take.Spots.{spotted, nowhere}
use Rattle.step.proofs.take.take_step.Goals as goal

pub contract_at-requires : goal.contract_at-requires
contract_at-requires c =
    let w = c.requires in
    let q = spotted w.0.1 _ (sym c.in-Ok.is ∙ c.find.ensures w.0.0 (whole w.0.0 _ w.0.1.whole)) in
    ((q.around, q.redex, q.job), w.1)

pub returns-in-Err : goal.returns-in-Err
returns-in-Err c = λ t d. nowhere d _ (sym c.in-Err.is ∙ c.find.ensures t (whole t _ d.whole))

pub returns-in-Ok : goal.returns-in-Ok
returns-in-Ok c = λ t d. let q = spotted d _ (sym c.in-Ok.is ∙ c.find.ensures t (whole t _ d.whole)) in
    rw q.is (c.contract_at.ensures q.around q.redex q.job)
