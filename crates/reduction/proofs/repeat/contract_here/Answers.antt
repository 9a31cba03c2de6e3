-- `repeat::contract_here` meets its contract: the redex is contracted, or outgrows the limits and what is still to come is copied. Assumes nothing.
use native.Mathlib.Omega.{arith}
use Rattle.reduction.proofs.moves.Wholes.{join-room}
use Rattle.reduction.proofs.repeat.Turns.{fires, outgrows, goes}
use Rattle.reduction.proofs.repeat.contract_here.Goals as goal

pub copy-requires : goal.copy-requires
copy-requires c =
    let a = c.requires in
    let y = c.in-None.ensures a.2.whole (fires a.2) in
    let j = join-room y.stands in
    (j.0, omega arith, j.1)

pub returns-in-None : goal.returns-in-None
returns-in-None c = λ l t b. outgrows b (c.in-None.ensures b.whole (fires b)) c.copy.ensures

pub returns-in-Some : goal.returns-in-Some
returns-in-Some c = λ l t b. rw c.one_more.ensures (goes b (c.in-Some.ensures b.whole (fires b)))
