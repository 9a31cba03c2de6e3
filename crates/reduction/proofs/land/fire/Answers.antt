-- `land::fire` meets its contract: the contraction is the step of the whole, and what was written lands in front of what stays.
-- Assumes nothing.
use native.Mathlib.Omega.{arith}
use Rattle.reduction.proofs.land.Firings.{job, outgrew, made-room, copy-room, landed, lands}
use Rattle.reduction.proofs.land.fire.Goals as goal

pub contract-requires : goal.contract-requires
contract-requires c =
    let a = c.requires in
    let x = a.1.reducing in
    (x.stands.at, x.redex.rule, x.redex.half, x.redex.result, job a.1 c.args.room.now.row c.args.room.now.made_room)

pub copy-requires : goal.copy-requires
copy-requires c =
    let a = c.requires in
    let x = a.1.reducing in
    let r = copy-room a.1 (c.contract.ensures.contracts x.stands.at x.redex.rule x.redex.half x.redex.result (job a.1 c.args.room.now.row c.args.room.now.made_room)) c.in-Some.is in
    (omega arith, r.0, r.1)

pub overflow_sub-start : goal.overflow_sub-start
overflow_sub-start c =
    let a = c.requires in
    let x = a.1.reducing in
    (made-room a.1 (c.contract.ensures.contracts x.stands.at x.redex.rule x.redex.half x.redex.result (job a.1 c.args.room.now.row c.args.room.now.made_room)) c.in-Some.is).0

pub returns-in-Some : goal.returns-in-Some
returns-in-Some c =
    λ w a.
    let x = a.reducing in
    let v = c.contract.ensures.contracts x.stands.at x.redex.rule x.redex.half x.redex.result (job a c.args.room.now.row c.args.room.now.made_room) in
    lands a v c.in-Some.is _ (c.wake-place.ensures _ (landed a v c.in-Some.is c.copy.ensures))

pub returns-in-None : goal.returns-in-None
returns-in-None c =
    λ w a.
    let x = a.reducing in
    outgrew a (c.contract.ensures.contracts x.stands.at x.redex.rule x.redex.half x.redex.result (job a c.args.room.now.row c.args.room.now.made_room)) c.in-None.is

pub wake-place-requires : goal.wake-place-requires
wake-place-requires c =
    let a = c.requires in
    let x = a.1.reducing in
    (_, landed a.1 (c.contract.ensures.contracts x.stands.at x.redex.rule x.redex.half x.redex.result (job a.1 c.args.room.now.row c.args.room.now.made_room)) c.in-Some.is c.copy.ensures)
