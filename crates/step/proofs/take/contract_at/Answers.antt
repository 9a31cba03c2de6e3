-- `take::contract_at` meets its contract: the contraction is the step of the whole, and the three runs are the new whole. Assumes nothing.
use native.Mathlib.Omega.{arith}
use Rattle.step.proofs.take.Standing.{job, outgrew, room, second-room, third-room, made}
use Rattle.step.proofs.take.contract_at.Goals as goal

pub contract-requires : goal.contract-requires
contract-requires c =
    let p = c.requires in
    let j = p.0.2 in
    (p.0.1, j.rule, j.half, j.result, job j p.1)

pub copy-before-requires : goal.copy-before-requires
copy-before-requires c =
    let p = c.requires in
    let j = p.0.2 in
    let v = c.contract.ensures.contracts p.0.1 j.rule j.half j.result (job j p.1) in
    let r = room j v c.in-Some.is in (omega arith, r.0, omega (arith, r.1))

pub copy-length-requires : goal.copy-length-requires
copy-length-requires c =
    let p = c.requires in
    let j = p.0.2 in
    let v = c.contract.ensures.contracts p.0.1 j.rule j.half j.result (job j p.1) in
    ((room j v c.in-Some.is).3, omega arith, third-room j v c.in-Some.is c.copy-before.ensures c.copy-middle.ensures)

pub copy-middle-requires : goal.copy-middle-requires
copy-middle-requires c =
    let p = c.requires in
    let j = p.0.2 in
    let v = c.contract.ensures.contracts p.0.1 j.rule j.half j.result (job j p.1) in
    (omega arith, (room j v c.in-Some.is).2, second-room j v c.in-Some.is c.copy-before.ensures)

pub returns-in-Some : goal.returns-in-Some
returns-in-Some c = λ f t j. made j (c.contract.ensures.contracts t j.rule j.half j.result (job j c.requires.1)) c.in-Some.is c.copy-before.ensures c.copy-middle.ensures c.copy-length.ensures

pub returns-in-None : goal.returns-in-None
returns-in-None c = λ f t j. outgrew j (c.contract.ensures.contracts t j.rule j.half j.result (job j c.requires.1)) c.in-None.is c.of_no_input.ensures
