-- `contraction::contract` meets its contract: the tag says which rule it is, and the rule's contract says what comes of it.
-- Assumes nothing.
use native.Mathlib.Omega.{arith}
use Rattle.contraction.proofs.Answers.{redex-inside, as-app, as-let, as-case, as-fst, as-snd, as-derelict, as_copy, as-discard, answers, app-is, let-is, case-is, fst-is, snd-is, derelict-is, copy_is, discard-here, discarded}
use Rattle.contraction.proofs.contract.Goals as goal

pub bounds-s-at : goal.bounds-s-at
bounds-s-at c = redex-inside c.requires.4

pub apply-requires : goal.apply-requires
apply-requires c =
    let j = c.requires.4 in
    let p = as-app j c.in-6.is in
    record { redex = (p.0, p.1, p.2, rw p.3 at j.redex); row = (j.row, j.made-room) }

pub returns-in-6-clause-contracts : goal.returns-in-6-clause-contracts
returns-in-6-clause-contracts c t r h u j =
    let p = as-app j c.in-6.is in
    answers j p.3 (app-is p.0 p.1 p.2) (c.apply.ensures.contracts p.0 p.1 p.2 (rw p.3 at j.redex))

pub branch-site-requires : goal.branch-site-requires
branch-site-requires c =
    let j = c.requires.4 in
    let p = as-case j c.in-9.is in
    record { redex = (p.0, p.1, p.2, p.3, p.4, p.5, rw p.6 at j.redex); row = (j.row, j.made-room) }

pub returns-in-9-clause-contracts : goal.returns-in-9-clause-contracts
returns-in-9-clause-contracts c t r h u j =
    let p = as-case j c.in-9.is in
    answers j p.6 (case-is p.0 p.1 p.2 p.3 p.4 p.5) (c.branch-site.ensures.contracts p.0 p.1 p.2 p.3 p.4 p.5 (rw p.6 at j.redex))

pub copy-requires : goal.copy-requires
copy-requires c =
    let j = c.requires.4 in
    let p = as_copy j c.in-17.is in
    record { redex = (p.0, p.1, p.2, p.3, rw p.4 at j.redex); row = (j.row, j.made-room) }

pub returns-in-17-clause-contracts : goal.returns-in-17-clause-contracts
returns-in-17-clause-contracts c t r h u j =
    let p = as_copy j c.in-17.is in
    answers j p.4 (copy_is p.0 p.1 p.2 p.3) (c.copy.ensures.contracts p.0 p.1 p.2 p.3 (rw p.4 at j.redex))

pub derelict-requires : goal.derelict-requires
derelict-requires c =
    let j = c.requires.4 in
    let p = as-derelict j c.in-15.is in
    (p.0, rw p.1 at j.redex)

pub returns-in-15-clause-contracts : goal.returns-in-15-clause-contracts
returns-in-15-clause-contracts c t r h u j =
    let p = as-derelict j c.in-15.is in
    answers j p.1 (derelict-is p.0) (c.derelict.ensures p.0 (rw p.1 at j.redex) _)

pub discard-requires : goal.discard-requires
discard-requires c =
    let j = c.requires.4 in
    discard-here j (as-discard j (λ e. omega arith) (λ e. omega arith) (λ e. omega arith) (λ e. omega arith) (λ e. omega arith) (λ e. omega arith) (λ e. omega arith))

pub returns-in_default-clause-contracts : goal.returns-in_default-clause-contracts
returns-in_default-clause-contracts c t r h u j = discarded j (as-discard j (λ e. omega arith) (λ e. omega arith) (λ e. omega arith) (λ e. omega arith) (λ e. omega arith) (λ e. omega arith) (λ e. omega arith)) c.discard.ensures

pub first-requires : goal.first-requires
first-requires c =
    let j = c.requires.4 in
    let p = as-fst j c.in-11.is in
    record { redex = (p.0, p.1, rw p.2 at j.redex); room = j.made-room }

pub returns-in-11-clause-contracts : goal.returns-in-11-clause-contracts
returns-in-11-clause-contracts c t r h u j =
    let p = as-fst j c.in-11.is in
    answers j p.2 (fst-is p.0 p.1) (c.first.ensures p.0 p.1 (rw p.2 at j.redex))

pub let_pair-requires : goal.let_pair-requires
let_pair-requires c =
    let j = c.requires.4 in
    let p = as-let j c.in-4.is in
    record { redex = (p.0, p.1, p.2, p.3, p.4, rw p.5 at j.redex); row = (j.row, j.made-room) }

pub returns-in-4-clause-contracts : goal.returns-in-4-clause-contracts
returns-in-4-clause-contracts c t r h u j =
    let p = as-let j c.in-4.is in
    answers j p.5 (let-is p.0 p.1 p.2 p.3 p.4) (c.let_pair.ensures.contracts p.0 p.1 p.2 p.3 p.4 (rw p.5 at j.redex))

pub second-requires : goal.second-requires
second-requires c =
    let j = c.requires.4 in
    let p = as-snd j c.in-12.is in
    (p.0, p.1, rw p.2 at j.redex)

pub returns-in-12-clause-contracts : goal.returns-in-12-clause-contracts
returns-in-12-clause-contracts c t r h u j =
    let p = as-snd j c.in-12.is in
    answers j p.2 (snd-is p.0 p.1) (c.second.ensures p.0 p.1 (rw p.2 at j.redex) _)
