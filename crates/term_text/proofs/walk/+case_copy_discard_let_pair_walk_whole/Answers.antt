-- The proof of the cycle of calls over a term: each shape prints its words and names and hands its parts on, further on in the bytes. Assumes nothing.
use Rattle.term_text.proofs.walk.Binders.{case-done, case-in, case-part, copy-between-room, copy_body, copy_done, copy-further, copy-in, copy-part, end-room, left-branch, left-further as case-left-further, left-room as case-left-room, let-between-room, let-body, let-done, let-further, let-in, let-part, let-room, right-branch, right-further, right-room}
use Rattle.term_text.proofs.walk.Calls.{case-called, case-here, copy-called, copy-here, discard-called, discard-here, leaf-called, leaf-here, let-called, let-here}
use Rattle.term_text.proofs.phrase.Shaped.{begun, discard-done, discard-further, discard-part, discard-terms}
use Rattle.term_text.proofs.walk.Turns.{any-ends, any_here, bound-here, bound-next, left-further, left_here, left-next, left-room, name-ends, name-here, on-begun, one-here, one-next, part-ends, part_room, whole-ends, whole_here}
use Rattle.term_text.proofs.walk.Walking.{here, start}
use Rattle.rules.specs.Term.{both as both_of, branch as branch_of, copy as copy_of, discard as discard_of, let_a_pair as let_pair_of, two as two_of}
use mathlib.Core.List.{[], ◌∷◌}
use mathlib.Core.Path.{◌∙◌, sym}
use Rattle.std.proofs.Common.{true≢false}
use native.Mathlib.Omega.{arith}
use borrow.Author.Rules.{rules}
use Rattle.std.proofs.lemmas.Bool.{false≢true}
use Rattle.term_text.proofs.walk.+case_copy_discard_let_pair_walk_whole.Goals as goal

pub case-past-y-requires : goal.case-past-y-requires
case-past-y-requires t c =
    let w = c.requires in
    (case-in w.0 w.1 w.2 w.3 w.4 w.5).0.fits

pub case-past_names-requires : goal.case-past_names-requires
case-past_names-requires t c =
    let w = c.requires in
    case-in w.0 w.1 w.2 w.3 w.4 w.5

pub case-walk-e-requires : goal.case-walk-e-requires
case-walk-e-requires t c =
    let w = c.requires in
    let h = c.past_names.ensures in
    (omega (arith, c.decreases, begun (branch_of w.0 w.1 w.2 w.3 w.4) w.5, h), (w.2, case-part w.0 w.1 w.2 w.3 w.4 w.5 c.word-a.ensures h))

pub case-one_name-b-requires : goal.case-one_name-b-requires
case-one_name-b-requires t c =
    let w = c.requires in
    let a = c.word-a.ensures in
    let h = c.past_names.ensures in
    let d = c.walk-e.ensures w.2 (case-part w.0 w.1 w.2 w.3 w.4 w.5 a h) in
    (search rules, (search rules, (((case-in w.0 w.1 w.2 w.3 w.4 w.5).0, omega (arith, case-left-room w.0 w.1 w.2 w.3 w.4 w.5 a h d)), search rules)))

pub case-walk-l-requires : goal.case-walk-l-requires
case-walk-l-requires t c =
    let w = c.requires in
    let a = c.word-a.ensures in
    let h = c.past_names.ensures in
    let d = c.walk-e.ensures w.2 (case-part w.0 w.1 w.2 w.3 w.4 w.5 a h) in
    (omega (arith, c.decreases, begun (branch_of w.0 w.1 w.2 w.3 w.4) w.5, case-left-further w.0 w.1 w.2 w.3 w.4 w.5 a h d), (w.3, left-branch w.0 w.1 w.2 w.3 w.4 w.5 a h d c.one_name-b.ensures))

pub case-one_name-c-requires : goal.case-one_name-c-requires
case-one_name-c-requires t c =
    let w = c.requires in
    let a = c.word-a.ensures in
    let h = c.past_names.ensures in
    let d = c.walk-e.ensures w.2 (case-part w.0 w.1 w.2 w.3 w.4 w.5 a h) in
    let b = c.one_name-b.ensures in
    let e = c.walk-l.ensures w.3 (left-branch w.0 w.1 w.2 w.3 w.4 w.5 a h d b) in
    rw c.past-y.ensures (search rules, (search rules, (((case-in w.0 w.1 w.2 w.3 w.4 w.5).1, omega (arith, right-room w.0 w.1 w.2 w.3 w.4 w.5 a h d b e)), search rules)))

pub case-walk-r-requires : goal.case-walk-r-requires
case-walk-r-requires t c =
    let w = c.requires in
    let a = c.word-a.ensures in
    let h = c.past_names.ensures in
    let d = c.walk-e.ensures w.2 (case-part w.0 w.1 w.2 w.3 w.4 w.5 a h) in
    let b = c.one_name-b.ensures in
    let e = c.walk-l.ensures w.3 (left-branch w.0 w.1 w.2 w.3 w.4 w.5 a h d b) in
    let i = rw c.past-y.ensures at c.one_name-c.ensures in
    (omega (arith, c.decreases, begun (branch_of w.0 w.1 w.2 w.3 w.4) w.5, right-further w.0 w.1 w.2 w.3 w.4 w.5 a h d b e), (w.4, right-branch w.0 w.1 w.2 w.3 w.4 w.5 a h d b e i))

pub case-case_end-requires : goal.case-case_end-requires
case-case_end-requires t c =
    let w = c.requires in
    let a = c.word-a.ensures in
    let h = c.past_names.ensures in
    let d = c.walk-e.ensures w.2 (case-part w.0 w.1 w.2 w.3 w.4 w.5 a h) in
    let b = c.one_name-b.ensures in
    let e = c.walk-l.ensures w.3 (left-branch w.0 w.1 w.2 w.3 w.4 w.5 a h d b) in
    let i = rw c.past-y.ensures at c.one_name-c.ensures in
    let u = c.walk-r.ensures w.4 (right-branch w.0 w.1 w.2 w.3 w.4 w.5 a h d b e i) in
    end-room w.0 w.1 w.2 w.3 w.4 w.5 a h d b e i u

pub case-returns : goal.case-returns
case-returns t c = λ x y f g m w.
    let a = c.word-a.ensures in
    let h = c.past_names.ensures in
    let d = c.walk-e.ensures f (case-part x y f g m w a h) in
    let b = c.one_name-b.ensures in
    let e = c.walk-l.ensures g (left-branch x y f g m w a h d b) in
    let i = rw c.past-y.ensures at c.one_name-c.ensures in
    let u = c.walk-r.ensures m (right-branch x y f g m w a h d b e i) in
    case-done x y f g m w a h d b e i u c.case_end.ensures

pub copy-past_names-requires : goal.copy-past_names-requires
copy-past_names-requires t c =
    let w = c.requires in
    copy-in w.0 w.1 w.2 w.3 w.4

pub copy-walk-e-requires : goal.copy-walk-e-requires
copy-walk-e-requires t c =
    let w = c.requires in
    let h = c.past_names.ensures in
    (omega (arith, c.decreases, begun (both_of copy_of w.0 w.1 w.2 w.3) w.4, h), (w.2, copy-part w.0 w.1 w.2 w.3 w.4 c.word-a.ensures h))

pub copy-two_names-b-requires : goal.copy-two_names-b-requires
copy-two_names-b-requires t c =
    let w = c.requires in
    let a = c.word-a.ensures in
    let h = c.past_names.ensures in
    let d = c.walk-e.ensures w.2 (copy-part w.0 w.1 w.2 w.3 w.4 a h) in
    let q = copy-in w.0 w.1 w.2 w.3 w.4 in
    (search rules, (search rules, ((q.0, q.1, omega (arith, copy-between-room w.0 w.1 w.2 w.3 w.4 a h d)), search rules)))

pub copy-walk-requires : goal.copy-walk-requires
copy-walk-requires t c =
    let w = c.requires in
    let a = c.word-a.ensures in
    let h = c.past_names.ensures in
    let d = c.walk-e.ensures w.2 (copy-part w.0 w.1 w.2 w.3 w.4 a h) in
    (omega (arith, c.decreases, begun (both_of copy_of w.0 w.1 w.2 w.3) w.4, copy-further w.0 w.1 w.2 w.3 w.4 a h d), (w.3, copy_body w.0 w.1 w.2 w.3 w.4 a h d c.two_names-b.ensures))

pub copy-returns : goal.copy-returns
copy-returns t c = λ x y f g w.
    let a = c.word-a.ensures in
    let h = c.past_names.ensures in
    let d = c.walk-e.ensures f (copy-part x y f g w a h) in
    let b = c.two_names-b.ensures in
    copy_done x y f g w a h d b (c.walk.ensures g (copy_body x y f g w a h d b))

pub discard-skip-requires : goal.discard-skip-requires
discard-skip-requires t c =
    let w = c.requires in
    (w.0 ∷ [], discard-terms w.0 w.1 w.2)

pub discard-walk-requires : goal.discard-walk-requires
discard-walk-requires t c =
    let w = c.requires in
    let a = c.word-a.ensures in
    let h = c.skip.ensures (w.0 ∷ []) (discard-terms w.0 w.1 w.2) in
    (omega (arith, c.decreases, begun (two_of discard_of w.0 w.1) w.2, discard-further w.0 w.1 w.2 a h), (w.1, discard-part w.0 w.1 w.2 a h))

pub discard-returns : goal.discard-returns
discard-returns t c = λ f g w.
    let a = c.word-a.ensures in
    let h = c.skip.ensures (f ∷ []) (discard-terms f g w) in
    discard-done f g w a h (c.walk.ensures g (discard-part f g w a h))

pub let_pair-two_names-a-requires : goal.let_pair-two_names-a-requires
let_pair-two_names-a-requires t c =
    let w = c.requires in
    let q = let-in w.0 w.1 w.2 w.3 w.4 in
    (search rules, (search rules, ((q.0, q.1, omega (arith, let-room w.0 w.1 w.2 w.3 w.4)), search rules)))

pub let_pair-past_names-requires : goal.let_pair-past_names-requires
let_pair-past_names-requires t c =
    let w = c.requires in
    let-in w.0 w.1 w.2 w.3 w.4

pub let_pair-walk-e-requires : goal.let_pair-walk-e-requires
let_pair-walk-e-requires t c =
    let w = c.requires in
    let h = c.past_names.ensures in
    (omega (arith, c.decreases, begun (both_of let_pair_of w.0 w.1 w.2 w.3) w.4, h), (w.2, let-part w.0 w.1 w.2 w.3 w.4 c.two_names-a.ensures h))

pub let_pair-word-b-requires : goal.let_pair-word-b-requires
let_pair-word-b-requires t c =
    let w = c.requires in
    let a = c.two_names-a.ensures in
    let h = c.past_names.ensures in
    let d = c.walk-e.ensures w.2 (let-part w.0 w.1 w.2 w.3 w.4 a h) in
    (search rules, omega (arith, let-between-room w.0 w.1 w.2 w.3 w.4 a h d))

pub let_pair-walk-requires : goal.let_pair-walk-requires
let_pair-walk-requires t c =
    let w = c.requires in
    let a = c.two_names-a.ensures in
    let h = c.past_names.ensures in
    let d = c.walk-e.ensures w.2 (let-part w.0 w.1 w.2 w.3 w.4 a h) in
    (omega (arith, c.decreases, begun (both_of let_pair_of w.0 w.1 w.2 w.3) w.4, let-further w.0 w.1 w.2 w.3 w.4 a h d), (w.3, let-body w.0 w.1 w.2 w.3 w.4 a h d c.word-b.ensures))

pub let_pair-returns : goal.let_pair-returns
let_pair-returns t c = λ x y f g w.
    let a = c.two_names-a.ensures in
    let h = c.past_names.ensures in
    let d = c.walk-e.ensures f (let-part x y f g w a h) in
    let b = c.word-b.ensures in
    let-done x y f g w a h d b (c.walk.ensures g (let-body x y f g w a h d b))

pub walk-bounds-s-at : goal.walk-bounds-s-at
walk-bounds-s-at t c = let w = c.requires in let n = start w.0 w.1 in on-begun n

pub walk-last_name-requires : goal.walk-last_name-requires
walk-last_name-requires t c = let w = c.requires in let n = start w.0 w.1 in name-here n c.in-1.is

pub walk-walk-l-requires : goal.walk-walk-l-requires
walk-walk-l-requires t c = let w = c.requires in let n = start w.0 w.1 in (omega (arith, c.decreases, on-begun n), left_here n c.in-3.is c.byte-a.ensures)

pub walk-sign-b-requires : goal.walk-sign-b-requires
walk-sign-b-requires t c = let w = c.requires in let n = start w.0 w.1 in left-room n c.in-3.is c.byte-a.ensures c.walk-l.ensures

pub walk-walk-r-requires : goal.walk-walk-r-requires
walk-walk-r-requires t c = let w = c.requires in let n = start w.0 w.1 in let m = left-next n c.in-3.is c.byte-a.ensures c.walk-l.ensures c.sign-b.ensures in (omega (arith, c.decreases, on-begun n, left-further n c.in-3.is c.byte-a.ensures c.walk-l.ensures), (m.t, here m))

pub walk-closed-requires : goal.walk-closed-requires
walk-closed-requires t c = let w = c.requires in let n = start w.0 w.1 in let p = part_room (left-next n c.in-3.is c.byte-a.ensures c.walk-l.ensures c.sign-b.ensures) c.walk-r.ensures in (omega (arith, p.0), p.1)

pub walk-past-e-requires : goal.walk-past-e-requires
walk-past-e-requires t c = let w = c.requires in let n = start w.0 w.1 in (bound-here n c.in-5.is).0.fits

pub walk-one_name-o-requires : goal.walk-one_name-o-requires
walk-one_name-o-requires t c = let w = c.requires in let n = start w.0 w.1 in let b = bound-here n c.in-5.is in (search rules, (search rules, ((b.0, omega (arith, b.1)), search rules)))

pub walk-walk-requires : goal.walk-walk-requires
walk-walk-requires t c = let w = c.requires in let n = start w.0 w.1 in (omega (arith, c.decreases, on-begun n, c.past-e.ensures), any_here (bound-next n c.in-5.is c.one_name-o.ensures c.past-e.ensures))

pub walk-sign-o-requires : goal.walk-sign-o-requires
walk-sign-o-requires t c = let w = c.requires in let n = start w.0 w.1 in one-here n (c.one_part.ensures.0 c.if-one_part.true)

pub walk-walk-requires-in_default : goal.walk-walk-requires-in_default
walk-walk-requires-in_default t c = let w = c.requires in let n = start w.0 w.1 in (omega (arith, c.decreases, on-begun n), any_here (one-next n (c.one_part.ensures.0 c.if-one_part.true) c.sign-o.ensures))

pub walk-whole-requires : goal.walk-whole-requires
walk-whole-requires t c = let w = c.requires in let n = start w.0 w.1 in (omega (arith, c.decreases), whole_here n (search rules, λ q. false≢true (sym c.if-one_part.false ∙ c.one_part.ensures.1 q)))

pub walk-returns-in-1 : goal.walk-returns-in-1
walk-returns-in-1 t c = λ T w. let n = start T w in name-ends n c.in-1.is c.last_name.ensures

pub walk-returns-in-3 : goal.walk-returns-in-3
walk-returns-in-3 t c = λ T w. let n = start T w in part-ends (left-next n c.in-3.is c.byte-a.ensures c.walk-l.ensures c.sign-b.ensures) c.walk-r.ensures c.closed.ensures

pub walk-returns-in-5 : goal.walk-returns-in-5
walk-returns-in-5 t c = λ T w. let n = start T w in any-ends (bound-next n c.in-5.is c.one_name-o.ensures c.past-e.ensures) c.walk.ensures

pub walk-returns-in_default : goal.walk-returns-in_default
walk-returns-in_default t c = λ T w. let n = start T w in any-ends (one-next n (c.one_part.ensures.0 c.if-one_part.true) c.sign-o.ensures) c.walk-in_default.ensures

pub walk-returns-in_default-2 : goal.walk-returns-in_default-2
walk-returns-in_default-2 t c = λ T w. let n = start T w in whole-ends n (search rules, λ q. false≢true (sym c.if-one_part.false ∙ c.one_part.ensures.1 q)) c.whole.ensures

pub whole-bounds-s-at : goal.whole-bounds-s-at
whole-bounds-s-at t c =
    let w = c.requires in
    begun w.0 w.2

pub whole-leaf-requires : goal.whole-leaf-requires
whole-leaf-requires t c =
    let w = c.requires in
    leaf-here w.0 w.2 c.in-2.is

pub whole-let_pair-requires : goal.whole-let_pair-requires
whole-let_pair-requires t c =
    let w = c.requires in
    (omega (arith, c.decreases), let-here w.0 w.2 c.in-4.is)

pub whole-case-requires : goal.whole-case-requires
whole-case-requires t c =
    let w = c.requires in
    (omega (arith, c.decreases), case-here w.0 w.2 c.in-9.is)

pub whole-discard-requires : goal.whole-discard-requires
whole-discard-requires t c =
    let w = c.requires in
    (omega (arith, c.decreases), discard-here w.0 w.2 c.in-16.is)

pub whole-copy-requires : goal.whole-copy-requires
whole-copy-requires t c =
    let w = c.requires in
    (omega (arith, c.decreases), copy-here w.0 w.2 w.1 (search rules))

pub whole-returns-in-2 : goal.whole-returns-in-2
whole-returns-in-2 t c = λ T z w. leaf-called T w c.in-2.is c.leaf.ensures

pub whole-returns-in-4 : goal.whole-returns-in-4
whole-returns-in-4 t c = λ T z w. let-called T w c.in-4.is c.let_pair.ensures

pub whole-returns-in-9 : goal.whole-returns-in-9
whole-returns-in-9 t c = λ T z w. case-called T w c.in-9.is c.case.ensures

pub whole-returns-in-16 : goal.whole-returns-in-16
whole-returns-in-16 t c = λ T z w. discard-called T w c.in-16.is c.discard.ensures

pub whole-returns-in_default : goal.whole-returns-in_default
whole-returns-in_default t c = λ T z w. copy-called T w z (search rules) c.copy.ensures
