-- `put::in_turn` meets its contract: what the first substitution makes is the body of the second. Assumes nothing.
use Rattle.std.proofs.Common.{arith}
use lib.Seq.{length-take-le}
use mathlib.Core.Path.{sym}
use Rattle.substitution.proofs.place.Finds.{whole}
use Rattle.substitution.proofs.put.Turning.{first-job, half-outgrown, half-short, half_is, half-inside, half-within, second-within, second-job, countable, both-written, second-outgrown}
use Rattle.substitution.proofs.put.in_turn.Goals as goal

pub returns-in_err-halfway-clause-puts : goal.returns-in_err-halfway-clause-puts
returns-in_err-halfway-clause-puts c x e v w j = rw c.from_residual.ensures (half-outgrown j (c.put_in.ensures _ _ _ (first-job j)) _ _ c.in_err-halfway.was)

pub slice_bounds-body-end : goal.slice_bounds-body-end
slice_bounds-body-end c =
    let w = c.requires.turns in
    let p = c.put_in.ensures _ _ _ (first-job w.4) in
    half-inside w.4 p c.in_ok-halfway.was c.past-size.ensures c.requires.row.1

pub slice_bounds-body-end-2 : goal.slice_bounds-body-end-2
slice_bounds-body-end-2 c =
    let w = c.requires.turns in
    let p = c.put_in.ensures _ _ _ (first-job w.4) in
    sym (length-take-le _ _ (half-inside w.4 p c.in_ok-halfway.was c.past-size.ensures c.requires.row.1))

pub find_places-found-requires : goal.find_places-found-requires
find_places-found-requires c =
    let w = c.requires.turns in
    let b = c.requires.row in
    let p = c.put_in.ensures _ _ _ (first-job w.4) in
    let q = half-within w.4 p c.in_ok-halfway.was c.past-size.ensures b.1 in
    record {
      term_at = (_, whole _ _ (half_is w.4 p c.in_ok-halfway.was c.past-size.ensures b.1), q.0);
      s_len_bound = (q.1, b.0);
    }

pub shared_ref_as_front-put_in-2 : goal.shared_ref_as_front-put_in-2
shared_ref_as_front-put_in-2 c =
    let w = c.requires.turns in
    let b = c.requires.row in
    let p = c.put_in.ensures _ _ _ (first-job w.4) in
    let f = c.find_places-found.ensures _ (whole _ _ (half_is w.4 p c.in_ok-halfway.was c.past-size.ensures b.1)) in
    let h = second-within w.4 p c.in_ok-halfway.was c.past-size.ensures b.1 _ b.0 f.1 in
    omega (arith, h, b.0)

pub overflow_add-beside : goal.overflow_add-beside
overflow_add-beside c =
    let w = c.requires.turns in
    let p = c.put_in.ensures _ _ _ (first-job w.4) in
    omega (arith, half-short w.4 p c.in_ok-halfway.was c.past-size.ensures, w.4.short)

pub put_in-requires-2 : goal.put_in-requires-2
put_in-requires-2 c =
    let w = c.requires.turns in
    let b = c.requires.row in
    let p = c.put_in.ensures _ _ _ (first-job w.4) in
    let f = c.find_places-found.ensures _ (whole _ _ (half_is w.4 p c.in_ok-halfway.was c.past-size.ensures b.1)) in
    record {
      putting = (_, _, w.3, second-job w.4 p c.in_ok-halfway.was c.past-size.ensures b.1 _ b.0 f.1 f.2);
      room = b.2;
    }

pub returns-in_err-written-clause-puts : goal.returns-in_err-written-clause-puts
returns-in_err-written-clause-puts c x e v w j =
    let b = c.requires.row in
    let p = c.put_in.ensures _ _ _ (first-job j) in
    let f = c.find_places-found.ensures _ (whole _ _ (half_is j p c.in_ok-halfway.was c.past-size.ensures b.1)) in
    rw c.from_residual-in_err-written.ensures
    (second-outgrown j p c.in_ok-halfway.was c.past-size.ensures _ (c.put_in-2.ensures _ _ _ (second-job j p c.in_ok-halfway.was c.past-size.ensures b.1 _ b.0 f.1 f.2)) c.in_err-written.was)

pub after-requires : goal.after-requires
after-requires c =
    let w = c.requires.turns in
    let b = c.requires.row in
    let p = c.put_in.ensures _ _ _ (first-job w.4) in
    let f = c.find_places-found.ensures _ (whole _ _ (half_is w.4 p c.in_ok-halfway.was c.past-size.ensures b.1)) in
    countable w.4 p c.in_ok-halfway.was c.past-size.ensures _ (c.put_in-2.ensures _ _ _ (second-job w.4 p c.in_ok-halfway.was c.past-size.ensures b.1 _ b.0 f.1 f.2)) c.in_ok-written.was

pub returns-clause-puts : goal.returns-clause-puts
returns-clause-puts c x e v w j =
    let b = c.requires.row in
    let p = c.put_in.ensures _ _ _ (first-job j) in
    let f = c.find_places-found.ensures _ (whole _ _ (half_is j p c.in_ok-halfway.was c.past-size.ensures b.1)) in
    both-written j p c.in_ok-halfway.was c.past-size.ensures _ (c.put_in-2.ensures _ _ _ (second-job j p c.in_ok-halfway.was c.past-size.ensures b.1 _ b.0 f.1 f.2)) c.in_ok-written.was c.after.ensures
