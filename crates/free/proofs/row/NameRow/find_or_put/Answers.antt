-- `row::NameRow::find_or_put` meets its contract: the name is found, a binder passed has it, or the row is opened at its slot. Assumes nothing.
use native.Mathlib.Omega.{arith}
use Rattle.free.proofs.row.Meeting.{sought, before-guesses, met-there, met-new}
use Rattle.free.proofs.row.NameRow.find_or_put.Goals as goal

pub open_at-requires : goal.open_at-requires
open_at-requires c = let (x, xs, l, w) = c.requires in (omega (arith, (c.in-Err.ensures x l (sought w)).0, w.state.found.many), omega (arith, w.room, w.state.passed.many, w.state.long))

pub returns-in-Ok : goal.returns-in-Ok
returns-in-Ok c = record {
  met = λ x xs l w. met-there w _ (c.in-Ok.ensures x l (sought w));
  before_guesses = let (x, xs, l, w) = c.requires in before-guesses w _ (omega (arith, c.in-Ok.ensures x l (sought w)));
}

pub returns-in-Some-clause-before_guesses : goal.returns-in-Some-clause-before_guesses
returns-in-Some-clause-before_guesses c = let (x, xs, l, w) = c.requires in (c.in-Some.ensures x xs w.name w.state.passed).0

pub returns-in-None : goal.returns-in-None
returns-in-None c = record {
  met = λ x xs l w. met-new w _ (c.in-Err.ensures x l (sought w)) (c.in-None.ensures x xs w.name w.state.passed) c.open_at.ensures c.open_at.auto.row;
  before_guesses = let (x, xs, l, w) = c.requires in before-guesses w _ (c.in-Err.ensures x l (sought w)).0;
}
