-- `ending::begin` meets its contract: in the order of the refusals. Assumes nothing.
use mathlib.Core.Path.{sym, ◌∙◌}
use Rattle.laws.specs.reading.Octets.{octets}
use Rattle.extract.proofs.ending.Ending.{begins-short, begins-no-room, begins-bad, begins-nine, begins-walk}
use borrow.Author.Rules.{rules}
use Rattle.extract.proofs.ending.begin.Goals as goal

pub returns-else-counter-gt-MOST_COUNTER : goal.returns-else-counter-gt-MOST_COUNTER
returns-else-counter-gt-MOST_COUNTER c = let a = c.args in
    begins-walk a.counter a.room a.proof.now a.out.now a.scratch.now c.if-room-lt-ENTRY_ROOM.false c.short.ensures c.if-short.false _ (octets a.proof.now (λ i. search rules)) (sym c.proof_input.ensures ∙ c.in-Ok.is) c.if-counter-gt-MOST_COUNTER.false

pub returns-in-Err : goal.returns-in-Err
returns-in-Err c = let a = c.args in begins-bad a.counter a.room a.proof.now a.out.now a.scratch.now c.if-room-lt-ENTRY_ROOM.false c.short.ensures c.if-short.false _ (sym c.proof_input.ensures ∙ c.in-Err.is) c.refused_end-in-Err.ensures

pub returns-then-counter-gt-MOST_COUNTER : goal.returns-then-counter-gt-MOST_COUNTER
returns-then-counter-gt-MOST_COUNTER c = let a = c.args in
    begins-nine a.counter a.room a.proof.now a.out.now a.scratch.now c.if-room-lt-ENTRY_ROOM.false c.short.ensures c.if-short.false _ (octets a.proof.now (λ i. search rules)) (sym c.proof_input.ensures ∙ c.in-Ok.is) c.if-counter-gt-MOST_COUNTER.true c.of_no_input-then-counter-gt-MOST_COUNTER.ensures c.refused_end-then-counter-gt-MOST_COUNTER.ensures

pub returns-then-room-lt-ENTRY_ROOM : goal.returns-then-room-lt-ENTRY_ROOM
returns-then-room-lt-ENTRY_ROOM c = let a = c.args in begins-short a.counter a.room a.proof.now a.out.now a.scratch.now c.if-room-lt-ENTRY_ROOM.true c.of_no_input.ensures c.refused_end.ensures

pub returns-then-short : goal.returns-then-short
returns-then-short c = let a = c.args in begins-no-room a.counter a.room a.proof.now a.out.now a.scratch.now c.if-room-lt-ENTRY_ROOM.false c.short.ensures c.if-short.true c.of_no_input-then-short.ensures c.refused_end-then-short.ensures
