-- `extractor::extract_with` meets its contract: what is refused before the walk leaves the row as it was, and else the walk says what the rules say of the call. Assumes nothing.
use mathlib.Core.Path.{refl}
use Rattle.extract.proofs.ending.Ending.{walk-gives, stop-gives}
use Rattle.extract.proofs.extractor.extract_with.Goals as goal

pub returns-in-None : goal.returns-in-None
returns-in-None c = walk-gives c.args.entries.now refl (rw c.in-None.is at c.begin.ensures) c.walk_proof.ensures.0 c.walk_proof.ensures.1

pub returns-in-Some : goal.returns-in-Some
returns-in-Some c = stop-gives _ c.args.proof.now c.args.out.now c.args.scratch.now c.args.entries.now refl _ (rw c.in-Some.is at c.begin.ensures)
