-- `class::put_beginnings` meets its contract: it is marked as the definition has it. Assumes nothing.
use mathlib.Core.Path.{refl}
use Rattle.reader.specs.Tables.{beginnings_in}
use Rattle.reader.proofs.class.put_beginnings.Goals as goal

pub returns : goal.returns
unfolding beginnings_in
returns c = refl
