-- `ending::close` meets its contract: as the draft finishes, with an array of its own for the sizes. Assumes nothing.
use mathlib.Core.Path.{refl}
use Rattle.extract.proofs.Starting.{done-finishes}
use Rattle.extract.proofs.ending.close.Goals as goal

pub finish-made-requires : goal.finish-made-requires
finish-made-requires c = (_, _, done-finishes c.requires.2 refl c.requires.3)

pub returns : goal.returns
returns c = λ p ws w x. record { made = _; finished = c.finish-made.ensures _ _ (done-finishes w refl x); is = c.end_of.ensures }
