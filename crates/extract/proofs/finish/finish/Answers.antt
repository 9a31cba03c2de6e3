-- `finish::finish` meets its contract: the counter is tested, then the size, and then the term is written. Assumes nothing.
use Rattle.std.specs.Prelude.{Err}
use mathlib.Core.Path.{ap}
use Rattle.extract.proofs.finish.Finishing.{draft-writes, end-within, ends-outgrown, ends-made}
use Rattle.extract.proofs.finish.finish.Goals as goal

pub clear-requires : goal.clear-requires
clear-requires c = end-within _ _ _ _ _ c.if-draft-gt-MOST_COUNTER.false c.fits.ensures c.if-fits.true c.put_part-end.ensures c.requires

pub put_part-end-requires : goal.put_part-end-requires
put_part-end-requires c = draft-writes _ _ _ _ _ c.if-draft-gt-MOST_COUNTER.false c.fits.ensures c.if-fits.true c.requires

pub returns : goal.returns
returns c = ends-outgrown _ _ _ _ _ c.if-draft-gt-MOST_COUNTER.false c.fits.ensures _ c.if-fits.false (ap Err c.of_no_input-2.ensures) c.clear-2.ensures

pub returns-then-fits : goal.returns-then-fits
returns-then-fits c = ends-made _ _ _ _ _ c.if-draft-gt-MOST_COUNTER.false c.fits.ensures c.if-fits.true c.put_part-end.ensures _ c.clear.ensures c.clear-then-fits.ensures
