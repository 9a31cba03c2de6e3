-- `free::write_names` meets its contract: the names passed stand in the output. Assumes nothing.
use mathlib.Core.Path.{◌∙◌}
use native.Mathlib.Omega.{arith}
use Rattle.term.proofs.node.Names.{name-room}
use Rattle.free.proofs.Listing.{entry-name, entry-room, listed_more}
use Rattle.free.proofs.write_names.Goals as goal

pub copy-to-requires : goal.copy-to-requires
copy-to-requires c = (omega arith, omega (arith, name-room _ _ (entry-name c.loop-place.invariant.1 c.loop-place-test.true c.requires.0 c.requires.1)), omega (arith, c.loop-place.invariant.0, entry-room c.loop-place.invariant.1 c.loop-place-test.true c.requires.0 c.requires.1))

pub loop-place-preserved : goal.loop-place-preserved
loop-place-preserved c = (c.copy-to.auto.out ∙ c.loop-place.invariant.0, listed_more c.loop-place.invariant.1 c.loop-place-test.true c.copy-to.ensures)
