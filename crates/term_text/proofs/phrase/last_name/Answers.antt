-- `phrase::last_name` meets its contract: the name is printed, then the brackets. Assumes nothing.
use native.Mathlib.Omega.{arith}
use Rattle.term_text.proofs.phrase.Names.{last-in}
use Rattle.term_text.proofs.phrase.last_name.Goals as goal

pub name-a-requires : goal.name-a-requires
name-a-requires c = let w = c.requires in let h = last-in w.0 c.args.n w.2 w.1 in (h.few, h.fits, omega (arith, w.2.room))

pub past-end-requires : goal.past-end-requires
past-end-requires c = let w = c.requires in (last-in w.0 c.args.n w.2 w.1).fits
