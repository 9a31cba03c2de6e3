-- `free::write_names` meets its contract: the names passed stand in the output. Assumes nothing.
use mathlib.Core.Path.{◌≡◌}
use lib.ListN.{length}
use Rattle.free.proofs.Listing.{Listing}
use Rattle.free.proofs.write_names.Given as goal

abbrev pub invariant-loop-place : goal.invariant-loop-place
invariant-loop-place l = (length l.out ≡ length l.initial.out) × Listing l.s l.places (length l.places) l.initial.out l.out l.place-index l.to
