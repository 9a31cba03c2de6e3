-- `class::put_tags` meets its contract: what is left to write makes up the whole. Assumes nothing.
use mathlib.Core.Path.{◌≡◌}
use lib.ListN.{drop}
use lib.Seq.{sets}
use Rattle.reader.proofs.class.put_tags.Given as goal

abbrev pub invariant-loop-b : goal.invariant-loop-b
invariant-loop-b l = sets l.t l.b (drop l.b l.tags) ≡ sets l.initial.t 0 l.tags
