-- `axiom::name_given` meets its contract: the entries that were looked at are none of them the atom's opposite.
use lib.ListN.{length}
use Rattle.proof_draft.proofs.axiom.Opposites.{Left}
use Rattle.proof_draft.proofs.axiom.name_given.Given as goal

abbrev pub invariant-loop-i : goal.invariant-loop-i
invariant-loop-i l = Left l.s l.at l.entries (length l.entries) l.i
