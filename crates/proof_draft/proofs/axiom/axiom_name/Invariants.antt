-- `axiom::axiom_name` meets its contract: the formulas that were passed give no name, so that what the others take decides.
use Prim.Native.Nat.{◌+◌, ◌-◌}
use mathlib.Core.Option.{Option}
use lib.ListN.{length, get_or}
use Rattle.rules.specs.Name.{Name}
use Rattle.proof_draft.specs.Searching.{Listed, Takes}
use Rattle.proof_draft.proofs.axiom.axiom_name.Given as goal

abbrev pub invariant-loop-passed : goal.invariant-loop-passed
invariant-loop-passed l =
    Listed l.s l.entries (length l.entries) l.at (l.many - l.passed)
    × ((o : Option Name) → Takes l.s l.entries (length l.entries) l.at (l.many - l.passed) o → Takes l.s l.entries (length l.entries) (l.linear + 1) (get_or l.s l.linear 0) o)
