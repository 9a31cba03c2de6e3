-- `walk::draft_rule` and `draft_cut`, a cycle of two, end: what is left of the proof's bytes falls from rule to rule.
use Prim.Native.Nat.{◌+◌, ◌-◌, ◌*◌}
use lib.ListN.{length}
use Rattle.proof_draft.proofs.walk.+draft_cut_draft_rule.Given as goal

abbrev pub decreases-draft_cut : goal.decreases-draft_cut
decreases-draft_cut l = 2 * (length l.s.now - l.at)

abbrev pub decreases-draft_rule : goal.decreases-draft_rule
decreases-draft_rule l = 2 * (length l.s.now - l.at) + 1
