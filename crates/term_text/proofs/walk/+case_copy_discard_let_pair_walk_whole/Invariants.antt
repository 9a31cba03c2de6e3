-- The cycle of calls over a term ends: each call begins further on in the bytes, or is one step down at the same place. Assumes nothing.
use Prim.Native.Nat.{◌*◌, ◌+◌, ◌-◌}
use lib.ListN.{length}
use Rattle.term_text.proofs.walk.+case_copy_discard_let_pair_walk_whole.Given as goal

abbrev pub decreases-case : goal.decreases-case
decreases-case l = 4 * (length l.s.now - l.at)

abbrev pub decreases-copy : goal.decreases-copy
decreases-copy l = 4 * (length l.s.now - l.at)

abbrev pub decreases-discard : goal.decreases-discard
decreases-discard l = 4 * (length l.s.now - l.at)

abbrev pub decreases-let_pair : goal.decreases-let_pair
decreases-let_pair l = 4 * (length l.s.now - l.at)

abbrev pub decreases-walk : goal.decreases-walk
decreases-walk l = 4 * (length l.s.now - l.at) + 2

abbrev pub decreases-whole : goal.decreases-whole
decreases-whole l = 4 * (length l.s.now - l.at) + 1
