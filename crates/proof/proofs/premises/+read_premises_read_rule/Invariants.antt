-- `premises::read_rule` and `premises::read_premises`, which call each other, end: what is left of the bytes falls.
-- In the row's loop, whatever the premises that are still to be read come to, the row comes to.
use Prim.Native.Nat.{◌+◌, ◌-◌, ◌*◌}
use lib.ListN.{length}
use Rattle.proof.proofs.Above.{Going}
use Rattle.proof.proofs.premises.+read_premises_read_rule.Given as goal

abbrev pub decreases-read_premises : goal.decreases-read_premises
decreases-read_premises l = 2 * (length l.s.now.now - l.from.next) + 1

abbrev pub decreases-read_rule : goal.decreases-read_rule
decreases-read_rule l = 2 * (length l.s.now.now - l.next)

abbrev pub invariant-read_premises-loop : goal.invariant-read_premises-loop
invariant-read_premises-loop l = Going l.s.now l.n l.fn.from l.reached (l.n + 1 - l.counter)
