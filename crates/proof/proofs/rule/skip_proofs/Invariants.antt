-- `rule::skip_proofs` meets its contract: where the proofs that are left end, all of them end. Assumes nothing.
use Prim.Native.Nat.{ℕ, ◌-◌}
use lib.ListN.{length}
use Rattle.rules.specs.Proof.{encode_proof}
use Rattle.proof.proofs.rule.Items.{Some, SkipIs}
use Rattle.proof.proofs.rule.skip_proofs.Given as goal

abbrev pub invariant-loop-left : goal.invariant-loop-left
invariant-loop-left l = Some encode_proof l.s l.i l.left × ((r : ℕ) → SkipIs encode_proof l.s l.i l.left r → SkipIs encode_proof l.s l.at l.n r)

abbrev pub decreases-loop-left : goal.decreases-loop-left
decreases-loop-left l = length l.s - l.i
