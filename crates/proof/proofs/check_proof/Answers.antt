-- `check_proof` meets its contract: the call is its one input's answer. Assumes nothing.
use Rattle.rules.specs.Calls.{check_proof_call}
use Rattle.proof.proofs.check_proof.Goals as goal

pub returns : goal.returns
unfolding check_proof_call
returns c = c.proof_input.ensures
