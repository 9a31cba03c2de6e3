-- The plan for a rule. Assumes nothing: these are definitions.
use Rattle.std.specs.Prelude.{ℕ, ◌+◌, ◌≡◌, length}
use Rattle.rules.specs.Basic.{Bytes}
use Rattle.rules.specs.Proof.{Proof}
use Rattle.laws.specs.reading.WrittenProof.{carried}
use Rattle.proof.specs.Place.{ProofAt}
use Rattle.proof.specs.Shape.{rule_of, premises_of, proof_head}
use Rattle.proof_draft.specs.Acts.{Acts}
use Rattle.proof_draft.specs.declared.plan.Plan.{Plan}

-- r says what the rule of p does, at a place, and where its formulas and its premises are
pub record Tells (at : ℕ) (p : Proof) (r : Plan) : Type 0 where
  pub linear : r.linear ≡ at + 1 + length (carried (rule_of p))
  pub premises : r.premises ≡ length (premises_of p)
  pub first : r.first ≡ at + length (proof_head p)
  pub acts : Acts r.act p

pub record Planned (s : Bytes) (at : ℕ) (r : Plan) : Type 0 where
  pub tells : (p : Proof) → ProofAt s at p → Tells at p r
