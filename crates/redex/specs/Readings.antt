-- What a reading of a term says: what the rules' reading does, and of a calm term that it is normal. Assumes nothing: these are definitions.
use Rattle.std.specs.Prelude.{ℕ, ◌≡◌, true, IfOk}
use Rattle.rules.specs.Basic.{Bytes}
use Rattle.rules.specs.Limits.{limits}
use Rattle.rules.specs.Refusal.{mapped, Outcome}
use Rattle.rules.specs.Term.{Term, encode, nodes}
use Rattle.rules.specs.Reading.{read_term}
use Rattle.rules.specs.Step.{step, is_normal_term}
use Rattle.redex.specs.declared.read.Resting.{Resting}
use Rattle.redex.specs.declared.read.Resting.TheVariants.{Calm, Unsure}

-- its count of nodes
abbrev pub nodes_of : Resting → ℕ
nodes_of (Calm n) = n
nodes_of (Unsure n) = n

-- a calm term is normal
abbrev pub CalmRead : Bytes → Resting → Type 0
CalmRead s r = (n : ℕ) → r ≡ Calm n → (t : Term) → s ≡ encode t → is_normal_term (step t) ≡ true

pub record Reads (s : Bytes) (input : ℕ) (r : Outcome Resting) : Type 0 where
  pub says : mapped nodes_of r ≡ mapped nodes (read_term limits input s)
  pub calm : IfOk r (CalmRead s)
