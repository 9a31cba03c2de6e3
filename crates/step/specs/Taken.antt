-- A redex where it stands, and what one step leaves of a term that was read. Assumes nothing: these are definitions.
use Rattle.std.specs.Prelude.{ℕ, ◌≤◌, ◌≡◌, true, length, if◌then◌else◌}
use Rattle.std.proofs.Math.Option.{Option}
use Rattle.std.proofs.lemmas.List.Edits.{sets}
use Rattle.rules.specs.Basic.{Bytes}
use Rattle.rules.specs.Limits.{limits, output_room}
use Rattle.rules.specs.Term.{Term, encode, nodes, fits}
use Rattle.rules.specs.declared.Rule.{Rule}
use Rattle.rules.specs.Refusal.{Outcome}
use Rattle.rules.specs.Step.{by, contract, Stepped, normal, found, step_fits}
use Rattle.redex.specs.Around.{Frame}
use Rattle.redex.specs.Spot.{placed}
use Rattle.rules.specs.Calls.{step_ending}
use Rattle.step.specs.declared.Stepped.{Stepped as Answered}
use Rattle.step.specs.Answers.{step_answered}

-- the redex t, contracted where it stands
unfoldable pub contracted : (place : ℕ) → (Term → Term) → Term → Stepped
contracted p f t = placed p f (contract t)

-- src encodes a whole of n nodes that breaks no limit, in which t stands at `place` and contracts; f is the whole as a function of
-- what stands there
pub record Framed (src : Bytes) (n place : ℕ) (out : Bytes) (f : Term → Term) (t : Term) : Type 0 where
  pub frame : Frame place f
  pub whole : src ≡ encode (f t)
  pub count : n ≡ nodes (f t)
  pub fits : fits limits (f t) ≡ true
  pub room : output_room limits ≤ length out
  pub rule : Rule
  pub half : Option Term
  pub result : Term
  pub contracts : contract t ≡ by rule half result

-- the output of a step: a new term that fits is written, and nothing else
abbrev pub written_of : Stepped → Bytes → Bytes
written_of normal out = out
written_of (found r p h t) out = if step_fits limits h t then sets out 0 (encode t) else out

-- the answer as the rules end a step, and the output before it is cleared
pub record Takes (s : Stepped) (out out' : Bytes) (r : Outcome Answered) : Type 0 where
  pub says : r ≡ step_answered (step_ending limits s).says
  pub leaves : out' ≡ written_of s out
