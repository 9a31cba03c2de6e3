-- What each case of the calls' answers says, and what a step of a term that was read leaves. Assumes nothing: these are definitions.
use Rattle.std.specs.Prelude.{◌≡◌, length, replicate, Ok, Err}
use Rattle.rules.specs.Basic.{Bytes}
use Rattle.rules.specs.Limits.{limits}
use Rattle.rules.specs.Refusal.{Outcome}
use Rattle.rules.specs.Step as rules
use Rattle.rules.specs.Buffers.{filled}
use Rattle.rules.specs.Calls.{StepAnswer, Normal, Found, step_ending}
use Rattle.step.specs.declared.Stepped.{Stepped}
use Rattle.step.specs.declared.Stepped.TheVariants.{Normal as IsNormal, Found as IsFound}

-- Normal; Found with the rule, its place and the length of the next term; or the refusal
abbrev pub step_answered : Outcome StepAnswer → Outcome Stepped
step_answered (Ok Normal) = Ok IsNormal
step_answered (Ok (Found r p n)) = Ok (IsFound (record { rule = r; place = p; length = n }))
step_answered (Err r) = Err r

-- the answer and the output as the rules end a step, and zeros in the scratch
pub record Stepping (s : rules.Stepped) (out scratch : Bytes) (r : Outcome Stepped) (out' scratch' : Bytes) : Type 0 where
  pub says : r ≡ step_answered (step_ending limits s).says
  pub leaves : out' ≡ filled out (step_ending limits s).writes
  pub clears : scratch' ≡ replicate (length scratch) 0
