-- What each case of the answer says, and what the reduction of a term that was read leaves. Assumes nothing: these are definitions.
use Rattle.std.specs.Prelude.{ℕ, ◌≡◌, length, replicate, Result, Ok, Err}
use Rattle.rules.specs.Basic.{Bytes}
use Rattle.rules.specs.Refusal.{Outcome}
use Rattle.rules.specs.Reduction as rules
use Rattle.rules.specs.Buffers.{filled, written}
use Rattle.rules.specs.Calls.{ReduceAnswer, reduce_ending}
use Rattle.reduction.specs.declared.Reduction.{Reduction}
use Rattle.reduction.specs.declared.Unreduced.{Unreduced}

-- Stopped with the steps, the counts and whether no step remains, or the refusal; and the length of what stands in the output
abbrev pub reduced_by : Outcome ReduceAnswer → (length : ℕ) → Result Reduction Unreduced
reduced_by (Ok a) n = Ok (record { steps = a.steps; counts = a.counts; normal = a.none_left; length = n })
reduced_by (Err r) n = Err (record { refusal = r; length = n })

-- the answer and the output as the rules end a reduction, and zeros in the scratch
pub record Reducing (d : rules.Reduced) (out scratch : Bytes) (r : Result Reduction Unreduced) (out' scratch' : Bytes) : Type 0 where
  pub says : r ≡ reduced_by (reduce_ending d).says (written (reduce_ending d).writes)
  pub leaves : out' ≡ filled out (reduce_ending d).writes
  pub clears : scratch' ≡ replicate (length scratch) 0
