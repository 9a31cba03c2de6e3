-- What a call leaves in the buffers that it is lent (01, "Buffers").
-- Assumes nothing: these are definitions.
use Rattle.std.specs.Prelude.{ℕ, ◌-◌, Bool, true, false, List, length, replicate, if◌then◌else◌, Ok, Err}
use Rattle.std.proofs.Math.Option.{Option, none, some}
use Rattle.rules.specs.Basic.{Bytes, ◌‥◌}
use Rattle.rules.specs.Refusal.{Outcome, refuse, spares_scratch}
use Rattle.rules.specs.declared.Reason.TheVariants.{ShortBuffer}

-- A call ends with an answer or a refusal, and writes something to the output or leaves it untouched.
pub record Ending (A : Type 0) : Type 0 where
  pub says : Outcome A
  pub writes : Option Bytes

abbrev pub answers : {A : Type 0} → A → Bytes → Ending A
answers a s = record { says = Ok a; writes = some s }

abbrev pub writes_nothing : {A : Type 0} → Outcome A → Ending A
writes_nothing o = record { says = o; writes = none }

-- the bytes that are written, and their length as the answer
abbrev pub bytes_or : Outcome Bytes → Ending ℕ
bytes_or (Ok s) = answers (length s) s
bytes_or (Err r) = writes_nothing (Err r)

-- 1: a lent buffer is shorter than asked.
abbrev pub lent : {A : Type 0} → Bool → Ending A → Ending A
lent true e = e
lent false e = writes_nothing (refuse ShortBuffer 0 0)

-- After success the output is the answer, then zeros.
abbrev pub filled : (buffer : Bytes) → Option Bytes → Bytes
filled b none = b
filled b (some s) = s ‥ replicate (length b - length s) 0

abbrev pub written : Option Bytes → ℕ
written none = 0
written (some s) = length s

-- Scratch is untouched by 1 to 7, 9 and 15 and all zeros otherwise; so are the cut entries.
abbrev pub cleared : {A B : Type 0} → (zero : B) → List B → Outcome A → List B
cleared z b (Ok a) = replicate (length b) z
cleared z b (Err r) = if spares_scratch r.reason then b else replicate (length b) z

-- What stands after a call: its answer, its output; and its scratch.
pub record Wrote (A : Type 0) : Type 0 where
  pub answer : Outcome A
  pub output : Bytes

pub record Worked (A : Type 0) : Type 0 where
  pub answer : Outcome A
  pub output : Bytes
  pub scratch : Bytes

abbrev pub wrote : {A : Type 0} → (output : Bytes) → Ending A → Wrote A
wrote o e = record { answer = e.says; output = filled o e.writes }

abbrev pub worked : {A : Type 0} → (output scratch : Bytes) → Ending A → Worked A
worked o s e = record { answer = e.says; output = filled o e.writes; scratch = cleared 0 s e.says }
