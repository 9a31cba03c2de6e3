-- What the code tells of a reading: all but the value read and the bytes that are left.
-- Assumes nothing: these are definitions.
use Rattle.std.specs.Prelude.{ℕ, Result, Ok, Err}
use Rattle.rules.specs.declared.Reason.{Reason}
use Rattle.rules.specs.declared.Fault.{Fault}
use Rattle.rules.specs.Reading.{Got, got, bad}
use Rattle.reader.specs.declared.class.Past.{Past}

-- the place after what was read, with the nodes met so far; or a fault
abbrev pub Read : Type 0
Read = Result Past Fault

abbrev pub past : (next met : ℕ) → Read
past p u = Ok (record { next = p; met = u })

abbrev pub fault : {A : Type 0} → Reason → (place : ℕ) → Result A Fault
fault n p = Err (record { reason = n; place = p })

abbrev pub view : {A : Type 0} → Got ℕ A → Read
view (got x u p r) = past p u
view (bad n p) = fault n p

-- the place after what was skipped, or a fault
abbrev pub Skip : Type 0
Skip = Result ℕ Fault

-- what a skip says, where u nodes were met before it
abbrev pub skipped : ℕ → Skip → Read
skipped u (Ok p) = past p u
skipped u (Err f) = Err f
