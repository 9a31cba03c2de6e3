-- What printing leaves in its buffers. Assumes nothing: these are definitions.
use Rattle.std.specs.Prelude.{ℕ, ◌+◌, Ok, Err}
use Rattle.rules.specs.Basic.{Bytes}
use Rattle.rules.specs.Limits.{Limits, text_room}
use Rattle.rules.specs.Refusal.{◌>>=◌}
use Rattle.rules.specs.Reading.{read_term}
use Rattle.rules.specs.Reduction.{reduce}
use Rattle.rules.specs.Calls.{reduce_call}
use Rattle.rules.specs.Stored.{opened}
use Rattle.rules.specs.Program.{program_steps, report, reduced_report}
use Rattle.rules.specs.declared.Kind.TheVariants.{Term as a_term}

-- a term's text, and the line of the counts
abbrev pub printed_room : Limits → ℕ
printed_room L = text_room L + 512

-- what is printed for a term's bytes
unfoldable pub printed_for : Limits → (content : Bytes) → Bytes
printed_for L s = report (do
  t ← read_term L 1 s
  reduced_report (reduce L program_steps t))

-- what a run leaves in the buffers of reduction: nothing new if the file is refused
unfoldable pub term_left : Limits → (file term scratch : Bytes) → Bytes
term_left L f t s = elim (opened L a_term f) [ Ok c ↦ (reduce_call L c program_steps t s).output | Err r ↦ t ]

unfoldable pub scratch_left : Limits → (file term scratch : Bytes) → Bytes
scratch_left L f t s = elim (opened L a_term f) [ Ok c ↦ (reduce_call L c program_steps t s).scratch | Err r ↦ s ]
