-- Program `patchrun`: what it prints for a stored term on standard input (01, "Run").
-- Assumes nothing: these are definitions.
use Rattle.std.specs.Prelude.{ℕ, Bool, true, false, [], ◌∷◌, Ok, Err}
use Prim.Native.String.{String}
use Rattle.rules.specs.Basic.{Bytes, say, decimal, ◌‥◌}
use Rattle.rules.specs.Limits.{Limits}
use Rattle.rules.specs.Refusal.{Refusal, Outcome, refuse, number_of, ◌>>=◌}
use Rattle.rules.specs.declared.Reason.TheVariants.{Outgrows}
use Rattle.rules.specs.Reading.{read_term}
use Rattle.rules.specs.Text.{text}
use Rattle.rules.specs.Reduction.{Counts, Reduced, stopped, outgrew, reduce}
use Rattle.rules.specs.Stored.{opened}
use Rattle.rules.specs.declared.Kind.TheVariants.{Term as a_term}

-- It reduces with limit 1,000.
abbrev pub program_steps : ℕ
program_steps = 1000

abbrev pub yes_no : Bool → String
yes_no true = "yes"
yes_no false = "no"

abbrev pub field : String → ℕ → Bytes
field w n = say w ‥ decimal n

-- total, then each rule's count, then yes or no; each line ended by byte 10
unfoldable pub counts_line : ℕ → Counts → Bool → Bytes
counts_line n c b =
    field "steps " n ‥ field " app " c.app ‥ field " let " c.lets ‥ field " case " c.case ‥ field " fst " c.fst ‥ field " snd " c.snd
    ‥ field " derelict " c.derelict ‥ field " copy " c.copy ‥ field " discard " c.discard ‥ say " normal " ‥ say (yes_no b) ‥ 10 ∷ []

unfoldable pub refusal_line : Refusal → Bytes
refusal_line r = field "refused " (number_of r.reason) ‥ field " at " r.place ‥ 10 ∷ []

abbrev pub report : Outcome Bytes → Bytes
report (Ok s) = s
report (Err r) = refusal_line r

abbrev pub reduced_report : Reduced → Outcome Bytes
reduced_report (stopped n c b t) = Ok (text t ‥ 10 ∷ counts_line n c b)
reduced_report (outgrew n t) = refuse Outgrows n 0

unfoldable pub patchrun : Limits → (stdin : Bytes) → Bytes
patchrun L f = report (do
  s ← opened L a_term f
  t ← read_term L 1 s
  reduced_report (reduce L program_steps t))
