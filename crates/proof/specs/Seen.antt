-- What the code tells of a reading of a proof: all but the value read and the bytes that are left.
-- Assumes nothing: these are definitions.
use Rattle.std.specs.Prelude.{ℕ, ◌+◌, drop, if◌then◌else◌, Result, Ok, Option, Some, None}
use Rattle.std.proofs.Math.Option.{Option as Perhaps, none, some}
use Rattle.rules.specs.Basic.{Bytes, ◌<?◌}
use Rattle.rules.specs.Limits.{Limits}
use Rattle.rules.specs.Refusal.{refuse, Outcome}
use Rattle.rules.specs.declared.Reason.TheVariants.{LeftOver}
use Rattle.rules.specs.Proof.{RuleHead, a_plain, a_cut, a_focus}
use Rattle.rules.specs.declared.Fault.{Fault}
use Rattle.rules.specs.Reading.{Got, got, bad, Reader, Met}
use Rattle.reader.specs.View.{fault}
pub use Rattle.proof.specs.declared.reached.Reached.{Reached}
pub use Rattle.proof.specs.declared.reached.Most.{Most}
pub use Rattle.proof.specs.declared.tag.Carries.{Carries}
pub use Rattle.proof.specs.declared.tag.Carries.TheVariants.{Nothing, Formula, Index}
pub use Rattle.proof.specs.declared.conclusion.Conclusion.{Conclusion}

-- what was met on the way to a place, and that place
abbrev pub met_by : Reached → Met
met_by q = record { rules = q.rules; formulas = q.formulas }

abbrev pub reached : Met → ℕ → Reached
reached u p = record { next = p; rules = u.rules; formulas = u.formulas }

abbrev pub reached_at : (next rules formulas : ℕ) → Reached
reached_at p r f = record { next = p; rules = r; formulas = f }

-- a byte further on; and a rule more besides
abbrev pub reached_past_byte : Reached → Reached
reached_past_byte q = record { next = q.next + 1; rules = q.rules; formulas = q.formulas }

abbrev pub reached_past_tag : Reached → Reached
reached_past_tag q = record { next = q.next + 1; rules = q.rules + 1; formulas = q.formulas }

-- how far a reading has come, or a fault
abbrev pub Reading : Type 0
Reading = Result Reached Fault

abbrev pub seen : {A : Type 0} → Got Met A → Reading
seen (got x u p r) = Ok (reached u p)
seen (bad n p) = fault n p

-- what a reader finds in s from a place on
abbrev pub found : {A : Type 0} → Reader Met A → Bytes → Reached → Got Met A
found m s q = m (met_by q) q.next (drop q.next s)

-- a tag tells what the rule carries, if it is a rule's
abbrev pub carries : RuleHead → Carries
carries (a_plain k) = Nothing
carries a_cut = Formula
carries (a_focus k) = Index

abbrev pub carried_of : Perhaps RuleHead → Option Carries
carried_of none = None
carried_of (some h) = Some (carries h)

abbrev pub tag_seen : Got ℕ RuleHead → Result Carries Fault
tag_seen (got h u p r) = Ok (carries h)
tag_seen (bad n p) = fault n p

-- a count of premises is told besides
abbrev pub before : Reached → (premises : ℕ) → Result Conclusion Fault
before q n = Ok (record { reached = q; premises = n })

abbrev pub count_seen : {A : Type 0} → (A → ℕ) → Got Met A → Result Conclusion Fault
count_seen count (got x u p r) = before (reached u p) (count x)
count_seen count (bad n p) = fault n p

-- limits on rules and formula nodes alone: the reader of a proof asks for no others
abbrev pub within : Most → Limits
within m = record { bytes = 0; nodes = 0; rules = m.rules; formulas = m.formulas }

-- an input of so many bytes, whose first rule ends there
abbrev pub end_of : Reached → (length input : ℕ) → Outcome ℕ
end_of q l i = if q.next <? l then refuse LeftOver q.next i else Ok q.rules
