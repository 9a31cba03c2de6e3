-- Bounded reduction, with something wrong or nothing: what is counted, which term follows a step, what 8 leaves.
-- Assumes nothing: these are definitions.
use Rattle.std.specs.Prelude.{ℕ, zero, suc, true, false, ◌&&◌, if◌then◌else◌}
use Rattle.std.proofs.Math.Option.{none, some}
use Rattle.rules.specs.Basic.{◌<?◌}
use Rattle.rules.specs.Limits.{limits}
use Rattle.rules.specs.Refusal.{refuse}
use Rattle.rules.specs.declared.Reason.TheVariants.{Outgrows}
use Rattle.rules.specs.Term.{Term, encode}
use Rattle.rules.specs.Step.{normal, found, is_normal_term, step_fits}
use Rattle.rules.specs.Reduction.{zero_counts, plus, Reduced, stopped, outgrew}
use Rattle.rules.specs.Buffers.{Ending}
use Rattle.rules.specs.Calls.{ReduceAnswer, reduce_ending}
use Rattle.rules.specs.declared.Counts.{Counts}
use Rattle.rules.specs.declared.Rule.{Rule}
use Rattle.rules.specs.declared.Rule.TheVariants.{App, Let, Case, Fst, Snd, Derelict, Copy, Discard}
use Rattle.promises.specs.Wrong.{Wrong, ◌is◌, answers-normal, repeats-first-step, counts-next-rule, counts-all-as-app, counts-one-more, leaves-output-on-8}
use Rattle.promises.specs.Wrong.Step.{step_by, instead}

abbrev pub next_rule : Rule → Rule
next_rule App = Let
next_rule Let = Case
next_rule Case = Fst
next_rule Fst = Snd
next_rule Snd = Derelict
next_rule Derelict = Copy
next_rule Copy = Discard
next_rule Discard = App

abbrev pub counted : Wrong → Rule → Counts → Counts
counted w r c = if w is counts-next-rule then plus (next_rule r) c else (if w is counts-all-as-app then plus App c else plus r c)

abbrev pub following : Wrong → (done : ℕ) → (before after : Term) → Term
following w n t u = if w is repeats-first-step && (0 <? n) then t else u

unfoldable pub reduce_from_by : Wrong → (limit done : ℕ) → Counts → Term → Reduced
reduce_from_by w zero n c t = stopped n c (is_normal_term (step_by w t)) t
reduce_from_by w (suc limit) n c t =
    elim (step_by w t) [
      | normal ↦ stopped n c true t
      | found r p h u ↦ elim (step_fits limits h u) [ true ↦ reduce_from_by w limit (suc n) (counted w r c) (following w n t u) | false ↦ outgrew n t ]
    ]

abbrev pub told : Wrong → Term → Reduced → Reduced
told w u (stopped n c b t) = stopped (if w is counts-one-more then suc n else n) c b (instead w u t)
told w u (outgrew n t) = outgrew n t

unfoldable pub reduced : Wrong → (limit : ℕ) → Term → Reduced
reduced w limit u = if w is answers-normal then stopped 0 zero_counts true u else told w u (reduce_from_by w limit 0 zero_counts u)

abbrev pub reduce_ending_by : Wrong → Reduced → Ending ReduceAnswer
reduce_ending_by w (stopped n c b t) = reduce_ending (stopped n c b t)
reduce_ending_by w (outgrew n t) = record { says = refuse Outgrows n 0; writes = if w is leaves-output-on-8 then none else some (encode t) }
