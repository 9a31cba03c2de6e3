-- Bounded reduction: the steps taken, one count for each of the eight rules, and whether no step remains (01, "Step", "8 is given exactly when").
-- Assumes nothing: these are definitions.
use Rattle.std.specs.Prelude.{ℕ, zero, suc, Bool, true, false}
use Rattle.rules.specs.Limits.{Limits}
use Rattle.rules.specs.Term.{Term}
pub use Rattle.rules.specs.declared.Counts.{Counts}
use Rattle.rules.specs.Step.{Rule, App, Let, Case, Fst, Snd, Derelict, Copy, Discard, normal, found, step, is_normal_term, step_fits}

-- one count for each rule
abbrev pub zero_counts : Counts
zero_counts = record { app = 0; lets = 0; case = 0; fst = 0; snd = 0; derelict = 0; copy = 0; discard = 0 }

-- one more of a rule
abbrev pub plus : Rule → Counts → Counts
plus App c = record { app = suc c.app; lets = c.lets; case = c.case; fst = c.fst; snd = c.snd; derelict = c.derelict; copy = c.copy; discard = c.discard }
plus Let c = record { app = c.app; lets = suc c.lets; case = c.case; fst = c.fst; snd = c.snd; derelict = c.derelict; copy = c.copy; discard = c.discard }
plus Case c = record { app = c.app; lets = c.lets; case = suc c.case; fst = c.fst; snd = c.snd; derelict = c.derelict; copy = c.copy; discard = c.discard }
plus Fst c = record { app = c.app; lets = c.lets; case = c.case; fst = suc c.fst; snd = c.snd; derelict = c.derelict; copy = c.copy; discard = c.discard }
plus Snd c = record { app = c.app; lets = c.lets; case = c.case; fst = c.fst; snd = suc c.snd; derelict = c.derelict; copy = c.copy; discard = c.discard }
plus Derelict c = record { app = c.app; lets = c.lets; case = c.case; fst = c.fst; snd = c.snd; derelict = suc c.derelict; copy = c.copy; discard = c.discard }
plus Copy c = record { app = c.app; lets = c.lets; case = c.case; fst = c.fst; snd = c.snd; derelict = c.derelict; copy = suc c.copy; discard = c.discard }
plus Discard c = record { app = c.app; lets = c.lets; case = c.case; fst = c.fst; snd = c.snd; derelict = c.derelict; copy = c.copy; discard = suc c.discard }

-- Stopped, at the limit or because no step remains; or a step outgrew the limits. Either way the steps done and the last term that fitted.
pub data Reduced : Type 0 where
  stopped : (steps : ℕ) → Counts → (none_left : Bool) → Term → Reduced
  outgrew : (steps : ℕ) → Term → Reduced

-- Each step taken is tested for 8; a step past the limit is not tried.
unfoldable pub reduce_from : Limits → (limit : ℕ) → (done : ℕ) → Counts → Term → Reduced
reduce_from L zero n c t = stopped n c (is_normal_term (step t)) t
reduce_from L (suc limit) n c t =
    elim (step t) [
      | normal ↦ stopped n c true t
      | found r p h u ↦ elim (step_fits L h u) [ true ↦ reduce_from L limit (suc n) (plus r c) u | false ↦ outgrew n t ]
    ]

abbrev pub reduce : Limits → (limit : ℕ) → Term → Reduced
reduce L limit t = reduce_from L limit 0 zero_counts t
