-- What bounded reduction leaves is legal and breaks no limit, so it can be read again: by induction on the limit. Assumes nothing.
use Prim.Native.Nat.{ℕ, zero, suc}
use mathlib.Core.Path.{◌≡◌, refl}
use mathlib.Core.Bool.{Bool, true, false}
use Rattle.rules.specs.Limits.{Limits}
use Rattle.rules.specs.Legal.{Legal}
use Rattle.rules.specs.Term.{Term, fits}
use Rattle.rules.specs.declared.Counts.{Counts}
use Rattle.rules.specs.Step.{Stepped, normal, found, step, step_fits, half_fits}
use Rattle.rules.specs.Reduction.{Reduced, stopped, outgrew, plus, reduce_from}
use Rattle.laws.specs.free.Same.{both_true}
use Rattle.laws.specs.step.StepLegal.{LegalStepped, step-legal}

module _ (L : Limits) where
  abbrev pub Sound : Term → Type 0
  Sound t = Legal t × (fits L t ≡ true)

  abbrev pub SoundReduced : Reduced → Type 0
  SoundReduced (stopped n c b t) = Sound t
  SoundReduced (outgrew n t) = Sound t

  pub reduced-sound : (limit n : ℕ) (c : Counts) (t : Term) → Sound t → SoundReduced (reduce_from L limit n c t)
  unfolding reduce_from
  reduced-sound zero n c t w = w
  reduced-sound (suc limit) n c t w = go (step t) (step-legal t w.0) (λ d u v. reduced-sound limit (suc n) d u v)
    where
      fit : (b : Bool) (s : Reduced) → (b ≡ true → SoundReduced s) → SoundReduced (elim b [ true ↦ s | false ↦ outgrew n t ])
      fit true s f = f refl
      fit false s f = w

      go : (s : Stepped) → LegalStepped s → ((d : Counts) (u : Term) → Sound u → SoundReduced (reduce_from L limit (suc n) d u))
          → SoundReduced
          (elim s [
            | normal ↦ stopped n c true t
            | found r p h u ↦ elim (step_fits L h u) [ true ↦ reduce_from L limit (suc n) (plus r c) u | false ↦ outgrew n t ]
          ])
      go normal l f = w
      go (found r p h u) l f = fit (step_fits L h u) (reduce_from L limit (suc n) (plus r c) u) (λ e. f (plus r c) u (l.1, (both_true (half_fits L h) (fits L u) e).1))
