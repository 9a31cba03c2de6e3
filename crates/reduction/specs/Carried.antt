-- Reduction one step at a time: what is left to do after so many steps, with the counts so far. Any loop that reduces is held to this.
-- By cases on the step. Assumes nothing.
use Rattle.std.specs.Prelude.{ℕ, zero, suc, ◌≡◌, Bool, true, false}
use Rattle.std.proofs.Math.Path.{refl}
use Rattle.std.proofs.Common.{ap, ◌∙◌}
use Rattle.std.proofs.Math.Option.{Option}
use Rattle.rules.specs.Limits.{Limits}
use Rattle.rules.specs.Term.{Term}
use Rattle.rules.specs.declared.Rule.{Rule}
use Rattle.rules.specs.declared.Counts.{Counts}
use Rattle.rules.specs.Step.{Stepped, normal, found, step, is_normal_term, step_fits}
use Rattle.rules.specs.Reduction.{plus, stopped, outgrew, reduce_from}

module _ (L : Limits) (n : ℕ) (c : Counts) (t : Term) where
  pub at-limit : reduce_from L zero n c t ≡ stopped n c (is_normal_term (step t)) t
  unfolding reduce_from
  at-limit = refl

  module _ (limit : ℕ) where
    pub at-normal : step t ≡ normal → reduce_from L (suc limit) n c t ≡ stopped n c true t
    unfolding reduce_from
    at-normal e = rw (e, reduce_from)

    pub at-found : (r : Rule) (p : ℕ) (h : Option Term) (u : Term) → step t ≡ found r p h u → step_fits L h u ≡ true
        → reduce_from L (suc limit) n c t ≡ reduce_from L limit (suc n) (plus r c) u
    unfolding reduce_from
    at-found r p h u e f = rw (e, reduce_from) (rw f)

    pub at-over : (r : Rule) (p : ℕ) (h : Option Term) (u : Term) → step t ≡ found r p h u → step_fits L h u ≡ false
        → reduce_from L (suc limit) n c t ≡ outgrew n t
    unfolding reduce_from
    at-over r p h u e f = rw (e, reduce_from) (rw f)

  -- no step remains, whether the limit is reached or not
  pub at_rest : (limit : ℕ) → step t ≡ normal → reduce_from L limit n c t ≡ stopped n c true t
  at_rest zero e = at-limit ∙ ap (λ (s : Stepped). stopped n c (is_normal_term s) t) e
  at_rest (suc limit) e = at-normal limit e

-- what a step of t comes to: nothing, a term that fits, or one that does not
pub data Turn (L : Limits) (t : Term) : Type 0 where
  rests : step t ≡ normal → Turn L t
  goes : (r : Rule) (p : ℕ) (h : Option Term) (u : Term) → step t ≡ found r p h u → step_fits L h u ≡ true → Turn L t
  outgrows : (r : Rule) (p : ℕ) (h : Option Term) (u : Term) → step t ≡ found r p h u → step_fits L h u ≡ false → Turn L t

pub turn : (L : Limits) (t : Term) → Turn L t
turn L t = go (step t) refl
  where
    go : (s : Stepped) → step t ≡ s → Turn L t
    go normal e = rests e
    go (found r p h u) e = tested (step_fits L h u) refl
      where
        tested : (b : Bool) → step_fits L h u ≡ b → Turn L t
        tested true f = goes r p h u e f
        tested false f = outgrows r p h u e f
