-- What stands before the premises is its stages, one after the other.
-- Assumes nothing.
use Prim.Native.Nat.{ℕ}
use mathlib.Core.Path.{◌≡◌, refl}
use Rattle.std.specs.Prelude.{Result, Err}
use Rattle.rules.specs.declared.Fault.{Fault}
use Rattle.rules.specs.Basic.{Bytes}
use Rattle.rules.specs.Limits.{Limits}
use Rattle.rules.specs.Reading.{Got, got, bad, Met, and_then}
use Rattle.proof.specs.Seen.{Reached, Conclusion, seen, found, count_seen}
use Rattle.proof.specs.Stages.{own_of, linear_of, count_of, top_of}
use Rattle.proof.proofs.conclusion.Views.{seen-bad, Came}

count-made : {A B : Type 0} (g : Got Met A) (f : A → B) (i : A → ℕ) (j : B → ℕ) → ((x : A) → j (f x) ≡ i x) → count_seen j (and_then g (λ x u p r. got (f x) u p r)) ≡ count_seen i g
count-made (got x u p r) f i j e = rw (e x)
count-made (bad n p) f i j e = refl

module _ (L : Limits) (s : Bytes) (from : Reached) where
  abbrev top : Result Conclusion Fault
  top = count_seen (λ x. x.premises) (found (top_of L) s from)

  pub top-no-rule : (f : Fault) → seen (found (own_of L) s from) ≡ Err f → top ≡ Err f
  unfolding top_of
  top-no-rule f e = rw (seen-bad (found (own_of L) s from) e)

  module _ {q : Reached} (own : Came s (found (own_of L) s from) q) where
    pub top-no-linear : (f : Fault) → seen (found (linear_of L) s q) ≡ Err f → top ≡ Err f
    unfolding top_of
    top-no-linear f e = rw (own.is, seen-bad (found (linear_of L) s q) e)

    pub top-on : {q' : Reached} → Came s (found (linear_of L) s q) q' → top ≡ count_seen (λ n. n) (found count_of s q')
    unfolding top_of
    top-on {q'} linear = rw (own.is, linear.is) (count-made (found count_of s q') (λ n. record { rule = own.value; linear = linear.value; premises = n }) (λ n. n) (λ x. x.premises) (λ n. refl))
