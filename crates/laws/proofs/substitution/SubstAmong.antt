-- Which names are free after a substitution, as membership in the list of free names: from how often they are.
-- Assumes nothing.
use Rattle.std.specs.Prelude.{ℕ, zero, suc, ◌*◌, ◌≡◌, refl, Bool, true, false, ◌&&◌, ◌||◌, not, if◌then◌else◌}
use Rattle.std.proofs.Common.{sym, ap, ap₂, ◌∙◌, zero-mul, mul-zero, arith, lt-ltb, ltb-true}
use Rattle.std.proofs.Math.Bool.{and-false}
use Rattle.rules.specs.Basic.{◌<?◌}
use Rattle.rules.specs.Name.{Name, same, among}
use Rattle.rules.specs.Term.{Term}
use Rattle.rules.specs.Free.{free, occurrences}
use Rattle.rules.specs.Substitution.{subst}
use Rattle.laws.specs.free.Occurrences.{among-free, some_of, some_left}
use Rattle.laws.specs.substitution.SubstFree.{reach}
use Rattle.laws.proofs.substitution.SubstFree.{subst-occurrences}
use Rattle.laws.specs.substitution.SubstReach.{binds, reach-most, reach-all}

some-product : (m n : ℕ) → (0 <? (m * n)) ≡ ((0 <? m) && (0 <? n))
some-product zero n = rw (zero-mul n)
some-product (suc m) zero = rw (mul-zero (suc m)) (sym (and-false (0 <? suc m)))
some-product (suc m) (suc n) = lt-ltb 0 (suc m * suc n) (omega arith) ∙ sym (ap₂ ◌&&◌ (lt-ltb 0 (suc m) (omega arith)) (lt-ltb 0 (suc n) (omega arith)))

raised : (p r q w : Bool) → (r ≡ true → q ≡ true) → (p || (r && w)) ≡ true → (p || (q && w)) ≡ true
raised true r q w h e = refl
raised false true q w h e = rw (h refl) e
raised false false q w h e = absurd (let z : ◌≡◌ {A = ℕ} 0 1 = cc in omega arith)

module _ (x z : Name) (v t : Term) where
  -- exactly: z was free and is not x, or x is free at a place that no binder of z covers, and z is free in what is put there
  pub among-subst : among z (free (subst x v t)) ≡ ((not (same z x) && among z (free t)) || ((0 <? reach x z t) && among z (free v)))
  among-subst =
      among-free z (subst x v t)
      ∙ ap (λ n. 0 <? n) (subst-occurrences x z v t)
      ∙ some_of (if same z x then 0 else occurrences z t) (reach x z t * occurrences z v)
      ∙ ap₂ ◌||◌ (some_left (same z x) (occurrences z t) ∙ ap (λ b. not (same z x) && b) (sym (among-free z t)))
      (some-product (reach x z t) (occurrences z v) ∙ ap (λ b. (0 <? reach x z t) && b) (sym (among-free z v)))

  -- with no binder of z in t nothing is caught
  pub among-subst-open : binds z t ≡ false → among z (free (subst x v t)) ≡ ((not (same z x) && among z (free t)) || (among x (free t) && among z (free v)))
  among-subst-open e =
      among-subst ∙ ap (λ b. (not (same z x) && among z (free t)) || (b && among z (free v))) (ap (λ n. 0 <? n) (reach-all x z t e) ∙ sym (among-free x t))

  -- nothing else can be free
  pub among-subst-only : among z (free (subst x v t)) ≡ true → ((not (same z x) && among z (free t)) || (among x (free t) && among z (free v))) ≡ true
  among-subst-only e =
      raised (not (same z x) && among z (free t)) (0 <? reach x z t) (among x (free t)) (among z (free v))
      (λ h. among-free x t ∙ lt-ltb 0 (occurrences x t) (omega (arith, reach-most x z t, ltb-true 0 (reach x z t) h)))
      (sym among-subst ∙ e)

  -- what was free, but for x, stays so
  pub among-subst-kept : same z x ≡ false → among z (free t) ≡ true → among z (free (subst x v t)) ≡ true
  among-subst-kept e h = among-subst ∙ rw (e, h)
