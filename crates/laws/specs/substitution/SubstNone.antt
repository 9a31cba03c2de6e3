-- Where a name does not occur free, a substitution for it changes nothing: by induction on the term.
-- Assumes nothing.
use Rattle.std.specs.Prelude.{ℕ, ◌≡◌, Bool, true, false, ◌||◌, if◌then◌else◌}
use Rattle.std.proofs.Math.Path.{refl, ap, ap₂}
use Rattle.std.proofs.Common.{arith}
use Rattle.rules.specs.Name.{Name, same}
use Rattle.rules.specs.Term.{Term, var, leaf, one, two, abs, both, branch}
use Rattle.rules.specs.Free.{occurrences}
use Rattle.rules.specs.Substitution.{subst}

module _ (x : Name) (v : Term) where
  covered : (b : Bool) (t u : Term) (n : ℕ) → (n ≡ 0 → u ≡ t) → (if b then 0 else n) ≡ 0 → (if b then t else u) ≡ t
  covered true t u n h e = refl
  covered false t u n h e = h e

  at-var : (y : Name) (b : Bool) → ◌≡◌ {A = ℕ} (if b then 1 else 0) 0 → (if b then v else var y) ≡ var y
  at-var y true e = absurd (omega arith)
  at-var y false e = refl

  pub subst-none : (t : Term) → occurrences x t ≡ 0 → subst x v t ≡ t
  unfolding subst occurrences
  subst-none (var y) e = at-var y (same x y) e
  subst-none (leaf k) e = refl
  subst-none (one k a) e = ap (one k) (subst-none a e)
  subst-none (two k a b) e = ap₂ (two k) (subst-none a (omega arith)) (subst-none b (omega arith))
  subst-none (abs y a) e = ap (abs y) (covered (same x y) a (subst x v a) (occurrences x a) (subst-none a) e)
  subst-none (both k y z a b) e =
      ap₂ (both k y z) (subst-none a (omega arith)) (covered (same x y || same x z) b (subst x v b) (occurrences x b) (subst-none b) (omega arith))
  subst-none (branch y z a l r) e =
      let p = subst-none a (omega arith) in
      let q = covered (same x y) l (subst x v l) (occurrences x l) (subst-none l) (omega arith) in
      let w = covered (same x z) r (subst x v r) (occurrences x r) (subst-none r) (omega arith) in
      λ i. branch y z (p i) (q i) (w i)
