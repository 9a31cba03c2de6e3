-- A substitution of a legal term in a legal term gives a legal term: by induction on it.
-- Assumes nothing.
use Rattle.std.specs.Prelude.{Bool, true, false, ◌||◌, if◌then◌else◌}
use Rattle.rules.specs.Name.{Name, same}
use Rattle.rules.specs.Legal.{Legal}
use Rattle.rules.specs.Term.{Term, var, leaf, one, two, abs, both, branch}
use Rattle.rules.specs.Substitution.{subst}

chosen : (b : Bool) (t u : Term) → Legal t → Legal u → Legal (if b then t else u)
chosen true t u p q = p
chosen false t u p q = q

module _ (x : Name) (v : Term) (l : Legal v) where
  pub subst-legal : (t : Term) → Legal t → Legal (subst x v t)
  unfolding subst
  subst-legal (var y) p = chosen (same x y) v (var y) l p
  subst-legal (leaf k) p = tt
  subst-legal (one k e) p = subst-legal e p
  subst-legal (two k a b) p = (subst-legal a p.0, subst-legal b p.1)
  subst-legal (abs y e) p = (p.0, chosen (same x y) e (subst x v e) p.1 (subst-legal e p.1))
  subst-legal (both k y z e b) p = (p.0, p.1, subst-legal e p.2, chosen (same x y || same x z) b (subst x v b) p.3 (subst-legal b p.3))
  subst-legal (branch y z e a b) p = (
    p.0,
    p.1,
    subst-legal e p.2,
    chosen (same x y) a (subst x v a) p.3 (subst-legal a p.3),
    chosen (same x z) b (subst x v b) p.4 (subst-legal b p.4),
  )
