-- How often a name stands at a binder, is used and is free after a substitution: the laws of Weights and FreeAfter in the words of Straight.
-- Assumes nothing.
use Rattle.std.specs.Prelude.{◌+◌, ◌*◌, ◌≤◌, ◌≡◌}
use Rattle.std.proofs.Common.{◌∙◌, arith}
use Rattle.rules.specs.Name.{Name}
use Rattle.rules.specs.Term.{Term}
use Rattle.rules.specs.Free.{occurrences}
use Rattle.rules.specs.Substitution.{subst}
use Rattle.rules.specs.Straight.{stands, uses}
use Rattle.laws.specs.straight.Weights.{just, uses_of, stands_of, uses-weigh, stands-weigh, weigh-subst}
use Rattle.laws.specs.straight.FreeAfter.{free-most, free_all, frees-subst}

-- A name that stands at no binder is free wherever it is used; no name is free more often than it is used.
pub free-uses : (z : Name) (t : Term) → stands z t ≡ 0 → occurrences z t ≡ uses z t
free-uses z t h = free_all z t (stands-weigh z t ∙ h) ∙ uses-weigh z t

pub free-below : (z : Name) (t : Term) → occurrences z t ≤ uses z t
free-below z t = omega (arith, free-most z t, uses-weigh z t)

module _ (x : Name) (v t : Term) (z : Name) where
  -- with each free x go in the binders of v
  pub stands-subst : stands z (subst x v t) ≡ stands z t + occurrences x t * stands z v
  stands-subst = rw (← stands-weigh z (subst x v t), ← stands-weigh z t, ← stands-weigh z v) (omega (arith, weigh-subst (stands_of z) x v t))

  -- and its variables, in place of that x
  pub uses-subst : uses z (subst x v t) + occurrences x t * just z x ≡ uses z t + occurrences x t * uses z v
  uses-subst = rw (← uses-weigh z (subst x v t), ← uses-weigh z t, ← uses-weigh z v) (weigh-subst (uses_of z) x v t)

  -- and its free names, if no binder of t has the name of one
  pub free-subst : ((y : Name) → 1 ≤ stands y t → occurrences y v ≡ 0)
      → occurrences z (subst x v t) + occurrences x t * just z x ≡ occurrences z t + occurrences x t * occurrences z v
  free-subst h = frees-subst x v z t (λ y k. h y (omega (arith, stands-weigh y t)))
