-- How often a name is free after a substitution: what is put in counts at the places that no binder of the name covers.
-- Assumes nothing.
use Prim.Native.Nat.{◌+◌, ◌*◌}
use Rattle.std.specs.Prelude.{◌≡◌, if◌then◌else◌}
use Rattle.rules.specs.Name.{Name, same}
use Rattle.rules.specs.Term.{Term}
use Rattle.rules.specs.Free.{occurrences}
use Rattle.rules.specs.Substitution.{subst}
use Rattle.laws.specs.substitution.SubstFree.{reach, counted}

-- how often z is free after a substitution
pub subst-occurrences : (x z : Name) (v t : Term) → occurrences z (subst x v t) ≡ (if same z x then 0 else occurrences z t) + reach x z t * occurrences z v
subst-occurrences x z v t = counted x z v t
