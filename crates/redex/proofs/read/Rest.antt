-- Where the search finds nothing the term is normal. By cases on the spot. Assumes nothing.
use mathlib.Core.Path.{◌≡◌, refl, ◌∙◌}
use mathlib.Core.Option.{Option, none, some}
use Rattle.rules.specs.Term.{Term, size}
use Rattle.rules.specs.Step.{normal, found, step, is_normal_term}
use Rattle.redex.specs.Spot.{Spot, spot, step-spot, Contracts, spot-contracts}
use Rattle.redex.specs.Searched.{sought_at, sought}
use Rattle.std.specs.Prelude.{is_err}

pub rests : (t : Term) → is_err (sought 0 t) ≡ is_normal_term (step t)
rests t = go (spot t) refl (spot-contracts t)
  where
    go : (s : Option Spot) → spot t ≡ s → Contracts s → is_err (sought_at 0 (size t) s) ≡ is_normal_term (step t)
    go none h c = let k : step t ≡ normal = step-spot t ∙ rw h in rw k
    go (some q) h c = let k : step t ≡ found c.0 q.place c.1 (q.around c.2) = step-spot t ∙ rw (h, c.3) in rw k
