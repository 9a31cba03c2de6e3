-- Calm terms: no node, wherever it stands, is a redex by its tag and its first part's. A calm term is normal: the search goes to its end.
-- By induction on the term. Assumes nothing.
use Rattle.std.specs.Prelude.{ℕ, ◌≡◌, false, List, [], ◌∷◌}
use Rattle.rules.specs.Term.{Term, var, leaf, one, two, abs, both, branch, one_tag, two_tag, both_tag}
use Rattle.term.specs.Node.{tag}
use Rattle.redex.specs.Searched.{reduces}

abbrev pub Calm : Term → Type 0
Calm (var x) = Unit {0}
Calm (leaf k) = Unit {0}
Calm (one k e) = (reduces (one_tag k) (tag e) ≡ false) × Calm e
Calm (two k a b) = (reduces (two_tag k) (tag a) ≡ false) × (Calm a × Calm b)
Calm (abs x e) = (reduces 5 (tag e) ≡ false) × Calm e
Calm (both k x y e b) = (reduces (both_tag k) (tag e) ≡ false) × (Calm e × Calm b)
Calm (branch x y e l r) = (reduces 9 (tag e) ≡ false) × (Calm e × (Calm l × Calm r))

abbrev pub AllCalm : List Term → Type 0
AllCalm [] = Unit {0}
AllCalm (t ∷ ts) = Calm t × AllCalm ts

-- calm terms in a row, the first of which is not what the node before it wants
abbrev pub CalmAfter : (last : ℕ) → List Term → Type 0
CalmAfter k [] = Unit {0}
CalmAfter k (t ∷ ts) = (reduces k (tag t) ≡ false) × (Calm t × AllCalm ts)
