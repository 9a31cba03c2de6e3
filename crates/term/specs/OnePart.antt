-- The bit of a tag tells the nodes with one part and no name from all others. By the shapes of a term.
-- Assumes nothing.
use Rattle.std.specs.Prelude.{◌≡◌, refl}
use Rattle.std.proofs.Common.{arith}
use Rattle.rules.specs.Term.{Term, var, leaf, one, two, abs, both, branch, unit, trivial, One, inl, inr, fst, snd, abort, promote, derelict, pair, app, discard, let_a_pair, copy, one_tag}
use Rattle.term.specs.Node.{tag, single_part}

pub one_bit : (k : One) → single_part (one_tag k) ≡ 1
one_bit inl = refl
one_bit inr = refl
one_bit fst = refl
one_bit snd = refl
one_bit abort = refl
one_bit promote = refl
one_bit derelict = refl

pub only_one : (t : Term) → single_part (tag t) ≡ 1 → (k : One) × (e : Term) × (t ≡ one k e)
only_one (one k e) h = (k, e, refl)
only_one (var x) h = absurd (omega (arith, h))
only_one (leaf unit) h = absurd (omega (arith, h))
only_one (leaf trivial) h = absurd (omega (arith, h))
only_one (two pair a b) h = absurd (omega (arith, h))
only_one (two app a b) h = absurd (omega (arith, h))
only_one (two discard a b) h = absurd (omega (arith, h))
only_one (abs x e) h = absurd (omega (arith, h))
only_one (both let_a_pair x y e b) h = absurd (omega (arith, h))
only_one (both copy x y e b) h = absurd (omega (arith, h))
only_one (branch x y e l r) h = absurd (omega (arith, h))
