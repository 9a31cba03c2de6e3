-- A calm term is normal: by induction on it, the search goes on past every node. Assumes nothing.
use Prim.Native.Nat.{ℕ, ◌+◌}
use mathlib.Core.Path.{◌≡◌, refl, ◌∙◌}
use mathlib.Core.Bool.{true, false}
use mathlib.Core.Option.{Option, none, some}
use Rattle.rules.specs.Term.{Term, var, leaf, one, two, abs, both, branch, inl, inr, fst, snd, abort, promote, derelict, Two, pair, app, discard, let_a_pair, copy, size}
use Rattle.rules.specs.Step.{Contraction, no, by, contract, name_bytes, normal, step, is_normal_term}
use Rattle.redex.specs.Spot.{Spot, deeper, or_later, itself, spot, step-spot}
use Rattle.redex.proofs.find.Firsts.{contracts, wants-pair, wants-abs, wants-promote, wants-injection}
use Rattle.redex.specs.Calm.{Calm}

not-here : (t : Term) (c : Contraction) (p : Option Spot) → contracts c ≡ false → p ≡ none → itself t c p ≡ none
not-here t no p e d = d
not-here t (by r h u) p e d = absurd (cc)

below : (o : ℕ) (f : Term → Term) (p : Option Spot) → p ≡ none → deeper o f p ≡ none
below o f none e = refl
below o f (some q) e = absurd (cc)

neither : (p q : Option Spot) → p ≡ none → q ≡ none → or_later p q ≡ none
neither none q e d = d
neither (some p) q e d = absurd (cc)

in_two : (k : Two) (a b : Term) → contracts (contract (two k a b)) ≡ false → spot a ≡ none → spot b ≡ none → spot (two k a b) ≡ none
unfolding spot
in_two k a b h e d =
    not-here (two k a b) (contract (two k a b)) (or_later (deeper 1 (λ p. two k p b) (spot a)) (deeper (1 + size a) (two k a) (spot b))) h
    (neither (deeper 1 (λ p. two k p b) (spot a)) (deeper (1 + size a) (two k a) (spot b)) (below 1 (λ p. two k p b) (spot a) e) (below (1 + size a) (two k a) (spot b) d))

no-spot : (t : Term) → Calm t → spot t ≡ none
unfolding spot contract
no-spot (var x) c = refl
no-spot (leaf k) c = refl
no-spot (one abort e) c = refl
no-spot (one inl e) c = below 1 (one inl) (spot e) (no-spot e c.1)
no-spot (one inr e) c = below 1 (one inr) (spot e) (no-spot e c.1)
no-spot (one promote e) c = below 1 (one promote) (spot e) (no-spot e c.1)
no-spot (one fst e) c =
    not-here (one fst e) (contract (one fst e)) (deeper 1 (one fst) (spot e)) (wants-pair e _ (λ a b. refl) ∙ c.0) (below 1 (one fst) (spot e) (no-spot e c.1))
no-spot (one snd e) c =
    not-here (one snd e) (contract (one snd e)) (deeper 1 (one snd) (spot e)) (wants-pair e _ (λ a b. refl) ∙ c.0) (below 1 (one snd) (spot e) (no-spot e c.1))
no-spot (one derelict e) c =
    not-here (one derelict e) (contract (one derelict e)) (deeper 1 (one derelict) (spot e)) (wants-promote e _ (λ v. refl) ∙ c.0)
    (below 1 (one derelict) (spot e) (no-spot e c.1))
no-spot (two pair a b) c = in_two pair a b refl (no-spot a c.1.0) (no-spot b c.1.1)
no-spot (two app a b) c = in_two app a b (wants-abs a b ∙ c.0) (no-spot a c.1.0) (no-spot b c.1.1)
no-spot (two discard a b) c = in_two discard a b (wants-promote a _ (λ v. refl) ∙ c.0) (no-spot a c.1.0) (no-spot b c.1.1)
no-spot (abs x e) c = below (1 + name_bytes x) (abs x) (spot e) (no-spot e c.1)
no-spot (both let_a_pair x y e b) c =
    not-here (both let_a_pair x y e b) (contract (both let_a_pair x y e b))
    (or_later (deeper (1 + name_bytes x + name_bytes y) (λ p. both let_a_pair x y p b) (spot e)) (deeper (1 + name_bytes x + name_bytes y + size e) (both let_a_pair x y e) (spot b)))
    (wants-pair e _ (λ a d. refl) ∙ c.0)
    (neither (deeper (1 + name_bytes x + name_bytes y) (λ p. both let_a_pair x y p b) (spot e)) (deeper (1 + name_bytes x + name_bytes y + size e) (both let_a_pair x y e) (spot b))
    (below (1 + name_bytes x + name_bytes y) (λ p. both let_a_pair x y p b) (spot e) (no-spot e c.1.0))
    (below (1 + name_bytes x + name_bytes y + size e) (both let_a_pair x y e) (spot b) (no-spot b c.1.1)))
no-spot (both copy x y e b) c =
    not-here (both copy x y e b) (contract (both copy x y e b)) (deeper (1 + name_bytes x + name_bytes y) (λ p. both copy x y p b) (spot e))
    (wants-promote e _ (λ v. refl) ∙ c.0) (below (1 + name_bytes x + name_bytes y) (λ p. both copy x y p b) (spot e) (no-spot e c.1.0))
no-spot (branch x y e l r) c =
    not-here (branch x y e l r) (contract (branch x y e l r)) (deeper (1 + name_bytes x + name_bytes y) (λ p. branch x y p l r) (spot e))
    (wants-injection e _ _ (λ v. refl) (λ v. refl) ∙ c.0) (below (1 + name_bytes x + name_bytes y) (λ p. branch x y p l r) (spot e) (no-spot e c.1.0))

pub quiet : (t : Term) → Calm t → is_normal_term (step t) ≡ true
quiet t c = let k : step t ≡ normal = step-spot t ∙ rw (no-spot t c) in rw k
