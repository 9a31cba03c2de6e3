-- Where a term steps: the first redex from the left, its place, and the term around it. The rules' `step` is the contraction of
-- that redex in its place. By induction on the term. Assumes nothing.
use Rattle.std.specs.Prelude.{ℕ, ◌+◌, ◌≡◌, refl}
use Rattle.std.proofs.Common.{sym}
use Rattle.std.proofs.Math.Option.{Option, none, some}
use Rattle.rules.specs.Term.{Term, var, leaf, one, two, abs, both, branch, inl, inr, fst, snd, abort, promote, derelict, let_a_pair, copy, size}
use Rattle.rules.specs.declared.Rule.{Rule}
use Rattle.rules.specs.Step.{Contraction, no, by, contract, Stepped, normal, found, here, or_else, in_part, name_bytes, step}

-- a redex, where it stands, and the whole term as a function of what stands there
pub record Spot : Type 0 where
  pub place : ℕ
  pub redex : Term
  pub around : Term → Term

abbrev pub deeper : ℕ → (Term → Term) → Option Spot → Option Spot
deeper o f none = none
deeper o f (some q) = some (record { place = o + q.place; redex = q.redex; around = λ t. f (q.around t) })

abbrev pub or_later : Option Spot → Option Spot → Option Spot
or_later none p = p
or_later (some q) p = some q

-- a node that contracts is itself the spot
abbrev pub itself : Term → Contraction → Option Spot → Option Spot
itself t no p = p
itself t (by r h u) p = some (record { place = 0; redex = t; around = λ v. v })

-- Parts are tried in order. Abort is never entered; Case and Copy only in their first part.
unfoldable pub spot : Term → Option Spot
spot (var x) = none
spot (leaf k) = none
spot (one abort e) = none
spot (one inl e) = deeper 1 (one inl) (spot e)
spot (one inr e) = deeper 1 (one inr) (spot e)
spot (one promote e) = deeper 1 (one promote) (spot e)
spot (one fst e) = itself (one fst e) (contract (one fst e)) (deeper 1 (one fst) (spot e))
spot (one snd e) = itself (one snd e) (contract (one snd e)) (deeper 1 (one snd) (spot e))
spot (one derelict e) = itself (one derelict e) (contract (one derelict e)) (deeper 1 (one derelict) (spot e))
spot (two k a b) = itself (two k a b) (contract (two k a b)) (or_later (deeper 1 (λ p. two k p b) (spot a)) (deeper (1 + size a) (two k a) (spot b)))
spot (abs x e) = deeper (1 + name_bytes x) (abs x) (spot e)
spot (both let_a_pair x y e b) =
    itself (both let_a_pair x y e b) (contract (both let_a_pair x y e b))
    (or_later (deeper (1 + name_bytes x + name_bytes y) (λ p. both let_a_pair x y p b) (spot e)) (deeper (1 + name_bytes x + name_bytes y + size e) (both let_a_pair x y e) (spot b)))
spot (both copy x y e b) = itself (both copy x y e b) (contract (both copy x y e b)) (deeper (1 + name_bytes x + name_bytes y) (λ p. both copy x y p b) (spot e))
spot (branch x y e l r) = itself (branch x y e l r) (contract (branch x y e l r)) (deeper (1 + name_bytes x + name_bytes y) (λ p. branch x y p l r) (spot e))

-- the contraction of the redex, in its place
abbrev pub placed : ℕ → (Term → Term) → Contraction → Stepped
placed p f no = normal
placed p f (by r h u) = found r p h (f u)

abbrev pub step_at : Option Spot → Stepped
step_at none = normal
step_at (some q) = placed q.place q.around (contract q.redex)

step-deeper : (o : ℕ) (f : Term → Term) (p : Option Spot) → step_at (deeper o f p) ≡ in_part o f (step_at p)
step-deeper o f none = refl
step-deeper o f (some q) = go (contract q.redex)
  where
    go : (c : Contraction) → placed (o + q.place) (λ t. f (q.around t)) c ≡ in_part o f (placed q.place q.around c)
    go no = refl
    go (by r h u) = refl

-- a spot is a redex
abbrev pub Contracts : Option Spot → Type 0
Contracts none = Unit {0}
Contracts (some q) = (r : Rule) × (h : Option Term) × (u : Term) × (contract q.redex ≡ by r h u)

contracts-deeper : (o : ℕ) (f : Term → Term) (p : Option Spot) → Contracts p → Contracts (deeper o f p)
contracts-deeper o f none c = tt
contracts-deeper o f (some q) c = c

contracts-later : (p q : Option Spot) → Contracts p → Contracts q → Contracts (or_later p q)
contracts-later none q c d = d
contracts-later (some p) q c d = c

contracts-itself : (t : Term) (c : Contraction) (p : Option Spot) → contract t ≡ c → Contracts p → Contracts (itself t c p)
contracts-itself t no p e d = d
contracts-itself t (by r h u) p e d = (r, h, u, e)

pub spot-contracts : (t : Term) → Contracts (spot t)
unfolding spot
spot-contracts (var x) = tt
spot-contracts (leaf k) = tt
spot-contracts (one abort e) = tt
spot-contracts (one inl e) = contracts-deeper 1 (one inl) (spot e) (spot-contracts e)
spot-contracts (one inr e) = contracts-deeper 1 (one inr) (spot e) (spot-contracts e)
spot-contracts (one promote e) = contracts-deeper 1 (one promote) (spot e) (spot-contracts e)
spot-contracts (one fst e) = contracts-itself (one fst e) (contract (one fst e)) _ refl (contracts-deeper 1 (one fst) (spot e) (spot-contracts e))
spot-contracts (one snd e) = contracts-itself (one snd e) (contract (one snd e)) _ refl (contracts-deeper 1 (one snd) (spot e) (spot-contracts e))
spot-contracts (one derelict e) = contracts-itself (one derelict e) (contract (one derelict e)) _ refl (contracts-deeper 1 (one derelict) (spot e) (spot-contracts e))
spot-contracts (two k a b) =
    contracts-itself (two k a b) (contract (two k a b)) _ refl
    (contracts-later (deeper 1 (λ p. two k p b) (spot a)) _ (contracts-deeper 1 (λ p. two k p b) (spot a) (spot-contracts a)) (contracts-deeper (1 + size a) (two k a) (spot b) (spot-contracts b)))
spot-contracts (abs x e) = contracts-deeper (1 + name_bytes x) (abs x) (spot e) (spot-contracts e)
spot-contracts (both let_a_pair x y e b) =
    contracts-itself (both let_a_pair x y e b) (contract (both let_a_pair x y e b)) _ refl
    (contracts-later (deeper (1 + name_bytes x + name_bytes y) (λ p. both let_a_pair x y p b) (spot e)) _
    (contracts-deeper (1 + name_bytes x + name_bytes y) (λ p. both let_a_pair x y p b) (spot e) (spot-contracts e))
    (contracts-deeper (1 + name_bytes x + name_bytes y + size e) (both let_a_pair x y e) (spot b) (spot-contracts b)))
spot-contracts (both copy x y e b) =
    contracts-itself (both copy x y e b) (contract (both copy x y e b)) _ refl (contracts-deeper (1 + name_bytes x + name_bytes y) (λ p. both copy x y p b) (spot e) (spot-contracts e))
spot-contracts (branch x y e l r) =
    contracts-itself (branch x y e l r) (contract (branch x y e l r)) _ refl (contracts-deeper (1 + name_bytes x + name_bytes y) (λ p. branch x y p l r) (spot e) (spot-contracts e))

-- ---- step is the contraction at the spot

step-itself : (t : Term) (c : Contraction) (p : Option Spot) (s : Stepped) → contract t ≡ c → s ≡ step_at p → here c s ≡ step_at (itself t c p)
step-itself t no p s e d = d
step-itself t (by r h u) p s e d = rw e

step-later : (p q : Option Spot) (s s' : Stepped) → Contracts p → s ≡ step_at p → s' ≡ step_at q → or_else s s' ≡ step_at (or_later p q)
step-later none q s s' c e d = rw (e, d)
step-later (some p) q s s' c e d = rw (e, c.3)

step_part : (o : ℕ) (f : Term → Term) (p : Option Spot) (s : Stepped) → s ≡ step_at p → in_part o f s ≡ step_at (deeper o f p)
step_part o f p s e = rw e (sym (step-deeper o f p))

pub step-spot : (t : Term) → step t ≡ step_at (spot t)
unfolding step spot
step-spot (var x) = refl
step-spot (leaf k) = refl
step-spot (one abort e) = refl
step-spot (one inl e) = step_part 1 (one inl) (spot e) (step e) (step-spot e)
step-spot (one inr e) = step_part 1 (one inr) (spot e) (step e) (step-spot e)
step-spot (one promote e) = step_part 1 (one promote) (spot e) (step e) (step-spot e)
step-spot (one fst e) = step-itself (one fst e) (contract (one fst e)) _ _ refl (step_part 1 (one fst) (spot e) (step e) (step-spot e))
step-spot (one snd e) = step-itself (one snd e) (contract (one snd e)) _ _ refl (step_part 1 (one snd) (spot e) (step e) (step-spot e))
step-spot (one derelict e) = step-itself (one derelict e) (contract (one derelict e)) _ _ refl (step_part 1 (one derelict) (spot e) (step e) (step-spot e))
step-spot (two k a b) =
    step-itself (two k a b) (contract (two k a b)) _ _ refl
    (step-later (deeper 1 (λ p. two k p b) (spot a)) _ _ _ (contracts-deeper 1 (λ p. two k p b) (spot a) (spot-contracts a))
    (step_part 1 (λ p. two k p b) (spot a) (step a) (step-spot a)) (step_part (1 + size a) (two k a) (spot b) (step b) (step-spot b)))
step-spot (abs x e) = step_part (1 + name_bytes x) (abs x) (spot e) (step e) (step-spot e)
step-spot (both let_a_pair x y e b) =
    step-itself (both let_a_pair x y e b) (contract (both let_a_pair x y e b)) _ _ refl
    (step-later (deeper (1 + name_bytes x + name_bytes y) (λ p. both let_a_pair x y p b) (spot e)) _ _ _ (contracts-deeper (1 + name_bytes x + name_bytes y) (λ p. both let_a_pair x y p b) (spot e) (spot-contracts e))
    (step_part (1 + name_bytes x + name_bytes y) (λ p. both let_a_pair x y p b) (spot e) (step e) (step-spot e)) (step_part (1 + name_bytes x + name_bytes y + size e) (both let_a_pair x y e) (spot b) (step b) (step-spot b)))
step-spot (both copy x y e b) =
    step-itself (both copy x y e b) (contract (both copy x y e b)) _ _ refl (step_part (1 + name_bytes x + name_bytes y) (λ p. both copy x y p b) (spot e) (step e) (step-spot e))
step-spot (branch x y e l r) =
    step-itself (branch x y e l r) (contract (branch x y e l r)) _ _ refl (step_part (1 + name_bytes x + name_bytes y) (λ p. branch x y p l r) (spot e) (step e) (step-spot e))
