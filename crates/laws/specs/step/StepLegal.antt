-- A step of a legal term gives a legal term, which is read as what it is if it fits, and so does the first of its two substitutions: by induction on the term.
-- Assumes nothing.
use Rattle.std.specs.Prelude.{ℕ, ◌+◌, ◌≡◌, true, Ok}
use Rattle.std.proofs.Math.Option.{Option, none, some}
use Rattle.rules.specs.Basic.{Bytes}
use Rattle.rules.specs.Limits.{Limits}
use Rattle.rules.specs.Name.{Name}
use Rattle.rules.specs.Legal.{Legal}
use Rattle.rules.specs.Term.{Term, var, leaf, one, two, abs, both, branch, One, inl, inr, fst, snd, abort, promote, derelict, pair, app, discard, let_a_pair, copy, size, encode, fits}
use Rattle.rules.specs.Substitution.{subst}
use Rattle.rules.specs.Reading.{read_term}
use Rattle.rules.specs.declared.Rule.{Rule}
use Rattle.rules.specs.Step.{Contraction, no, by, applied, of_pair, of_one, of_promote, of_injection, contract, Stepped, normal, found, here, or_else, in_part, name_bytes, step}
use Rattle.laws.specs.reading.Decoding.{term-sound, term-complete}
use Rattle.laws.specs.reading.Fits.{fits-accepted}
use Rattle.laws.specs.substitution.SubstLegal.{subst-legal}

abbrev pub LegalHalf : Option Term → Type 0
LegalHalf none = Unit {0}
LegalHalf (some h) = Legal h

abbrev pub LegalContraction : Contraction → Type 0
LegalContraction no = Unit {0}
LegalContraction (by r h t) = LegalHalf h × Legal t

abbrev pub LegalStepped : Stepped → Type 0
LegalStepped normal = Unit {0}
LegalStepped (found r p h t) = LegalHalf h × Legal t

pair-legal : (p : Term) (f : Term → Term → Contraction) → Legal p → ((a b : Term) → Legal a → Legal b → LegalContraction (f a b)) → LegalContraction (of_pair p f)
pair-legal (two pair a b) f l h = h a b l.0 l.1
pair-legal (two app a b) f l h = tt
pair-legal (two discard a b) f l h = tt
pair-legal (var x) f l h = tt
pair-legal (leaf k) f l h = tt
pair-legal (one k e) f l h = tt
pair-legal (abs x e) f l h = tt
pair-legal (both k x y e b) f l h = tt
pair-legal (branch x y e a b) f l h = tt

one-legal : (t : Term) (f : One → Term → Contraction) → Legal t → ((k : One) (v : Term) → Legal v → LegalContraction (f k v)) → LegalContraction (of_one t f)
one-legal (one k e) f l h = h k e l
one-legal (var x) f l h = tt
one-legal (leaf k) f l h = tt
one-legal (two k a b) f l h = tt
one-legal (abs x e) f l h = tt
one-legal (both k x y e b) f l h = tt
one-legal (branch x y e a b) f l h = tt

promote-legal : (f : Term → Contraction) (k : One) (v : Term) → LegalContraction (f v) → LegalContraction (of_promote f k v)
promote-legal f promote v h = h
promote-legal f inl v h = tt
promote-legal f inr v h = tt
promote-legal f fst v h = tt
promote-legal f snd v h = tt
promote-legal f abort v h = tt
promote-legal f derelict v h = tt

injection-legal : (f g : Term → Contraction) (k : One) (v : Term) → LegalContraction (f v) → LegalContraction (g v) → LegalContraction (of_injection f g k v)
injection-legal f g inl v p q = p
injection-legal f g inr v p q = q
injection-legal f g promote v p q = tt
injection-legal f g fst v p q = tt
injection-legal f g snd v p q = tt
injection-legal f g abort v p q = tt
injection-legal f g derelict v p q = tt

applied-legal : (f a : Term) → Legal f → Legal a → LegalContraction (applied f a)
applied-legal (abs x e) a l m = (tt, subst-legal x a m e l.1)
applied-legal (var x) a l m = tt
applied-legal (leaf k) a l m = tt
applied-legal (one k e) a l m = tt
applied-legal (two k e b) a l m = tt
applied-legal (both k x y e b) a l m = tt
applied-legal (branch x y e b c) a l m = tt

turn-legal : (x y : Name) (a b e : Term) → Legal a → Legal b → Legal e → Legal (subst x a e) × Legal (subst y b (subst x a e))
turn-legal x y a b e p q l = let h = subst-legal x a p e l in (h, subst-legal y b q (subst x a e) h)

pub contract-legal : (t : Term) → Legal t → LegalContraction (contract t)
unfolding contract
contract-legal (var x) l = tt
contract-legal (leaf k) l = tt
contract-legal (abs x e) l = tt
contract-legal (two app f a) l = applied-legal f a l.0 l.1
contract-legal (two discard d e) l = one-legal d _ l.0 (λ k v m. promote-legal _ k v (tt, l.1))
contract-legal (two pair a b) l = tt
contract-legal (both let_a_pair x y p e) l = pair-legal p _ l.2 (λ a b m n. turn-legal x y a b e m n l.3)
contract-legal (both copy x y s e) l = one-legal s _ l.2 (λ k v m. promote-legal _ k v (turn-legal x y (one promote v) (one promote v) e m m l.3))
contract-legal (branch x y s a b) l =
    one-legal s _ l.2 (λ k v m. injection-legal _ _ k v (tt, subst-legal x v m a l.3) (tt, subst-legal y v m b l.4))
contract-legal (one fst p) l = pair-legal p _ l (λ a b m n. (tt, m))
contract-legal (one snd p) l = pair-legal p _ l (λ a b m n. (tt, n))
contract-legal (one derelict e) l = one-legal e _ l (λ k v m. promote-legal _ k v (tt, m))
contract-legal (one inl e) l = tt
contract-legal (one inr e) l = tt
contract-legal (one promote e) l = tt
contract-legal (one abort e) l = tt

here-legal : (c : Contraction) (s : Stepped) → LegalContraction c → LegalStepped s → LegalStepped (here c s)
here-legal no s h l = l
here-legal (by r p t) s h l = h

part-legal : (o : ℕ) (f : Term → Term) (s : Stepped) → LegalStepped s → ((u : Term) → Legal u → Legal (f u)) → LegalStepped (in_part o f s)
part-legal o f normal h g = tt
part-legal o f (found r p q t) h g = (h.0, g t h.1)

-- the first part, or else the second
parts-legal : (o o' : ℕ) (f g : Term → Term) (s s' : Stepped) → LegalStepped s → LegalStepped s' → ((u : Term) → Legal u → Legal (f u)) → ((u : Term) → Legal u → Legal (g u))
    → LegalStepped (or_else (in_part o f s) (in_part o' g s'))
parts-legal o o' f g normal s' h l p q = part-legal o' g s' l q
parts-legal o o' f g (found r k j t) s' h l p q = (h.0, p t h.1)

pub step-legal : (t : Term) → Legal t → LegalStepped (step t)
unfolding step
step-legal (var x) l = tt
step-legal (leaf k) l = tt
step-legal (one abort e) l = tt
step-legal (one inl e) l = part-legal 1 (one inl) (step e) (step-legal e l) (λ u m. m)
step-legal (one inr e) l = part-legal 1 (one inr) (step e) (step-legal e l) (λ u m. m)
step-legal (one promote e) l = part-legal 1 (one promote) (step e) (step-legal e l) (λ u m. m)
step-legal (one fst e) l = here-legal (contract (one fst e)) _ (contract-legal (one fst e) l) (part-legal 1 (one fst) (step e) (step-legal e l) (λ u m. m))
step-legal (one snd e) l = here-legal (contract (one snd e)) _ (contract-legal (one snd e) l) (part-legal 1 (one snd) (step e) (step-legal e l) (λ u m. m))
step-legal (one derelict e) l =
    here-legal (contract (one derelict e)) _ (contract-legal (one derelict e) l) (part-legal 1 (one derelict) (step e) (step-legal e l) (λ u m. m))
step-legal (two k a b) l =
    here-legal (contract (two k a b)) _ (contract-legal (two k a b) l)
    (parts-legal 1 (1 + size a) (λ p. two k p b) (two k a) (step a) (step b) (step-legal a l.0) (step-legal b l.1) (λ u m. (m, l.1)) (λ u m. (l.0, m)))
step-legal (abs x e) l = part-legal (1 + name_bytes x) (abs x) (step e) (step-legal e l.1) (λ u m. (l.0, m))
step-legal (both let_a_pair x y e b) l =
    here-legal (contract (both let_a_pair x y e b)) _ (contract-legal (both let_a_pair x y e b) l)
    (parts-legal (1 + name_bytes x + name_bytes y) (1 + name_bytes x + name_bytes y + size e) (λ p. both let_a_pair x y p b) (both let_a_pair x y e) (step e) (step b)
    (step-legal e l.2) (step-legal b l.3)
    (λ u m. (l.0, l.1, m, l.3)) (λ u m. (l.0, l.1, l.2, m)))
step-legal (both copy x y e b) l =
    here-legal (contract (both copy x y e b)) _ (contract-legal (both copy x y e b) l)
    (part-legal (1 + name_bytes x + name_bytes y) (λ p. both copy x y p b) (step e) (step-legal e l.2) (λ u m. (l.0, l.1, m, l.3)))
step-legal (branch x y e a b) l =
    here-legal (contract (branch x y e a b)) _ (contract-legal (branch x y e a b) l)
    (part-legal (1 + name_bytes x + name_bytes y) (λ p. branch x y p a b) (step e) (step-legal e l.2) (λ u m. (l.0, l.1, m, l.3, l.4)))

-- WHAT A STEP MAKES WITHIN THE LIMITS IS READ AS WHAT IT IS
pub step-again : (L : Limits) (s : Bytes) (t : Term) → read_term L 1 s ≡ Ok t → (r : Rule) (p : ℕ) (h : Option Term) (u : Term) → step t ≡ found r p h u → fits L u ≡ true → read_term L 1 (encode u) ≡ Ok u
step-again L s t e r p h u f k = term-complete L 1 (encode u) u (fits-accepted L u (rw f at (step-legal t (term-sound L 1 s t e).legal)).1 k)
