-- Step contracts the first of the eight rules that applies, else tries the parts in order (01, "Step").
-- Assumes nothing: these are definitions.
use Rattle.std.specs.Prelude.{ℕ, ◌+◌, Bool, true, false, ◌&&◌, length}
use Rattle.std.proofs.Math.Option.{Option, none, some}
use Rattle.rules.specs.Limits.{Limits}
use Rattle.rules.specs.Name.{Name, encode_name}
use Rattle.rules.specs.Term.{Term, var, leaf, one, two, abs, both, branch, One, inl, inr, fst, snd, abort, promote, derelict, pair, app, discard, let_a_pair, copy, size, fits}
use Rattle.rules.specs.Substitution.{subst}
pub use Rattle.rules.specs.declared.Rule.{Rule}
pub use Rattle.rules.specs.declared.Rule.TheVariants.{App, Let, Case, Fst, Snd, Derelict, Copy, Discard}

-- What a contraction makes: the rule, the body after the first of two substitutions (LetPair and Copy), and the result.
pub data Contraction : Type 0 where
  no : Contraction
  by : Rule → (half : Option Term) → (result : Term) → Contraction

-- App of Abs: argument for x.
abbrev pub applied : (f arg : Term) → Contraction
applied (abs x e) a = by App none (subst x a e)
applied (var n) a = no
applied (leaf k) a = no
applied (one k e) a = no
applied (two k e b) a = no
applied (both k x y e b) a = no
applied (branch x y e l r) a = no

-- what is done with the two parts of a Pair, and with the part of a node of one part
abbrev pub of_pair : Term → (Term → Term → Contraction) → Contraction
of_pair (two pair a b) f = f a b
of_pair (two app a b) f = no
of_pair (two discard a b) f = no
of_pair (var n) f = no
of_pair (leaf k) f = no
of_pair (one k e) f = no
of_pair (abs x e) f = no
of_pair (both k x y e b) f = no
of_pair (branch x y e l r) f = no

abbrev pub of_one : Term → (One → Term → Contraction) → Contraction
of_one (one k e) f = f k e
of_one (var n) f = no
of_one (leaf k) f = no
of_one (two k a b) f = no
of_one (abs x e) f = no
of_one (both k x y e b) f = no
of_one (branch x y e l r) f = no

-- a rule of Promote; a rule of Inl and one of Inr
abbrev pub of_promote : (Term → Contraction) → One → Term → Contraction
of_promote f promote v = f v
of_promote f inl v = no
of_promote f inr v = no
of_promote f fst v = no
of_promote f snd v = no
of_promote f abort v = no
of_promote f derelict v = no

abbrev pub of_injection : (left right : Term → Contraction) → One → Term → Contraction
of_injection f g inl v = f v
of_injection f g inr v = g v
of_injection f g promote v = no
of_injection f g fst v = no
of_injection f g snd v = no
of_injection f g abort v = no
of_injection f g derelict v = no

-- a for x, then b for y in all that results
abbrev pub in_turn : Rule → Name → Name → Term → Term → Term → Contraction
in_turn r x y a b e = by r (some (subst x a e)) (subst y b (subst x a e))

-- The contraction of a node itself.
unfoldable pub contract : Term → Contraction
contract (var x) = no
contract (leaf k) = no
contract (abs x e) = no
contract (two app f a) = applied f a
contract (both let_a_pair x y p e) = of_pair p (λ a b. in_turn Let x y a b e)
contract (branch x y s l r) = of_one s (of_injection (λ v. by Case none (subst x v l)) (λ v. by Case none (subst y v r)))
contract (one fst p) = of_pair p (λ a b. by Fst none a)
contract (one snd p) = of_pair p (λ a b. by Snd none b)
contract (one derelict e) = of_one e (of_promote (λ v. by Derelict none v))
contract (both copy x y s e) = of_one s (of_promote (λ v. in_turn Copy x y (one promote v) (one promote v) e))
contract (two discard d e) = of_one d (of_promote (λ v. by Discard none e))
contract (two pair a b) = no
contract (one inl e) = no
contract (one inr e) = no
contract (one promote e) = no
contract (one abort e) = no

-- Normal; or Found: the rule, its place (offset of the contracted node's tag in the given term), and the term.
pub data Stepped : Type 0 where
  normal : Stepped
  found : Rule → (place : ℕ) → (half : Option Term) → Term → Stepped

-- a node's own contraction, or else what its parts give
abbrev pub here : Contraction → Stepped → Stepped
here no s = s
here (by r h t) s = found r 0 h t

abbrev pub or_else : Stepped → Stepped → Stepped
or_else normal s = s
or_else (found r p h t) s = found r p h t

-- a step in a part that begins at an offset
abbrev pub in_part : (offset : ℕ) → (Term → Term) → Stepped → Stepped
in_part o f normal = normal
in_part o f (found r p h t) = found r (o + p) h (f t)

abbrev pub name_bytes : Name → ℕ
name_bytes x = length (encode_name x)

-- Parts are tried in order. Abort is never entered; Case and Copy only in their first part.
unfoldable pub step : Term → Stepped
step (var x) = normal
step (leaf k) = normal
step (one abort e) = normal
step (one inl e) = in_part 1 (one inl) (step e)
step (one inr e) = in_part 1 (one inr) (step e)
step (one promote e) = in_part 1 (one promote) (step e)
step (one fst e) = here (contract (one fst e)) (in_part 1 (one fst) (step e))
step (one snd e) = here (contract (one snd e)) (in_part 1 (one snd) (step e))
step (one derelict e) = here (contract (one derelict e)) (in_part 1 (one derelict) (step e))
step (two k a b) = here (contract (two k a b)) (or_else (in_part 1 (λ p. two k p b) (step a)) (in_part (1 + size a) (two k a) (step b)))
step (abs x e) = in_part (1 + name_bytes x) (abs x) (step e)
step (both let_a_pair x y e b) =
    here (contract (both let_a_pair x y e b))
    (or_else (in_part (1 + name_bytes x + name_bytes y) (λ p. both let_a_pair x y p b) (step e)) (in_part (1 + name_bytes x + name_bytes y + size e) (both let_a_pair x y e) (step b)))
step (both copy x y e b) = here (contract (both copy x y e b)) (in_part (1 + name_bytes x + name_bytes y) (λ p. both copy x y p b) (step e))
step (branch x y e l r) = here (contract (branch x y e l r)) (in_part (1 + name_bytes x + name_bytes y) (λ p. branch x y p l r) (step e))

abbrev pub is_normal_term : Stepped → Bool
is_normal_term normal = true
is_normal_term (found r p h t) = false

-- 8: the finished term breaks a limit, or the body after the first of the two substitutions does so as a term by itself.
abbrev pub half_fits : Limits → Option Term → Bool
half_fits L none = true
half_fits L (some h) = fits L h

abbrev pub step_fits : Limits → Option Term → Term → Bool
step_fits L h t = half_fits L h && fits L t
