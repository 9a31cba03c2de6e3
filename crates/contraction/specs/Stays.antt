-- For each rule, how many bytes at the end of its redex stay where they stand when it is contracted (02, request (x)). All else that is left of
-- the redex is written, and moved. Assumes nothing: these are definitions.
use Rattle.std.specs.Prelude.{ℕ, ◌+◌, ◌≡◌, Bool, true, false, List, [], ◌∷◌, length, ◌==◌}
use Rattle.rules.specs.Name.{Name}
use Rattle.rules.specs.Term.{Term, one, two, abs, both, branch, One, fst, snd, promote, derelict, pair, app, discard, let_a_pair, copy, size}
use Rattle.substitution.specs.Places.{places}

-- there is one place, and its `gap` bytes are the last of so many
abbrev pub one_at_end : List ℕ → (gap end : ℕ) → Bool
one_at_end [] gap end = false
one_at_end (p ∷ []) gap end = (p + gap) == end
one_at_end (p ∷ q ∷ ps) gap end = false

-- x is free in one place of e, and e ends there
abbrev pub ends_in : Name → Term → Bool
ends_in x e = one_at_end (places x e 0) (2 + length x) (size e)

pub data Stays : (redex : Term) → (bytes : ℕ) → Type 0 where
  -- App: the body is written, with the argument at each place of x; but the argument stands right behind the body, and where that ends in its
  -- one place of x, the argument stays
  of-app : (x : Name) (e a : Term) → ends_in x e ≡ false → Stays (two app (abs x e) a) 0
  of-app-end : (x : Name) (e a : Term) → ends_in x e ≡ true → Stays (two app (abs x e) a) (size a)
  -- LetPair: the body is written with a, and what results with b
  of-let : (x y : Name) (a b e : Term) → Stays (both let_a_pair x y (two pair a b) e) 0
  -- Case: a branch is written, with the injected part
  of-case : (x y : Name) (k : One) (v l r : Term) → Stays (branch x y (one k v) l r) 0
  -- Fst: a is written, since b stands behind it
  of-fst : (a b : Term) → Stays (one fst (two pair a b)) 0
  -- Snd, Derelict, Discard: nothing is written; b, v and the body stay
  of-snd : (a b : Term) → Stays (one snd (two pair a b)) (size b)
  of-derelict : (v : Term) → Stays (one derelict (one promote v)) (size v)
  of-discard : (v e : Term) → Stays (two discard (one promote v) e) (size e)
  -- Copy: as LetPair, with the whole Promote for both
  of-copy : (x y : Name) (v e : Term) → Stays (both copy x y (one promote v) e) 0
