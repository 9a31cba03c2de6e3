-- Straight terms (demand 3): no case, fst, snd, discard or copy, and each name at a binder stands at that one place only
-- and is used as a variable exactly once, inside what it covers.
-- Assumes nothing: these are definitions.
use Rattle.std.specs.Prelude.{ℕ, ◌+◌, ◌≡◌, Bool, true, false, ◌&&◌, List, [], ◌∷◌, map, if◌then◌else◌, ◌==◌}
use Rattle.rules.specs.Basic.{◌‥◌}
use Rattle.rules.specs.Name.{Name, same}
use Rattle.rules.specs.Term.{Term, var, leaf, one, two, abs, both, branch, One, inl, inr, fst, snd, abort, promote, derelict, Two, pair, app, discard, Both, let_a_pair, copy}

infix 60 ◌over◌
-- A name at a binder, and what it covers.
pub record Binder : Type 0 where
  pub name : Name
  pub covers : Term

abbrev pub ◌over◌ : Name → Term → Binder
x over e = record { name = x; covers = e }

-- all binders of a term, from the left
unfoldable pub binders : Term → List Binder
binders (var x) = []
binders (leaf k) = []
binders (one k e) = binders e
binders (two k a b) = binders a ‥ binders b
binders (abs x e) = (x over e) ∷ binders e
binders (both k x y e b) = (x over b) ∷ (y over b) ∷ (binders e ‥ binders b)
binders (branch x y e l r) = (x over l) ∷ (y over r) ∷ (binders e ‥ binders l ‥ binders r)

-- all names used as a variable, bound or not, from the left
unfoldable pub variables : Term → List Name
variables (var x) = x ∷ []
variables (leaf k) = []
variables (one k e) = variables e
variables (two k a b) = variables a ‥ variables b
variables (abs x e) = variables e
variables (both k x y e b) = variables e ‥ variables b
variables (branch x y e l r) = variables e ‥ variables l ‥ variables r

-- how often a name stands in a list; at a binder of a term; as a variable of a term
unfoldable pub count : Name → List Name → ℕ
count x [] = 0
count x (y ∷ ys) = (if same x y then 1 else 0) + count x ys

abbrev pub stands : Name → Term → ℕ
stands x t = count x (map (λ b. b.name) (binders t))

abbrev pub uses : Name → Term → ℕ
uses x t = count x (variables t)

-- no case, fst, snd, discard or copy
abbrev pub plain_one : One → Bool
plain_one inl = true
plain_one inr = true
plain_one abort = true
plain_one promote = true
plain_one derelict = true
plain_one fst = false
plain_one snd = false

abbrev pub plain_two : Two → Bool
plain_two pair = true
plain_two app = true
plain_two discard = false

abbrev pub plain_both : Both → Bool
plain_both let_a_pair = true
plain_both copy = false

unfoldable pub plain : Term → Bool
plain (var x) = true
plain (leaf k) = true
plain (one k e) = plain_one k && plain e
plain (two k a b) = plain_two k && (plain a && plain b)
plain (abs x e) = plain e
plain (both k x y e b) = plain_both k && (plain e && plain b)
plain (branch x y e l r) = false

abbrev pub Each : {A : Type 0} → (A → Type 0) → List A → Type 0
Each P [] = Unit {0}
Each P (x ∷ xs) = P x × Each P xs

-- A binder's name stands at that one place only, and is used as a variable exactly once, inside what it covers.
pub record Once (t : Term) (b : Binder) : Type 0 where
  pub placed : stands b.name t ≡ 1
  pub used : uses b.name t ≡ 1
  pub inside : uses b.name b.covers ≡ uses b.name t

pub record Straight (t : Term) : Type 0 where
  pub plain : plain t ≡ true
  pub once : Each (Once t) (binders t)

-- The same as a test.
abbrev pub every : {A : Type 0} → (A → Bool) → List A → Bool
every p [] = true
every p (x ∷ xs) = p x && every p xs

unfoldable pub once : Term → Binder → Bool
once t b = (stands b.name t == 1) && ((uses b.name t == 1) && (uses b.name b.covers == uses b.name t))

unfoldable pub straight : Term → Bool
straight t = plain t && every (once t) (binders t)
