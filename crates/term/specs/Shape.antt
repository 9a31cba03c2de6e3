-- Which term a node is, from its tag: a table has the shape of each tag, and the shape says what the term is made of. By the shapes of a term.
-- Assumes nothing.
use Rattle.std.specs.Prelude.{ℕ, ◌≡◌, refl, List, [], ◌∷◌, get_or}
use Rattle.std.proofs.Common.{sym, ap, ◌∙◌}
use Rattle.rules.specs.Name.{Name}
use Rattle.rules.specs.Term.{Term, var, leaf, one, two, abs, both, branch, Leaf, unit, trivial, One, inl, inr, fst, snd, abort, promote, derelict, Two, pair, app, discard, let_a_pair, copy}
use Rattle.term.specs.Node.{tag}

-- a pair or an application, which are printed in brackets
abbrev pub Bracketed : Two → Type 0
Bracketed pair = Unit {0}
Bracketed app = Unit {0}
Bracketed discard = ⊥

pub data Shape : Type 0 where
  a-var : Shape
  a-leaf : Shape
  an-one : Shape
  a-two : Shape
  a-discard : Shape
  an-abs : Shape
  a-let : Shape
  a_copy : Shape
  a_case : Shape
  no-tag : Shape

-- in the order of the tags, from 0 on
abbrev shapes : List Shape
shapes =
    no-tag ∷ a-var ∷ a-leaf ∷ a-two ∷ a-let ∷ an-abs ∷ a-two ∷ an-one ∷ an-one ∷ a_case ∷ a-leaf ∷ an-one ∷ an-one ∷ an-one ∷ an-one ∷ an-one ∷ a-discard ∷ a_copy ∷ []

abbrev pub shape_of : ℕ → Shape
shape_of k = get_or shapes k no-tag

abbrev pub shape : Term → Shape
shape (var x) = a-var
shape (leaf k) = a-leaf
shape (one k e) = an-one
shape (two pair a b) = a-two
shape (two app a b) = a-two
shape (two discard a b) = a-discard
shape (abs x e) = an-abs
shape (both let_a_pair x y e b) = a-let
shape (both copy x y e b) = a_copy
shape (branch x y e l r) = a_case

tag-shape : (t : Term) → shape_of (tag t) ≡ shape t
tag-shape (var x) = refl
tag-shape (leaf unit) = refl
tag-shape (leaf trivial) = refl
tag-shape (one inl e) = refl
tag-shape (one inr e) = refl
tag-shape (one fst e) = refl
tag-shape (one snd e) = refl
tag-shape (one abort e) = refl
tag-shape (one promote e) = refl
tag-shape (one derelict e) = refl
tag-shape (two pair a b) = refl
tag-shape (two app a b) = refl
tag-shape (two discard a b) = refl
tag-shape (abs x e) = refl
tag-shape (both let_a_pair x y e b) = refl
tag-shape (both copy x y e b) = refl
tag-shape (branch x y e l r) = refl

-- what a term of a shape is made of
abbrev pub Made : Shape → Term → Type 0
Made a-var t = (x : Name) × (t ≡ var x)
Made a-leaf t = (k : Leaf) × (t ≡ leaf k)
Made an-one t = (k : One) × (e : Term) × (t ≡ one k e)
Made a-two t = (k : Two) × Bracketed k × (a : Term) × (b : Term) × (t ≡ two k a b)
Made a-discard t = (a : Term) × (b : Term) × (t ≡ two discard a b)
Made an-abs t = (x : Name) × (e : Term) × (t ≡ abs x e)
Made a-let t = (x : Name) × (y : Name) × (e : Term) × (b : Term) × (t ≡ both let_a_pair x y e b)
Made a_copy t = (x : Name) × (y : Name) × (e : Term) × (b : Term) × (t ≡ both copy x y e b)
Made a_case t = (x : Name) × (y : Name) × (e : Term) × (l : Term) × (r : Term) × (t ≡ branch x y e l r)
Made no-tag t = ⊥

pub made : (t : Term) → Made (shape t) t
made (var x) = (x, refl)
made (leaf k) = (k, refl)
made (one k e) = (k, e, refl)
made (two pair a b) = (pair, tt, a, b, refl)
made (two app a b) = (app, tt, a, b, refl)
made (two discard a b) = (a, b, refl)
made (abs x e) = (x, e, refl)
made (both let_a_pair x y e b) = (x, y, e, b, refl)
made (both copy x y e b) = (x, y, e, b, refl)
made (branch x y e l r) = (x, y, e, l, r, refl)

pub made_of : (t : Term) (k : ℕ) → k ≡ tag t → (n : Shape) → shape_of k ≡ n → Made n t
made_of t k is n h = let q : shape t ≡ n = sym (ap (λ (z : ℕ). shape_of z) is ∙ tag-shape t) ∙ h in rw q at (made t)
