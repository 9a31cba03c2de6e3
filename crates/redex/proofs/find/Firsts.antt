-- What a node looks for in its first part: a pair, an abstraction, an injection or a promotion; or nothing that a rule knows.
-- By cases on the shapes of terms. Assumes nothing.
use mathlib.Core.Path.{◌≡◌, refl}
use mathlib.Core.Bool.{Bool, true, false}
use Rattle.rules.specs.Name.{Name}
use Rattle.rules.specs.Term.{Term, var, leaf, one, two, abs, both, branch, unit, trivial, inl, inr, fst, snd, abort, promote, derelict, pair, app, discard, let_a_pair, copy}
use Rattle.rules.specs.Step.{Contraction, no, by, applied, of_pair, of_one, of_promote, of_injection}
use Rattle.term.specs.Node.{tag}
use Rattle.redex.specs.Searched.{gives, reduces}

-- nothing that a rule knows
pub record Other (e : Term) : Type 0 where
  pub pairs : (f : Term → Term → Contraction) → of_pair e f ≡ no
  pub applies : (a : Term) → applied e a ≡ no
  pub promotes : (f : Term → Contraction) → of_one e (of_promote f) ≡ no
  pub injects : (f g : Term → Contraction) → of_one e (of_injection f g) ≡ no
  pub wanted : gives (tag e) ≡ 0

pub data First : Term → Type 0 where
  a_pair : (a b : Term) → First (two pair a b)
  an_abs : (x : Name) (e : Term) → First (abs x e)
  an_inl : (v : Term) → First (one inl v)
  an_inr : (v : Term) → First (one inr v)
  a_promote : (v : Term) → First (one promote v)
  other : {e : Term} → Other e → First e

pub first_of : (e : Term) → First e
first_of (two pair a b) = a_pair a b
first_of (abs x e) = an_abs x e
first_of (one inl v) = an_inl v
first_of (one inr v) = an_inr v
first_of (one promote v) = a_promote v
first_of (var x) = other (record { pairs = λ f. refl; applies = λ a. refl; promotes = λ f. refl; injects = λ f g. refl; wanted = refl })
first_of (leaf unit) = other (record { pairs = λ f. refl; applies = λ a. refl; promotes = λ f. refl; injects = λ f g. refl; wanted = refl })
first_of (leaf trivial) = other (record { pairs = λ f. refl; applies = λ a. refl; promotes = λ f. refl; injects = λ f g. refl; wanted = refl })
first_of (one fst v) = other (record { pairs = λ f. refl; applies = λ a. refl; promotes = λ f. refl; injects = λ f g. refl; wanted = refl })
first_of (one snd v) = other (record { pairs = λ f. refl; applies = λ a. refl; promotes = λ f. refl; injects = λ f g. refl; wanted = refl })
first_of (one abort v) = other (record { pairs = λ f. refl; applies = λ a. refl; promotes = λ f. refl; injects = λ f g. refl; wanted = refl })
first_of (one derelict v) = other (record { pairs = λ f. refl; applies = λ a. refl; promotes = λ f. refl; injects = λ f g. refl; wanted = refl })
first_of (two app a b) = other (record { pairs = λ f. refl; applies = λ a. refl; promotes = λ f. refl; injects = λ f g. refl; wanted = refl })
first_of (two discard a b) = other (record { pairs = λ f. refl; applies = λ a. refl; promotes = λ f. refl; injects = λ f g. refl; wanted = refl })
first_of (both let_a_pair x y e b) = other (record { pairs = λ f. refl; applies = λ a. refl; promotes = λ f. refl; injects = λ f g. refl; wanted = refl })
first_of (both copy x y e b) = other (record { pairs = λ f. refl; applies = λ a. refl; promotes = λ f. refl; injects = λ f g. refl; wanted = refl })
first_of (branch x y e l r) = other (record { pairs = λ f. refl; applies = λ a. refl; promotes = λ f. refl; injects = λ f g. refl; wanted = refl })

-- ---- a node is a redex if its first part is what it wants

abbrev pub contracts : Contraction → Bool
contracts no = false
contracts (by r h t) = true

pub wants-pair : (e : Term) (f : Term → Term → Contraction) → ((a b : Term) → contracts (f a b) ≡ true) → contracts (of_pair e f) ≡ reduces 4 (tag e)
wants-pair e f h = go (first_of e)
  where
    go : {e : Term} → First e → contracts (of_pair e f) ≡ reduces 4 (tag e)
    go (a_pair a b) = h a b
    go (an_abs x e) = refl
    go (an_inl v) = refl
    go (an_inr v) = refl
    go (a_promote v) = refl
    go (other o) = rw (o.pairs f, o.wanted)

pub wants-abs : (e a : Term) → contracts (applied e a) ≡ reduces 6 (tag e)
wants-abs e a = go (first_of e)
  where
    go : {e : Term} → First e → contracts (applied e a) ≡ reduces 6 (tag e)
    go (a_pair b c) = refl
    go (an_abs x e) = refl
    go (an_inl v) = refl
    go (an_inr v) = refl
    go (a_promote v) = refl
    go (other o) = rw (o.applies a, o.wanted)

pub wants-promote : (e : Term) (f : Term → Contraction) → ((v : Term) → contracts (f v) ≡ true) → contracts (of_one e (of_promote f)) ≡ reduces 15 (tag e)
wants-promote e f h = go (first_of e)
  where
    go : {e : Term} → First e → contracts (of_one e (of_promote f)) ≡ reduces 15 (tag e)
    go (a_pair a b) = refl
    go (an_abs x e) = refl
    go (an_inl v) = refl
    go (an_inr v) = refl
    go (a_promote v) = h v
    go (other o) = rw (o.promotes f, o.wanted)

pub wants-injection : (e : Term) (f g : Term → Contraction) → ((v : Term) → contracts (f v) ≡ true) → ((v : Term) → contracts (g v) ≡ true)
    → contracts (of_one e (of_injection f g)) ≡ reduces 9 (tag e)
wants-injection e f g h k = go (first_of e)
  where
    go : {e : Term} → First e → contracts (of_one e (of_injection f g)) ≡ reduces 9 (tag e)
    go (a_pair a b) = refl
    go (an_abs x e) = refl
    go (an_inl v) = h v
    go (an_inr v) = k v
    go (a_promote v) = refl
    go (other o) = rw (o.injects f g, o.wanted)

-- Pair, Abs, Inl, Inr and Promote want nothing
pub wants-nothing : (e : Term) → false ≡ reduces 3 (tag e)
wants-nothing e = go (first_of e)
  where
    go : {e : Term} → First e → false ≡ reduces 3 (tag e)
    go (a_pair a b) = refl
    go (an_abs x e) = refl
    go (an_inl v) = refl
    go (an_inr v) = refl
    go (a_promote v) = refl
    go (other o) = rw o.wanted
