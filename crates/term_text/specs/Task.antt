-- The walk's task for a term, and names where they stand. Assumes nothing: these are definitions.
use Rattle.std.specs.Prelude.{ℕ, ◌+◌, ◌≤◌, List, length, get_or, take, drop}
use Rattle.rules.specs.Legal.{Legal}
use Rattle.rules.specs.Name.{name_most}
use Rattle.rules.specs.Term.{Term, var, leaf, one, two, abs, both, branch, pair, app, discard, encode}
use Rattle.rules.specs.Text.{text}
use Rattle.words.specs.Task.{Task, Done}

pub record TermTask (s : List ℕ) (at : ℕ) (out : List ℕ) (to : ℕ) (t : Term) : Type 0 where
  pub legal : Legal t
  pub task : Task s at out to (encode t) (text t)

abbrev pub TermDone : (at : ℕ) (out : List ℕ) (to : ℕ) (t : Term) (out' : List ℕ) (r : ℕ) → Type 0
TermDone at out to t out' r = Done at out to (encode t) (text t) out' r

-- the name whose length stands at i, and the place after it
abbrev pub name_at : List ℕ → ℕ → List ℕ
name_at s i = take (get_or s i 0) (drop (i + 1) s)

abbrev pub after_name : List ℕ → ℕ → ℕ
after_name s i = i + 1 + get_or s i 0

-- it is a name's length, and its bytes are there
pub record NameIn (s : List ℕ) (i : ℕ) : Type 0 where
  pub few : get_or s i 0 ≤ name_most
  pub fits : after_name s i ≤ length s

-- it is not one of the terms with whose last part the walk goes on
abbrev pub Whole : Term → Type 0
Whole (var x) = ⊥
Whole (leaf k) = Unit {0}
Whole (one k e) = ⊥
Whole (two pair a b) = ⊥
Whole (two app a b) = ⊥
Whole (two discard a b) = Unit {0}
Whole (abs x e) = ⊥
Whole (both k x y e b) = Unit {0}
Whole (branch x y e l r) = Unit {0}
