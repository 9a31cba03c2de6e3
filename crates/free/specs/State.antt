-- What the row holds at a time, and what meeting a name makes of it. Assumes nothing: these are definitions.
use Rattle.std.specs.Prelude.{ℕ, ◌+◌, ◌≤◌, ◌<◌, ◌≡◌, ◌⊎◌, List, length, if◌then◌else◌}
use Rattle.rules.specs.Basic.{Bytes}
use Rattle.rules.specs.Name.{Name, among}
use Rattle.rules.specs.Free.{insert}
use Rattle.term.specs.Place.{NameAt}
use Rattle.free.specs.Ordered.{Ordered}
use Rattle.free.specs.Rows.{binders, row_end, Held, Passed}

-- the binders passed are xs, the nearest first, and the names found so far are l, in order; the guesses follow
pub record State (s : Bytes) (row : List ℕ) (low n : ℕ) (xs l : List Name) : Type 0 where
  pub passed : Passed s row low xs
  pub found : Held s row n l
  pub ordered : Ordered l
  pub short : length s ≤ 65536
  pub long : length row ≡ row_end

-- the entry g is that of a name found or of a binder passed
abbrev pub Live : ℕ → ℕ → ℕ → Type 0
Live g low n = (g < n) ⊎ ((low ≤ g) × (g < binders))

-- a variable of the name x is met
pub record Meets (s : Bytes) (p : ℕ) (row : List ℕ) (low n : ℕ) (x : Name) (xs l : List Name) : Type 0 where
  pub name : NameAt s p x
  pub state : State s row low n xs l
  pub room : n < low

pub record Met (s : Bytes) (row : List ℕ) (low n : ℕ) (x : Name) (xs l : List Name) (r : ℕ) : Type 0 where
  pub state : State s row low r xs (if among x xs then l else insert x l)
  pub few : r ≤ n + 1
