-- What the walk that gathers free names starts from, and what it leaves. Assumes nothing: these are definitions.
use Rattle.std.specs.Prelude.{ℕ, ◌+◌, ◌*◌, ◌≤◌, ◌≡◌, List}
use Rattle.rules.specs.Basic.{Bytes}
use Rattle.rules.specs.Name.{Name}
use Rattle.rules.specs.Term.{Term, nodes, size}
use Rattle.term.specs.Place.{TermAt}
use Rattle.free.specs.State.{State}
use Rattle.free.specs.Gather.{gather}

-- the term t is to be walked, and there is room for what it may bring
pub record Task (s : Bytes) (p : ℕ) (row : List ℕ) (low n : ℕ) (t : Term) (xs l : List Name) : Type 0 where
  pub term : TermAt s p t
  pub state : State s row low n xs l
  pub room : n + 2 * nodes t ≤ low

-- it is walked, to the place next, and the row then holds count names
pub record Done (s : Bytes) (p : ℕ) (row : List ℕ) (low n : ℕ) (t : Term) (xs l : List Name) (next count : ℕ) : Type 0 where
  pub ends : next ≡ p + size t
  pub state : State s row low count xs (gather xs t l)
  pub few : count ≤ n + nodes t
