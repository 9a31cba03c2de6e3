-- What printing leaves in the output. Assumes nothing: these are definitions.
use Rattle.std.specs.Prelude.{ℕ, ◌+◌, ◌≡◌, List, ◌++◌, length, take, replicate}

-- out' has what out had before `to`, then xs, and `past` is the place after them. What stands behind is free, so that words and names can be
-- written eight bytes at a time.
pub record Prints (out : List ℕ) (to : ℕ) (xs out' : List ℕ) (past : ℕ) : Type 0 where
  pub long : length out' ≡ length out
  pub ends : past ≡ to + length xs
  pub holds : take past out' ≡ take to out ++ xs

abbrev pub brackets : ℕ → List ℕ
brackets n = replicate n 41
