-- What writing a run of bytes leaves. Assumes nothing: these are definitions.
use Rattle.std.specs.Prelude.{ℕ, ◌+◌, ◌≡◌, List, length}
use Rattle.std.proofs.lemmas.List.Edits.{sets}

-- out' is out with xs written from `to` on, and `past` is the place after it.
pub record Wrote (out : List ℕ) (to : ℕ) (xs out' : List ℕ) (past : ℕ) : Type 0 where
  pub holds : out' ≡ sets out to xs
  pub ends : past ≡ to + length xs
