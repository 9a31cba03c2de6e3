-- A term as it is handed to what works on it: its bytes and its count of nodes. Assumes nothing: these are definitions.
use Rattle.std.specs.Prelude.{ℕ, ◌≤◌, ◌≡◌, true, length}
use Rattle.rules.specs.Basic.{Bytes}
use Rattle.rules.specs.Limits.{limits, output_room}
use Rattle.rules.specs.Term.{Term, encode, nodes, fits}

-- s encodes t, which has n nodes and breaks no limit
pub record Given (s : Bytes) (n : ℕ) (t : Term) : Type 0 where
  pub bytes : s ≡ encode t
  pub count : n ≡ nodes t
  pub fits : fits limits t ≡ true

-- the same of src, beside an output that has room for a term
pub record Reads (src : Bytes) (n : ℕ) (out : Bytes) (t : Term) : Type 0 where
  pub whole : src ≡ encode t
  pub count : n ≡ nodes t
  pub fits : fits limits t ≡ true
  pub room : output_room limits ≤ length out
