-- The free names of a whole term in an output. Assumes nothing: these are definitions.
use Rattle.std.specs.Prelude.{ℕ, ◌≤◌, ◌-◌, ◌≡◌, ◌++◌, length, replicate}
use Rattle.rules.specs.Basic.{Bytes}
use Rattle.rules.specs.Limits.{limits, output_room}
use Rattle.rules.specs.Name.{encode_names}
use Rattle.rules.specs.Term.{Term, encode, nodes}
use Rattle.rules.specs.Free.{free}

-- s is the term t, within the limits, and the output is as long as a term may be
pub record Lists (s out : Bytes) (t : Term) : Type 0 where
  pub bytes : s ≡ encode t
  pub short : length s ≤ limits.bytes
  pub few : nodes t ≤ limits.nodes
  pub room : output_room limits ≤ length out

pub record Listed (t : Term) (out out' : Bytes) (r : ℕ) : Type 0 where
  pub holds : out' ≡ encode_names (free t) ++ replicate (length out - length (encode_names (free t))) 0
  pub ends : r ≡ length (encode_names (free t))
