-- What `substitute` works on once its inputs are read, and what it leaves. Assumes nothing: these are definitions.
use Rattle.std.specs.Prelude.{ℕ, ◌≤◌, ◌≡◌, length, replicate, Ok, Err}
use Rattle.rules.specs.Basic.{Bytes}
use Rattle.rules.specs.Limits.{limits, output_room}
use Rattle.rules.specs.Refusal.{Outcome}
use Rattle.rules.specs.Name.{Name}
use Rattle.rules.specs.Term.{Term, nodes}
use Rattle.rules.specs.Substitution.{subst}
use Rattle.rules.specs.Buffers.{bytes_or, filled}
use Rattle.rules.specs.Calls.{grown}
use Rattle.laws.specs.reading.Decoding.{TermIn}
use Rattle.substitution.specs.declared.Inputs.{Inputs}

-- the three inputs in their order: both counts of nodes, or the first refusal
abbrev pub inputs : Outcome Term → Outcome Name → Outcome Term → Outcome Inputs
inputs (Err r) x v = Err r
inputs (Ok t) (Err r) v = Err r
inputs (Ok t) (Ok x) (Err r) = Err r
inputs (Ok t) (Ok x) (Ok v) = Ok (record { nodes = nodes t; added = nodes v })

-- term and value encode t and v, which have so many nodes; the output is long enough
pub record Job (term name value out : Bytes) (n m : ℕ) (t v : Term) : Type 0 where
  pub term_in : TermIn limits term t
  pub value_in : TermIn limits value v
  pub count : n ≡ nodes t
  pub value-count : m ≡ nodes v
  pub out-room : output_room limits ≤ length out

-- the new term and zeros behind it, or 8 and the output as it was; zeros in the scratch
pub record Done (x : Name) (t v : Term) (out scratch : Bytes) (a : Outcome ℕ) (out' scratch' : Bytes) : Type 0 where
  pub says : a ≡ (bytes_or (grown limits (subst x v t))).says
  pub leaves : out' ≡ filled out (bytes_or (grown limits (subst x v t))).writes
  pub clears : scratch' ≡ replicate (length scratch) 0
