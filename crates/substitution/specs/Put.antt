-- What is written for a redex, and what it is made of: a body, the places of a name in it, and the values that go in. Assumes nothing: these are definitions.
use Rattle.std.specs.Prelude.{ℕ, ◌+◌, ◌≤◌, ◌≡◌, ◌&&◌, List, length, if◌then◌else◌, Option, Some, None}
use Rattle.std.proofs.Math.Option.{Option as Maybe}
use Rattle.std.proofs.lemmas.List.Edits.{sets}
use Rattle.rules.specs.Basic.{Bytes}
use Rattle.rules.specs.Limits.{limits, output_room}
use Rattle.rules.specs.Name.{Name}
use Rattle.rules.specs.Term.{Term, encode, nodes, size}
use Rattle.rules.specs.Step.{half_fits}
use Rattle.substitution.specs.Places.{places, Held}
use Rattle.term.specs.Given.{Given}
use Rattle.substitution.specs.Beside.{fits_beside}
use Rattle.substitution.specs.Tally.{then_moved}
use Rattle.substitution.specs.declared.tally.Tally.{Tally}
use Rattle.substitution.specs.declared.put.Written.{Written}

-- the body e, with the places where x is free in it, and the bytes of x at each; it stands in a whole of n nodes and l bytes, and the value v
-- has m nodes
pub record Putting (body : Bytes) (row : List ℕ) (gap : ℕ) (value : Bytes) (m n l : ℕ) (x : Name) (e v : Term) : Type 0 where
  pub body_is : body ≡ encode e
  pub places-are : row ≡ places x e 0
  pub gap_is : gap ≡ 2 + length x
  pub value-is : Given value m v
  pub nodes-in : nodes e ≤ n
  pub bytes-in : size e ≤ l
  pub few : n ≤ limits.nodes
  pub short : l ≤ limits.bytes + limits.bytes

-- the same for two values, v for x first; the places are so many at the start of the row, and the whole breaks no limit
pub record Turns (body : Bytes) (row : List ℕ) (count gap : ℕ) (a : Bytes) (k : ℕ) (b : Bytes) (m n l : ℕ) (x : Name) (e v w : Term) : Type 0 where
  pub body_is : body ≡ encode e
  pub held : Held row count (places x e 0)
  pub gap_is : gap ≡ 2 + length x
  pub first : Given a k v
  pub second : Given b m w
  pub nodes-in : nodes e ≤ n
  pub bytes-in : size e ≤ l
  pub few : n ≤ limits.nodes
  pub short : l ≤ limits.bytes

-- u is written if it fits beside so many other nodes and bytes, and what was there halfway fits by itself, and so much was moved for it; else
-- the output is as it was
pub record Puts (others rest : ℕ) (half : Maybe Term) (t : Tally) (u : Term) (out out' : Bytes) (r : Option Written) : Type 0 where
  pub says : r ≡ (if half_fits limits half && fits_beside others rest u then Some (record { tally = t; nodes = others + nodes u }) else None)
  pub leaves : out' ≡ (if half_fits limits half && fits_beside others rest u then sets out 0 (encode u) else out)

-- a buffer to work in or to write to
abbrev pub Room : Bytes → Type 0
Room b = output_room limits ≤ length b

-- what was put behind a first that is counted too
abbrev pub written_after : (first : Tally) → Written → Written
written_after a b = record { tally = then_moved a b.tally; nodes = b.nodes }
