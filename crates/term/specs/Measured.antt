-- Where names and terms end, and how many nodes a term has. Assumes nothing: these are definitions.
use Rattle.std.specs.Prelude.{ℕ, ◌+◌, ◌≡◌, List, length}
use Rattle.rules.specs.Name.{Name}
use Rattle.rules.specs.Term.{Term, nodes, size}
use Rattle.rules.specs.Step.{name_bytes}
use Rattle.laws.specs.size.Parts.{nodes_of_all}
use Rattle.term.specs.Node.{encode_all}
use Rattle.term.specs.declared.span.Extent.{Extent}
use Rattle.term.specs.declared.span.Two.{Two}
use Rattle.term.specs.declared.span.Names.{Names}

-- of the term t at `at`
pub record Measured (at : ℕ) (t : Term) (r : Extent) : Type 0 where
  pub next : r.next ≡ at + size t
  pub nodes : r.nodes ≡ nodes t

-- of the terms ts in a row at `at`
pub record MeasuredRow (at : ℕ) (ts : List Term) (r : Extent) : Type 0 where
  pub next : r.next ≡ at + length (encode_all ts)
  pub nodes : r.nodes ≡ nodes_of_all ts

-- of the terms a and b in a row at `at`
pub record MeasuredTwo (at : ℕ) (a b : Term) (r : Two) : Type 0 where
  pub second : r.second ≡ at + size a
  pub end : r.end ≡ r.second + size b
  pub a-nodes : r.a ≡ nodes a
  pub b-nodes : r.b ≡ nodes b

-- of the names x and y in a row at `at`
pub record Named (at : ℕ) (x y : Name) (r : Names) : Type 0 where
  pub second : r.second ≡ at + name_bytes x
  pub end : r.end ≡ r.second + name_bytes y
