-- What a contraction works on. Assumes nothing: this is a definition.
use Rattle.std.specs.Prelude.{ℕ, ◌≤◌, ◌≡◌, List, length}
use Rattle.std.proofs.Math.Option.{Option}
use Rattle.rules.specs.Basic.{Bytes}
use Rattle.rules.specs.Limits.{limits, output_room}
use Rattle.rules.specs.Term.{Term}
use Rattle.rules.specs.declared.Rule.{Rule}
use Rattle.rules.specs.Step.{by, contract}
use Rattle.contraction.specs.Contracted.{Redex, Row}

-- t contracts by the rule r to u, by way of h; there is a row for places, and room for what is made
pub record Contracting (s : Bytes) (at n l : ℕ) (places : List ℕ) (made : Bytes) (t : Term) (r : Rule) (h : Option Term) (u : Term) : Type 0 where
  pub redex : Redex s at n l t
  pub contracts : contract t ≡ by r h u
  pub row : Row places
  pub made-room : output_room limits ≤ length made
