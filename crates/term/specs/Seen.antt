-- What one look at a node tells. Assumes nothing: these are definitions.
use Rattle.std.specs.Prelude.{ℕ, ◌+◌, ◌≡◌, length}
use Rattle.rules.specs.Name.{Name}
use Rattle.rules.specs.Term.{Term, parts}
use Rattle.term.specs.Node.{head, is_var, hides}
use Rattle.term.specs.declared.node.Node.{Node}

-- of the term t at `at`, with the name x in mind
pub record Seen (x : Name) (at : ℕ) (t : Term) (l : Node) : Type 0 where
  pub start : l.start ≡ at + length (head t)
  pub parts : l.parts ≡ length (parts t)
  pub hides : l.hides ≡ hides x t
  pub is : l.is ≡ is_var x t
