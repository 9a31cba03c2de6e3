-- What is counted of one name: in a row of names, at a node, in a term. Assumes nothing: these are definitions.
use Rattle.std.specs.Prelude.{ℕ, ◌+◌, ◌≡◌, List, map, length}
use Rattle.rules.specs.Name.{Name, encode_names}
use Rattle.rules.specs.Term.{Term, parts}
use Rattle.rules.specs.Straight.{count, stands, uses}
use Rattle.term.specs.Node.{head}
use Rattle.straight.specs.Node.{own_variables, own_binders}
use Rattle.straight.specs.declared.uses.SameNames.{SameNames}
use Rattle.straight.specs.declared.uses.NodeUses.{NodeUses}
use Rattle.straight.specs.declared.uses.TermUses.{TermUses}

-- the names xs at `at`, with the name x in mind
pub record PastNames (x : Name) (at : ℕ) (xs : List Name) (r : SameNames) : Type 0 where
  pub next : r.next ≡ at + length (encode_names xs)
  pub same : r.same ≡ count x xs

-- the node t at `at`
pub record AtNode (x : Name) (at : ℕ) (t : Term) (r : NodeUses) : Type 0 where
  pub start : r.start ≡ at + length (head t)
  pub parts : r.parts ≡ length (parts t)
  pub uses : r.uses ≡ count x (own_variables t)
  pub stands : r.stands ≡ count x (map (λ b. b.name) (own_binders t))

-- the term t, whole
pub record InTerm (x : Name) (t : Term) (r : TermUses) : Type 0 where
  pub uses : r.uses ≡ uses x t
  pub stands : r.stands ≡ stands x t
