-- What one look at a node tells the search. Assumes nothing: these are definitions.
use Rattle.std.specs.Prelude.{ℕ, ◌+◌, ◌≡◌, [], length}
use Rattle.std.proofs.Math.Option.{Option}
use Rattle.rules.specs.Term.{Term, size}
use Rattle.rules.specs.declared.Rule.{Rule}
use Rattle.rules.specs.Step.{by, contract, normal, step}
use Rattle.reduction.specs.Hole.{Hole, fill, passed, before}
use Rattle.reduction.specs.Quiet.{Entered, Asleep}
use Rattle.reduction.specs.declared.sight.Seen.{Seen}
use Rattle.reduction.specs.declared.sight.Seen.TheVariants.{Passed, Redex, Inside}

-- t is a redex
pub record Contracts (t : Term) : Type 0 where
  pub rule : Rule
  pub half : Option Term
  pub result : Term
  pub is : contract t ≡ by rule half result

-- t, at `at`, is no redex, and is entered at its first part, which starts at m
pub record Opens (at : ℕ) (t : Term) (m : ℕ) : Type 0 where
  pub hole : Hole
  pub part : Term
  pub is : t ≡ fill hole part
  pub first : passed hole ≡ []
  pub enters : Entered hole
  pub sleeps : Asleep hole part
  pub starts : m ≡ at + length (before hole)

-- t has no step and ends at m
pub record Rests (at : ℕ) (t : Term) (m : ℕ) : Type 0 where
  pub none : step t ≡ normal
  pub ends : m ≡ at + size t

-- by what was seen of the term t at `at`
abbrev pub Sees : (at : ℕ) → Term → Seen → Type 0
Sees at t (Passed m) = Rests at t m
Sees at t Redex = Contracts t
Sees at t (Inside m) = Opens at t m
