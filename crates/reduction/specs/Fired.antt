-- A contraction where the search stands. Assumes nothing: these are definitions.
use Rattle.std.specs.Prelude.{ℕ, ◌≡◌, true, false, List, Option as Optional, Some, None}
use Rattle.std.proofs.Math.Option.{Option}
use Rattle.rules.specs.Limits.{limits}
use Rattle.rules.specs.Term.{Term, nodes}
use Rattle.rules.specs.declared.Rule.{Rule}
use Rattle.rules.specs.Step.{step_fits}
use Rattle.contraction.specs.declared.part.Contraction.{Contraction}
use Rattle.reduction.specs.Quiet.{Steps}
use Rattle.reduction.specs.Standing.{Marks, Standing, Reducing}
use Rattle.reduction.specs.declared.place.Place.{Place}
use Rattle.reduction.specs.declared.land.Fired.{Fired}

-- the whole w has n nodes, and the search stands at a redex of it
pub record Firing (w : Term) (out scratch : List ℕ) (stack : Marks) (p : Place) (n : ℕ) : Type 0 where
  pub reducing : Reducing w out scratch stack p
  pub count : n ≡ nodes w

-- the step of w leaves the next term, which fits; the search stands in it
pub record Lands (w : Term) (m : Contraction) (out scratch : List ℕ) (stack : Marks) (p : Place) : Type 0 where
  pub next : Term
  pub half : Option Term
  pub steps : Steps w m.rule half next
  pub tested : step_fits limits half next ≡ true
  pub count : m.nodes ≡ nodes next
  pub stands : Standing next out scratch stack p

-- the step of w does not fit; the search stands where it stood
pub record Over (w : Term) (out scratch : List ℕ) (stack : Marks) (p : Place) : Type 0 where
  pub rule : Rule
  pub half : Option Term
  pub next : Term
  pub steps : Steps w rule half next
  pub tested : step_fits limits half next ≡ false
  pub stands : Standing w out scratch stack p

abbrev pub Fires : Term → (out scratch : List ℕ) (stack : Marks) → Place → Optional Fired → Type 0
Fires w out scratch stack p (Some f) = Lands w f.contraction out scratch stack f.place
Fires w out scratch stack p None = Over w out scratch stack p
