-- Where the search stands: the output holds what it has passed, the scratch, up to its end, the term at which it stands and all that
-- follows, and the stack one mark for each node above. Assumes nothing: these are definitions.
use Rattle.std.specs.Prelude.{ℕ, zero, suc, ◌≤◌, ◌≡◌, true, List, [], ◌∷◌, ◌++◌, length, take, drop, get_or, Option, Some, None}
use Rattle.std.specs.declared.ops.ControlFlow.{ControlFlow}
use Rattle.std.specs.declared.ops.ControlFlow.TheVariants.{Continue, Break}
use Rattle.rules.specs.Basic.{Bytes}
use Rattle.rules.specs.Limits.{limits, output_room, scratch_room}
use Rattle.rules.specs.Term.{Term, encode, size, fits}
use Rattle.rules.specs.Step.{normal, step}
use Rattle.reduction.specs.Hole.{fill, passed, Above, plug, lefts, rights}
use Rattle.reduction.specs.Quiet.{Entered, Asleep, Quiet}
use Rattle.reduction.specs.Seen.{Contracts, Opens, Rests}
use Rattle.reduction.specs.declared.place.Place.{Place}

abbrev pub Marks : Type 0
Marks = List (Option ℕ)

-- the mark of a node: where it starts in the output while its hole is the first part, else none
abbrev pub mark : (parts start : ℕ) → Option ℕ
mark zero n = Some n
mark (suc k) n = None

abbrev pub Held : Marks → Above → Type 0
Held s [] = Unit {0}
Held s (f ∷ c) = (get_or s (length c) None ≡ mark (length (passed f)) (length (lefts c))) × Held s c

-- l has been passed, r follows, under the nodes c
pub record Sides (l r : Bytes) (c : Above) (out scratch : List ℕ) (stack : Marks) (o i d : ℕ) : Type 0 where
  pub left : take o out ≡ l
  pub long : o ≡ length l
  pub right : drop i scratch ≡ r
  pub inside : i ≤ length scratch
  pub held : Held stack c
  pub depth : d ≡ length c
  pub room : output_room limits ≤ length out
  pub scratch-room : scratch_room limits ≤ length scratch
  pub stack-room : limits.nodes ≤ length stack

-- the search has come to a term of the whole w
pub record Standing (w : Term) (out scratch : List ℕ) (stack : Marks) (p : Place) : Type 0 where
  pub above : Above
  pub at : Term
  pub is : w ≡ plug above at
  pub quiet : Quiet above at
  pub fits : fits limits w ≡ true
  pub sides : Sides (lefts above) (encode at ++ rights above) above out scratch stack p.o p.i p.depth

-- it has come behind a term that has no step
pub record Done (w : Term) (out scratch : List ℕ) (stack : Marks) (p : Place) : Type 0 where
  pub above : Above
  pub at : Term
  pub is : w ≡ plug above at
  pub quiet : Quiet above at
  pub none : step at ≡ normal
  pub fits : fits limits w ≡ true
  pub sides : Sides (lefts above ++ encode at) (rights above) above out scratch stack p.o p.i p.depth

-- a new term has come to stand there, so the nearest node may be a redex if that is its first part
abbrev pub Nearly : Above → Term → Type 0
Nearly [] t = Unit {0}
Nearly (f ∷ c) t = Entered f × ((passed f ≡ [] → ⊥) → Asleep f t) × Quiet c (fill f t)

pub record Landed (w : Term) (out scratch : List ℕ) (stack : Marks) (p : Place) : Type 0 where
  pub above : Above
  pub at : Term
  pub is : w ≡ plug above at
  pub nearly : Nearly above at
  pub fits : fits limits w ≡ true
  pub sides : Sides (lefts above) (encode at ++ rights above) above out scratch stack p.o p.i p.depth

-- it has come to the end: w has no step
pub record Ended (w : Term) (out : Bytes) (o : ℕ) : Type 0 where
  pub none : step w ≡ normal
  pub bytes : take o out ≡ encode w
  pub long : o ≡ size w
  pub fits : fits limits w ≡ true

-- from i on: it stands at p
pub record Reaches (w : Term) (out scratch : List ℕ) (stack : Marks) (i : ℕ) (p : Place) : Type 0 where
  pub stands : Standing w out scratch stack p
  pub past : i ≤ p.i

-- from i on: it stands at the place that is told, or has come to the end
abbrev pub Goes : Term → (out scratch : List ℕ) (stack : Marks) → (i : ℕ) → ControlFlow ℕ Place → Type 0
Goes w out scratch stack i (Continue p) = Reaches w out scratch stack i p
Goes w out scratch stack i (Break o) = Ended w out o

-- a term that is entered, and one that is passed
pub record Entering (w : Term) (out scratch : List ℕ) (stack : Marks) (p : Place) (m : ℕ) : Type 0 where
  pub stands : Standing w out scratch stack p
  pub opens : Opens p.i stands.at m

pub record Passing (w : Term) (out scratch : List ℕ) (stack : Marks) (p : Place) (m : ℕ) : Type 0 where
  pub stands : Standing w out scratch stack p
  pub rests : Rests p.i stands.at m

-- a redex
pub record Reducing (w : Term) (out scratch : List ℕ) (stack : Marks) (p : Place) : Type 0 where
  pub stands : Standing w out scratch stack p
  pub redex : Contracts stands.at

-- it has come to a redex, or to the end
abbrev pub Finds : Term → (out scratch : List ℕ) (stack : Marks) → ControlFlow ℕ Place → Type 0
Finds w out scratch stack (Continue p) = Reducing w out scratch stack p
Finds w out scratch stack (Break o) = Ended w out o
