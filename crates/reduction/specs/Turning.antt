-- What a turn of bounded reduction works on, and what it leaves. Assumes nothing: these are definitions.
use Rattle.std.specs.Prelude.{ℕ, ◌+◌, ◌-◌, ◌≤◌, ◌<◌, ◌≡◌, true, List, take, Result, Ok, Err}
use Rattle.rules.specs.Basic.{Bytes}
use Rattle.rules.specs.Limits.{limits}
use Rattle.rules.specs.Term.{Term, encode, nodes, size, fits}
use Rattle.rules.specs.Reduction.{Reduced, stopped, outgrew, reduce_from, reduce}
use Rattle.reduction.specs.Standing.{Marks, Standing, Reducing}
use Rattle.reduction.specs.declared.place.Place.{Place}
use Rattle.reduction.specs.Counted.{total}
use Rattle.reduction.specs.declared.course.Course.{Course}
use Rattle.reduction.specs.Told.{repeated_of}
use Rattle.reduction.specs.declared.course.Outgrown.{Outgrown}
use Rattle.reduction.specs.declared.Reduction.{Reduction}

-- after so many steps with these counts the reduction of t is what is left to do of w
pub record Carried (limit : ℕ) (t w : Term) (g : Course) : Type 0 where
  pub count : g.nodes ≡ nodes w
  pub within : g.steps ≤ limit
  pub added : total g.counts ≡ g.steps
  pub carries : reduce limits limit t ≡ reduce_from limits (limit - g.steps) g.steps g.counts w

-- and the search stands in it
pub record Stands (limit : ℕ) (t : Term) (out scratch : List ℕ) (stack : Marks) (g : Course) : Type 0 where
  pub whole : Term
  pub carried : Carried limit t whole g
  pub stands : Standing whole out scratch stack g.at

-- it has gone on to a redex, and the limit is not reached
pub record AtRedex (limit : ℕ) (t : Term) (out scratch : List ℕ) (stack : Marks) (g : Course) (p : Place) : Type 0 where
  pub whole : Term
  pub carried : Carried limit t whole g
  pub redex : Reducing whole out scratch stack p
  pub below : g.steps < limit
  pub small : limit ≤ 4294967295

-- the last term that fitted
abbrev pub last : Reduced → Term
last (stopped n c b t) = t
last (outgrew n t) = t

pub record Repeats (d : Reduced) (out : Bytes) (r : Result Reduction Outgrown) : Type 0 where
  pub says : r ≡ repeated_of d
  pub bytes : take (size (last d)) out ≡ encode (last d)
  pub fits : fits limits (last d) ≡ true

-- one step more was taken
pub record GoesOn (limit : ℕ) (t : Term) (steps : ℕ) (out scratch : List ℕ) (stack : Marks) (g : Course) : Type 0 where
  pub stands : Stands limit t out scratch stack g
  pub one : g.steps ≡ steps + 1

-- or it outgrew the limits, and the reduction ends there
abbrev pub Turns : (limit : ℕ) (t : Term) (steps : ℕ) (out scratch : List ℕ) (stack : Marks) → Result Course Outgrown → Type 0
Turns limit t steps out scratch stack (Ok g) = GoesOn limit t steps out scratch stack g
Turns limit t steps out scratch stack (Err r) = Repeats (reduce limits limit t) out (Err r)
