-- The search from the root comes to a place: no node above it is a redex, and no part before it has a step.
-- Assumes nothing: these are definitions.
use Rattle.std.specs.Prelude.{ℕ, ◌≡◌, false, [], ◌∷◌}
use Rattle.std.proofs.Math.Option.{Option}
use Rattle.rules.specs.Term.{Term, One, inl, inr, fst, snd, abort, promote, derelict}
use Rattle.rules.specs.declared.Rule.{Rule}
use Rattle.rules.specs.Step.{normal, found, step}
use Rattle.term.specs.Node.{tag}
use Rattle.redex.specs.Searched.{reduces}
use Rattle.reduction.specs.Hole.{Hole, in_one, in_left, in_right, in_abs, in_source, in_body, in_scrutinee, fill, hole_tag, Above}

-- the part that decides whether the node is a redex
abbrev pub part_first : Hole → Term → Term
part_first (in_one k) t = t
part_first (in_left k b) t = t
part_first (in_right k a) t = a
part_first (in_abs x) t = t
part_first (in_source k x y b) t = t
part_first (in_body x y e) t = e
part_first (in_scrutinee x y l r) t = t

-- Abort is never entered
abbrev pub NotAbort : One → Type 0
NotAbort inl = Unit {0}
NotAbort inr = Unit {0}
NotAbort fst = Unit {0}
NotAbort snd = Unit {0}
NotAbort abort = ⊥
NotAbort promote = Unit {0}
NotAbort derelict = Unit {0}

-- the hole is entered, once the part before it has no step
abbrev pub Entered : Hole → Type 0
Entered (in_one k) = NotAbort k
Entered (in_left k b) = Unit {0}
Entered (in_right k a) = step a ≡ normal
Entered (in_abs x) = Unit {0}
Entered (in_source k x y b) = Unit {0}
Entered (in_body x y e) = step e ≡ normal
Entered (in_scrutinee x y l r) = Unit {0}

-- the node is no redex with t in the hole
abbrev pub Asleep : Hole → Term → Type 0
Asleep f t = reduces (hole_tag f) (tag (part_first f t)) ≡ false

abbrev pub Quiet : Above → Term → Type 0
Quiet [] t = Unit {0}
Quiet (f ∷ c) t = Entered f × Asleep f t × Quiet c (fill f t)

-- the first redex of t is contracted by r, by way of h, and leaves u
pub record Steps (t : Term) (r : Rule) (h : Option Term) (u : Term) : Type 0 where
  pub place : ℕ
  pub is : step t ≡ found r place h u
