-- The search for the first redex: in the whole in which it began it stands where it is. Assumes nothing.
use Prim.Native.Nat.{ℕ, ◌<◌}
use mathlib.Core.Path.{◌≡◌, subst}
use mathlib.Core.List.{List}
use native.Mathlib.Omega.{arith}
use lib.ListN.{length}
use Rattle.rules.specs.Term.{Term}
use Rattle.term.specs.Place.{TermAt}
use Rattle.term.proofs.node.Terms.{apart-size, at-inside}
use Rattle.reduction.proofs.moves.Places.{place}
use Rattle.reduction.specs.Hole.{rights}
use Rattle.reduction.specs.Seen.{Sees}
use Rattle.reduction.specs.Standing.{Marks, Standing, Entering, Passing, Reducing}
use Rattle.reduction.specs.declared.place.Place.{Place}
use Rattle.reduction.specs.declared.sight.Seen.{Seen}
use Rattle.reduction.specs.declared.sight.Seen.TheVariants.{Passed, Redex, Inside}

pub record Seeking (scratch out₀ : List ℕ) (stack₀ : Marks) (from : Place) (out : List ℕ) (stack : Marks) (p : Place) : Type 0 where
  pub same_out : length out ≡ length out₀
  pub same-stack : length stack ≡ length stack₀
  pub carries : (w : Term) → Standing w out₀ scratch stack₀ from → Standing w out scratch stack p

module _ {w : Term} {out scratch : List ℕ} {stack : Marks} {o i d : ℕ} (s : Standing w out scratch stack (place o i d)) where
  pub stands_at : TermAt scratch i s.at
  stands_at = record { rest = rights s.above; bytes = s.sides.right }

  pub in-scratch : i < length scratch
  in-scratch = at-inside scratch i s.at stands_at

  module _ {r : Seen} (f : (t : Term) → TermAt scratch i t → Sees i t r) where
    seen : (q : Seen) → r ≡ q → Sees i s.at q
    seen q e = subst (λ (z : Seen). Sees i s.at z) e (f s.at stands_at)

    pub entering : (m : ℕ) → r ≡ Inside m → Entering w out scratch stack (place o i d) m
    entering m e = record { stands = s; opens = seen (Inside m) e }

    pub passing : (m : ℕ) → r ≡ Passed m → Passing w out scratch stack (place o i d) m
    passing m e = record { stands = s; rests = seen (Passed m) e }

    pub reducing : r ≡ Redex → Reducing w out scratch stack (place o i d)
    reducing e = record { stands = s; redex = seen Redex e }

    -- a part starts behind its node, and a term ends behind its place
    pub inside_past : (m : ℕ) → r ≡ Inside m → i < m
    inside_past m e = omega (arith, (seen (Inside m) e).starts)

    pub behind-past : (m : ℕ) → r ≡ Passed m → i < m
    behind-past m e = omega (arith, (seen (Passed m) e).ends, apart-size s.at)
