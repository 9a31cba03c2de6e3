-- Behind a term that has no step: the nearest node above it; or none, and the whole has no step. Assumes nothing.
use Prim.Native.Nat.{ℕ, ◌+◌, ◌-◌, ◌≤◌, ◌<◌}
use mathlib.Core.Path.{◌≡◌, sym, ap, ◌∙◌}
use mathlib.Core.Bool.{true}
use mathlib.Core.List.{List, [], ◌∷◌, ◌++◌, append_assoc}
use native.Mathlib.Omega.{arith}
use lib.ListN.{length, get_or, length-append}
use Rattle.std.specs.Prelude.{None}
use Rattle.rules.specs.Limits.{limits}
use Rattle.rules.specs.Term.{Term, encode, size, fits}
use Rattle.rules.specs.Step.{normal, step}
use Rattle.reduction.proofs.moves.Places.{place}
use Rattle.reduction.specs.Hole.{Hole, fill, before, behind, Above, plug, lefts, rights}
use Rattle.reduction.specs.Quiet.{Entered, Asleep, Quiet}
use Rattle.reduction.specs.Standing.{Marks, Sides, Done, Ended}
use Rattle.reduction.proofs.moves.Contexts.{plug-encode}
use Rattle.reduction.proofs.moves.Buffers.{sides-short, depth-few}
use Rattle.reduction.proofs.moves.Marks.{Under}

-- the nearest node above
pub record Top (w : Term) (out scratch : List ℕ) (stack : Marks) (o i d : ℕ) : Type 0 where
  pub hole : Hole
  pub rest : Above
  pub part : Term
  pub is : w ≡ plug rest (fill hole part)
  pub enters : Entered hole
  pub sleeps : Asleep hole part
  pub quiet : Quiet rest (fill hole part)
  pub none : step part ≡ normal
  pub fits : fits limits w ≡ true
  pub sides : Sides ((lefts rest ++ before hole) ++ encode part) (behind hole ++ rights rest) (hole ∷ rest) out scratch stack o i d

pub top : {w : Term} {out scratch : List ℕ} {stack : Marks} {o i d : ℕ} → Done w out scratch stack (place o i d) → 0 < d → Top w out scratch stack o i d
top {w} {out} {scratch} {stack} {o} {i} {d} s h = go s.above s.is s.quiet s.sides
  where
    go : (c : Above) → w ≡ plug c s.at → Quiet c s.at → Sides (lefts c ++ encode s.at) (rights c) c out scratch stack o i d → Top w out scratch stack o i d
    go [] e q t = absurd (omega (arith, t.depth, h))
    go (f ∷ c) e q t =
        record { hole = f; rest = c; part = s.at; is = e; enters = q.0; sleeps = q.1; quiet = q.2; none = s.none; fits = s.fits; sides = t }

-- no node above: the whole has no step
pub ended : {w : Term} {out scratch : List ℕ} {stack : Marks} {o i d : ℕ} → Done w out scratch stack (place o i d) → d ≤ 0 → Ended w out o
ended {w} {out} {scratch} {stack} {o} {i} {d} s h = go s.above s.is s.sides
  where
    go : (c : Above) → w ≡ plug c s.at → Sides (lefts c ++ encode s.at) (rights c) c out scratch stack o i d → Ended w out o
    go [] e t = record { none = rw e s.none; bytes = rw e t.left; long = rw e t.long; fits = s.fits }
    go (f ∷ c) e t = absurd (omega (arith, t.depth, h))

module _ {w : Term} {out scratch : List ℕ} {stack : Marks} {o i d : ℕ} (k : Top w out scratch stack o i d) where
  abbrev f : Hole
  f = k.hole

  abbrev c : Above
  c = k.rest

  abbrev t : Term
  t = k.part

  -- the bytes on the left
  left-long : o ≡ length (lefts c) + (length (before f) + size t)
  left-long =
      omega (arith, k.sides.long, length-append (lefts c ++ before f) (encode t), length-append (lefts c) (before f))

  pub whole-short : o + (length scratch - i) ≤ limits.bytes
  whole-short =
      sides-short k.sides w k.fits
      (append_assoc (lefts c ++ before f) (encode t) (behind f ++ rights c) ∙ sym (plug-encode (f ∷ c) t) ∙ ap encode (sym k.is))

  pub few : d < limits.nodes
  few = depth-few k.sides w k.fits t k.is

  pub in_stack : d - 1 < length stack
  in_stack = omega (arith, few, k.sides.stack-room)

  pub under : Under f c (encode t) out stack o d
  under =
      let e : d - 1 ≡ length c = omega (arith, k.sides.depth) in
      record {
        left = k.sides.left ∙ append_assoc (lefts c) (before f) (encode t);
        long = left-long;
        short = omega (arith, whole-short);
        room = k.sides.room;
        marked = ap (λ (j : ℕ). get_or stack j None) e ∙ k.sides.held.0;
      }
