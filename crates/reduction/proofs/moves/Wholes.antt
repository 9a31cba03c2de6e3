-- The two sides are the whole: at the end what has yet to be seen goes behind what was passed, and nothing is walked back. Assumes nothing.
use Prim.Native.Nat.{ℕ, ◌+◌, ◌-◌, ◌≤◌}
use mathlib.Core.Path.{◌≡◌, refl, ap, ◌∙◌}
use mathlib.Core.Bool.{true}
use mathlib.Core.List.{List, [], ◌++◌}
use native.Mathlib.Omega.{arith}
use lib.ListN.{length, take, drop, length-drop}
use lib.Seq.{length-sets, slice, take-length, drop-length}
use Rattle.rules.specs.Basic.{Bytes}
use Rattle.rules.specs.Limits.{limits, output_room, scratch_room}
use Rattle.rules.specs.Term.{Term, encode, size, fits}
use Rattle.buffer.specs.Wrote.{Wrote}
use Rattle.reduction.proofs.moves.Places.{place}
use Rattle.reduction.specs.Hole.{rights}
use Rattle.reduction.specs.Standing.{Marks, Standing}
use Rattle.reduction.proofs.moves.Buffers.{wrote-left, wrote_right}
use Rattle.reduction.proofs.moves.Entries.{is_whole, whole-size, whole-short}

module _ {w : Term} {out scratch : List ℕ} {stack : Marks} {o i d : ℕ} (s : Standing w out scratch stack (place o i d)) where
  pub join-room : (i ≤ length scratch) × (o + (length scratch - i) ≤ length out)
  join-room = (s.sides.inside, omega (arith, whole-short s, s.sides.room))

  -- what follows, as the part that is copied
  rest : slice i (length scratch) scratch ≡ drop i scratch
  rest = ap (λ (z : Bytes). drop i z) (take-length scratch)

  module _ {out₁ : List ℕ} {p : ℕ} (v : Wrote out o (slice i (length scratch) scratch) out₁ p) where
    pub join-long : p ≡ size w
    join-long = v.ends ∙ ap (λ (z : Bytes). o + length z) rest ∙ ap (λ (k : ℕ). o + k) (length-drop i scratch) ∙ whole-size s

    pub join-bytes : take p out₁ ≡ encode w
    join-bytes =
        wrote-left v (omega (arith, ap (λ (z : Bytes). length z) rest, length-drop i scratch, join-room))
        ∙ ap (λ (z : Bytes). take o out ++ z) (rest ∙ s.sides.right)
        ∙ ap (λ (z : Bytes). z ++ (encode s.at ++ rights s.above)) s.sides.left
        ∙ is_whole s

-- a term at the end of the scratch, and nothing passed: there the search begins
module _ (t : Term) (f : fits limits t ≡ true) {out scratch scratch₁ : List ℕ} {stack : Marks} {k p : ℕ} (v : Wrote scratch k (encode t) scratch₁ p)
    (e : k + size t ≡ length scratch) (r : output_room limits ≤ length out) (q : scratch_room limits ≤ length scratch) (h : limits.nodes ≤ length stack) where
  pub stands-first : Standing t out scratch₁ stack (place 0 k 0)
  stands-first =
      let g : length scratch₁ ≡ length scratch = ap (λ (z : Bytes). length z) v.holds ∙ length-sets scratch k (encode t) in
      record {
        above = [];
        at = t;
        is = refl;
        quiet = tt;
        fits = f;
        sides =
            record {
              left = refl;
              long = refl;
              right = wrote_right v (omega (arith, e)) ∙ ap (λ (j : ℕ). encode t ++ drop j scratch) (v.ends ∙ e) ∙ ap (λ (z : Bytes). encode t ++ z) (drop-length scratch);
              inside = omega (arith, e, g);
              held = tt;
              depth = refl;
              room = r;
              scratch-room = omega (arith, q, g);
              stack-room = h;
            };
      }
