-- Behind a term that has no step: it goes over to the output. Assumes nothing.
use Prim.Native.Nat.{ℕ, ◌+◌, ◌-◌, ◌≤◌}
use mathlib.Core.Path.{◌≡◌, ap, ◌∙◌}
use mathlib.Core.List.{List, ◌++◌}
use native.Mathlib.Omega.{arith}
use lib.ListN.{length, length-append}
use lib.Seq.{length-sets, slice}
use Rattle.rules.specs.Basic.{Bytes}
use Rattle.rules.specs.Term.{Term, encode}
use Rattle.buffer.specs.Wrote.{Wrote}
use Rattle.buffer.specs.Writing.{slice_is}
use Rattle.term.proofs.node.Names.{drop_app, long}
use Rattle.reduction.proofs.moves.Places.{place}
use Rattle.reduction.specs.Hole.{lefts, rights}
use Rattle.reduction.specs.Standing.{Marks, Standing, Done, Passing}
use Rattle.reduction.proofs.moves.Buffers.{wrote-left}
use Rattle.reduction.proofs.moves.Entries.{whole-short}

module _ {w : Term} {out scratch : List ℕ} {stack : Marks} {o i d m : ℕ} (e : Passing w out scratch stack (place o i d) m) where
  abbrev s : Standing w out scratch stack (place o i d)
  s = e.stands

  pub pass-room : (i ≤ m) × (m ≤ length scratch) × (o + (m - i) ≤ length out)
  pass-room =
      let l = long scratch (encode s.at) (rights s.above) i s.sides.right in
      let g = whole-short s in
      let h = s.sides.room in
      let k = s.sides.inside in
      let n = e.rests.ends in
      (omega (arith, n), omega (arith, n, l, k), omega (arith, n, l, g, h))

  module _ {out₁ : List ℕ} {p : ℕ} (c : Wrote out o (slice i m scratch) out₁ p) where
    copied : Wrote out o (encode s.at) out₁ p
    copied =
        let n : slice i m scratch ≡ encode s.at =
        ap (λ (k : ℕ). slice i k scratch) e.rests.ends ∙ slice_is i scratch (encode s.at) (rights s.above) s.sides.right in
        rw n at c

    pub done : Done w out₁ scratch stack (place p m d)
    done =
        let t = s.sides in
        let r = pass-room in
        record {
          above = s.above;
          at = s.at;
          is = s.is;
          quiet = s.quiet;
          none = e.rests.none;
          fits = s.fits;
          sides =
              record {
                left = wrote-left copied (omega (arith, r, e.rests.ends)) ∙ ap (λ (z : Bytes). z ++ encode s.at) t.left;
                long = omega (arith, copied.ends, t.long, length-append (lefts s.above) (encode s.at));
                right = drop_app (encode s.at) (rights s.above) scratch i m t.right e.rests.ends;
                inside = r.1;
                held = t.held;
                depth = t.depth;
                room = omega (arith, t.room, ap (λ (z : Bytes). length z) copied.holds, length-sets out o (encode s.at));
                scratch-room = t.scratch-room;
                stack-room = t.stack-room;
              };
        }
