-- Into a node: its head goes over to the output, its mark onto the stack, and the search stands at its first part. Assumes nothing.
use Prim.Native.Nat.{ℕ, ◌+◌, ◌-◌, ◌≤◌, ◌<◌}
use mathlib.Core.Path.{◌≡◌, sym, subst, ap, ◌∙◌}
use mathlib.Core.List.{List, ◌∷◌, ◌++◌, append_assoc}
use native.Mathlib.Omega.{arith}
use lib.ListN.{length, drop, set, length-append, length-set}
use lib.Seq.{length-sets, slice}
use Rattle.rules.specs.Limits.{limits}
use Rattle.std.specs.Prelude.{Option, Some}
use Rattle.rules.specs.Basic.{Bytes}
use Rattle.rules.specs.Term.{Term, encode, size}
use Rattle.buffer.specs.Wrote.{Wrote}
use Rattle.buffer.specs.Writing.{slice_is}
use Rattle.term.proofs.node.Names.{drop_app, long}
use Rattle.reduction.proofs.moves.Places.{place}
use Rattle.reduction.specs.Hole.{Hole, before, behind, plug, lefts, rights}
use Rattle.reduction.specs.Quiet.{Quiet}
use Rattle.reduction.specs.Standing.{Marks, mark, Sides, Standing, Reaches, Entering}
use Rattle.reduction.proofs.moves.Holes.{fill-encode}
use Rattle.reduction.proofs.moves.Contexts.{plug-encode}
use Rattle.reduction.proofs.moves.Buffers.{wrote-left, held-set, sides-size, sides-short, depth-few}

module _ {w : Term} {out scratch : List ℕ} {stack : Marks} {o i d : ℕ} (s : Standing w out scratch stack (place o i d)) where
  -- the two sides are the whole
  pub is_whole : lefts s.above ++ (encode s.at ++ rights s.above) ≡ encode w
  is_whole = sym (plug-encode s.above s.at) ∙ ap encode (sym s.is)

  pub whole-size : o + (length scratch - i) ≡ size w
  whole-size = sides-size s.sides w is_whole

  pub whole-short : o + (length scratch - i) ≤ limits.bytes
  whole-short = sides-short s.sides w s.fits is_whole

module _ {w : Term} {out scratch : List ℕ} {stack : Marks} {o i d m : ℕ} (e : Entering w out scratch stack (place o i d) m) where
  abbrev s : Standing w out scratch stack (place o i d)
  s = e.stands

  abbrev f : Hole
  f = e.opens.hole

  abbrev a : Term
  a = e.opens.part

  abbrev rest : Bytes
  rest = encode a ++ (behind f ++ rights s.above)

  apart : drop i scratch ≡ before f ++ rest
  apart =
      s.sides.right
      ∙ ap (λ (z : Term). encode z ++ rights s.above) e.opens.is
      ∙ ap (λ (z : Bytes). z ++ rights s.above) (fill-encode f a)
      ∙ append_assoc (before f) (encode a ++ behind f) (rights s.above)
      ∙ ap (λ (z : Bytes). before f ++ z) (append_assoc (encode a) (behind f) (rights s.above))

  pub enter-depth : (d < limits.nodes) × (d < length stack) × (o < 65536)
  enter-depth =
      let few = depth-few s.sides w s.fits s.at s.is in
      (few, omega (arith, few, s.sides.stack-room), omega (arith, whole-short e.stands))

  pub enter-room : (i ≤ m) × (m ≤ length scratch) × (o + (m - i) ≤ length out)
  enter-room =
      let l = long scratch (before f) rest i apart in
      let g = whole-short e.stands in
      let h = e.stands.sides.room in
      let k = e.stands.sides.inside in
      let n = e.opens.starts in
      (omega (arith, n), omega (arith, n, l, k), omega (arith, n, l, g, h))

  module _ {out₁ : List ℕ} {p : ℕ} (c : Wrote out o (slice i m scratch) out₁ p) where
    copied : Wrote out o (before f) out₁ p
    copied =
        let n : slice i m scratch ≡ before f = ap (λ (k : ℕ). slice i k scratch) e.opens.starts ∙ slice_is i scratch (before f) rest apart in
        rw n at c

    sides-now : Sides (lefts s.above ++ before f) rest (f ∷ s.above) out₁ scratch (set stack d (Some o)) p m (d + 1)
    sides-now =
        let t = s.sides in
        let n = length-append (lefts s.above) (before f) in
        let r = enter-room in
        record {
          left = wrote-left copied (omega (arith, r, e.opens.starts)) ∙ ap (λ (z : Bytes). z ++ before f) t.left;
          long = omega (arith, copied.ends, t.long, n);
          right = drop_app (before f) rest scratch i m apart e.opens.starts;
          inside = r.1;
          held = held-set stack f s.above d (Some o) t.depth enter-depth.1 (ap (λ (k : ℕ). Some k) t.long ∙ ap (λ (z : List Term). mark (length z) (length (lefts s.above))) (sym e.opens.first)) t.held;
          depth = omega (arith, t.depth);
          room = omega (arith, t.room, ap (λ (z : Bytes). length z) copied.holds, length-sets out o (before f));
          scratch-room = t.scratch-room;
          stack-room = omega (arith, t.stack-room, length-set {A = Option ℕ} stack d (Some o));
        }

    inside-now : Standing w out₁ scratch (set stack d (Some o)) (place p m (d + 1))
    inside-now =
        record {
          above = f ∷ s.above;
          at = a;
          is = s.is ∙ ap (λ (z : Term). plug s.above z) e.opens.is;
          quiet = (e.opens.enters, e.opens.sleeps, subst (λ (z : Term). Quiet s.above z) e.opens.is s.quiet);
          fits = s.fits;
          sides = sides-now;
        }

    pub entered : Reaches w out₁ scratch (set stack d (Some o)) m (record { o = p; i = m; depth = d + 1 })
    entered = record { stands = inside-now; past = omega arith }
