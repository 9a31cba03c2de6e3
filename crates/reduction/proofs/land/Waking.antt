-- A new term stands where the search stands. If it makes a redex of the nearest node, the node's head comes back in front of it. Assumes nothing.
use Prim.Native.Nat.{ℕ, ◌+◌, ◌-◌, ◌≤◌, ◌<◌}
use mathlib.Core.Path.{◌≡◌, sym, ap, ◌∙◌}
use mathlib.Core.Bool.{Bool, true, false}
use mathlib.Core.List.{List, [], ◌∷◌, ◌++◌, append_assoc, append-nil}
use native.Mathlib.Omega.{arith}
use lib.ListN.{length, take, drop, get_or, length-append}
use lib.Seq.{length-sets, slice, take_at, take-take, drop_at}
use Rattle.std.specs.Prelude.{Some, None}
use Rattle.rules.specs.Basic.{Bytes}
use Rattle.rules.specs.Limits.{limits}
use Rattle.rules.specs.Term.{Term, encode, fits}
use Rattle.buffer.specs.Wrote.{Wrote}
use Rattle.term.specs.Node.{tag}
use Rattle.term.specs.Place.{TermAt}
use Rattle.term.proofs.node.Terms.{at_tag, at_small, at-inside}
use Rattle.redex.specs.Searched.{reduces}
use Rattle.reduction.proofs.moves.Places.{place}
use Rattle.reduction.specs.Hole.{Hole, fill, passed, before, behind, Above, plug, lefts, rights}
use Rattle.reduction.specs.Quiet.{part_first, Entered, Asleep, Quiet}
use Rattle.reduction.specs.Standing.{Marks, Sides, Standing, Nearly, Landed}
use Rattle.reduction.proofs.moves.Holes.{fill-encode}
use Rattle.reduction.proofs.moves.Contexts.{plug-encode}
use Rattle.reduction.proofs.moves.Sights.{first-is}
use Rattle.reduction.proofs.moves.Buffers.{wrote_right, sides-short, depth-few}
use Rattle.reduction.proofs.moves.Marks.{Under, none_passed, started, start-before, tag_is}

-- the nearest node above
pub record Nearest (w : Term) (out scratch : List ℕ) (stack : Marks) (o i d : ℕ) : Type 0 where
  pub hole : Hole
  pub rest : Above
  pub part : Term
  pub is : w ≡ plug rest (fill hole part)
  pub enters : Entered hole
  pub second : (passed hole ≡ [] → ⊥) → Asleep hole part
  pub quiet : Quiet rest (fill hole part)
  pub fits : fits limits w ≡ true
  pub sides : Sides (lefts rest ++ before hole) (encode part ++ (behind hole ++ rights rest)) (hole ∷ rest) out scratch stack o i d

module _ {w : Term} {out scratch : List ℕ} {stack : Marks} {o i d : ℕ} (s : Landed w out scratch stack (place o i d)) where
  pub nearest : (d ≡ 0 → ⊥) → Nearest w out scratch stack o i d
  nearest ne = go s.above s.is s.nearly s.sides
    where
      go : (c : Above) → w ≡ plug c s.at → Nearly c s.at → Sides (lefts c) (encode s.at ++ rights c) c out scratch stack o i d → Nearest w out scratch stack o i d
      go [] e q t = absurd (ne t.depth)
      go (f ∷ c) e q t =
          record { hole = f; rest = c; part = s.at; is = e; enters = q.0; second = q.1; quiet = q.2; fits = s.fits; sides = t }

  -- no node above
  pub alone : d ≡ 0 → Standing w out scratch stack (place o i d)
  alone z = go s.above s.is s.sides
    where
      go : (c : Above) → w ≡ plug c s.at → Sides (lefts c) (encode s.at ++ rights c) c out scratch stack o i d → Standing w out scratch stack (place o i d)
      go [] e t = record { above = []; at = s.at; is = e; quiet = tt; fits = s.fits; sides = t }
      go (f ∷ c) e t = absurd (omega (arith, t.depth, z))

module _ {w : Term} {out scratch : List ℕ} {stack : Marks} {o i d : ℕ} (k : Nearest w out scratch stack o i d) where
  abbrev f : Hole
  f = k.hole

  abbrev c : Above
  c = k.rest

  abbrev t : Term
  t = k.part

  stands_at : TermAt scratch i t
  stands_at = record { rest = behind f ++ rights c; bytes = k.sides.right }

  pub in-scratch : i < length scratch
  in-scratch = at-inside scratch i t stands_at

  pub new-small : get_or scratch i 0 < 18
  new-small = at_small scratch i t stands_at

  short : o + (length scratch - i) ≤ limits.bytes
  short = sides-short k.sides w k.fits (sym (plug-encode (f ∷ c) t) ∙ ap encode (sym k.is))

  pub few : d < limits.nodes
  few = depth-few k.sides w k.fits t k.is

  pub in_stack : d - 1 < length stack
  in_stack = omega (arith, few, k.sides.stack-room)

  pub under : Under f c [] out stack o d
  under =
      let e : d - 1 ≡ length c = omega (arith, k.sides.depth) in
      record {
        left = k.sides.left ∙ ap (λ (z : Bytes). lefts c ++ z) (sym (append-nil (before f)));
        long = omega (arith, k.sides.long, length-append (lefts c) (before f));
        short = omega (arith, short);
        room = k.sides.room;
        marked = ap (λ (j : ℕ). get_or stack j None) e ∙ k.sides.held.0;
      }

  -- the node stays no redex
  stays : Asleep f t → Standing w out scratch stack (place o i d)
  stays a = record { above = f ∷ c; at = t; is = k.is; quiet = (k.enters, a, k.quiet); fits = k.fits; sides = k.sides }

  module _ {start : ℕ} (at : get_or stack (d - 1) None ≡ Some start) where
    pub stays-first : (b : Bool) → b ≡ reduces (get_or out start 0) (get_or scratch i 0) → b ≡ false → Standing w out scratch stack (place o i d)
    stays-first b e y =
        stays
        (ap (λ (j : ℕ). reduces j (tag (part_first f t))) (sym (tag_is under at))
        ∙ ap (λ (j : ℕ). reduces (get_or out start 0) j) (ap tag (first-is f t (none_passed under at)) ∙ sym (at_tag scratch i t stands_at))
        ∙ sym e
        ∙ y)

    pub back-room : (start ≤ o) × (o - start ≤ i) × (o ≤ length out) × (i - (o - start) + (o - start) ≤ length scratch)
    back-room =
        let a = start-before under at in
        let b = short in
        let e = k.sides.inside in
        let g = k.sides.scratch-room in
        let h = k.sides.room in
        (omega arith, omega arith, omega arith, omega arith)

    -- its head, in the output
    head-is : slice start o out ≡ before f
    head-is = ap (λ (z : Bytes). drop start z) k.sides.left ∙ drop_at (lefts c) (before f) start (sym (started under at))

    pub wakes : {scratch₁ : List ℕ} {p : ℕ} → Wrote scratch (i - (o - start)) (slice start o out) scratch₁ p → Standing w out scratch₁ stack (place start (i - (o - start)) (d - 1))
    wakes {scratch₁} {p} v =
        let u : Wrote scratch (i - (o - start)) (before f) scratch₁ p = rw head-is at v in
        let s = k.sides in
        let r = back-room in
        let n : length (before f) ≡ o - start = omega (arith, started under at, s.long, length-append (lefts c) (before f)) in
        let e : p ≡ i = u.ends ∙ omega (arith, n, r) in
        let g : length scratch₁ ≡ length scratch = ap (λ (z : Bytes). length z) u.holds ∙ length-sets scratch (i - (o - start)) (before f) in
        record {
          above = c;
          at = fill f t;
          is = k.is;
          quiet = k.quiet;
          fits = k.fits;
          sides =
              record {
                left = sym (take-take start o out r.0) ∙ ap (λ (z : Bytes). take start z) s.left ∙ take_at (lefts c) (before f) start (sym (started under at));
                long = started under at;
                right =
                    wrote_right u (omega (arith, n, r)) ∙ ap (λ (j : ℕ). before f ++ drop j scratch) e
                    ∙ ap (λ (z : Bytes). before f ++ z) (s.right ∙ sym (append_assoc (encode t) (behind f) (rights c)))
                    ∙ sym (append_assoc (before f) (encode t ++ behind f) (rights c))
                    ∙ ap (λ (z : Bytes). z ++ rights c) (sym (fill-encode f t));
                inside = omega (arith, s.inside, g);
                held = s.held.1;
                depth = omega (arith, s.depth);
                room = s.room;
                scratch-room = omega (arith, s.scratch-room, g);
                stack-room = s.stack-room;
              };
        }
