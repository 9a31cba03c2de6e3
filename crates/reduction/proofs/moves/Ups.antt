-- Up from a term that has no step: to the second part of the node above, or behind that node, whose other parts go over. Assumes nothing.
use Prim.Native.Nat.{ℕ, suc, ◌+◌, ◌-◌, ◌≤◌}
use mathlib.Core.Path.{◌≡◌, sym, subst, ap, ◌∙◌}
use mathlib.Core.List.{List, [], ◌∷◌, ◌++◌, append_assoc}
use native.Mathlib.Omega.{arith}
use lib.ListN.{length, set, get_or, length-append, length-set}
use lib.Seq.{length-sets, slice}
use Rattle.std.specs.Prelude.{Option, Some as Starts, None}
use Rattle.rules.specs.Basic.{Bytes}
use Rattle.rules.specs.Term.{Term, encode}
use Rattle.rules.specs.Step.{normal, step}
use Rattle.buffer.specs.Wrote.{Wrote}
use Rattle.buffer.specs.Writing.{slice_is, wrote_none}
use Rattle.term.specs.Node.{encode_all, parts_after}
use Rattle.term.specs.Place.{TermsAt}
use Rattle.term.proofs.node.Names.{drop_app, long}
use Rattle.term.proofs.node.Terms.{Some, SkipIs}
use Rattle.redex.specs.Searched.{enters_after}
use Rattle.reduction.proofs.moves.Places.{place}
use Rattle.reduction.specs.Hole.{Hole, fill, hole_tag, passed, ahead, before, behind, Above, plug, lefts, rights}
use Rattle.reduction.specs.Quiet.{Quiet}
use Rattle.reduction.specs.Standing.{Marks, mark, Standing, Done, Reaches}
use Rattle.reduction.specs.declared.place.Place.{Place}
use Rattle.reduction.proofs.moves.Holes.{fill-encode}
use Rattle.reduction.proofs.moves.Onward.{Follows, second, last, follows, ahead-count, second-before, second-behind}
use Rattle.reduction.proofs.moves.Buffers.{wrote-left, held-set}
use Rattle.reduction.proofs.moves.Marks.{not_first, none_ahead, none_passed, tag_is}
use Rattle.reduction.proofs.moves.Tops.{Top, whole-short, in_stack, under}

module _ {w : Term} {out scratch : List ℕ} {stack : Marks} {o i d : ℕ} (k : Top w out scratch stack o i d) where
  abbrev f : Hole
  f = k.hole

  abbrev c : Above
  c = k.rest

  abbrev t : Term
  t = k.part

  -- the node is the last part's
  rests : (enters_after (hole_tag f) ≡ 2 → passed f ≡ [] → ⊥) → step (fill f t) ≡ normal
  rests h = go (follows f t k.enters)
    where
      go : Follows f t → step (fill f t) ≡ normal
      go (second g b e s) = absurd (h e s.first)
      go (last e l) = l k.sleeps k.none

  joined : ((lefts c ++ before f) ++ encode t) ++ behind f ≡ lefts c ++ encode (fill f t)
  joined =
      append_assoc (lefts c ++ before f) (encode t) (behind f)
      ∙ append_assoc (lefts c) (before f) (encode t ++ behind f)
      ∙ ap (λ (z : Bytes). lefts c ++ z) (sym (fill-encode f t))

  behind-room : o + length (behind f) ≤ length out
  behind-room = omega (arith, whole-short k, long scratch (behind f) (rights c) i k.sides.right, k.sides.room)

  -- behind the node
  module _ (e : step (fill f t) ≡ normal) {out₁ : List ℕ} {m p : ℕ} (v : Wrote out o (behind f) out₁ p) (n : m ≡ i + length (behind f)) where
    up : Done w out₁ scratch stack (place p m (d - 1))
    up =
        let s = k.sides in
        record {
          above = c;
          at = fill f t;
          is = k.is;
          quiet = k.quiet;
          none = e;
          fits = k.fits;
          sides =
              record {
                left = wrote-left v behind-room ∙ ap (λ (z : Bytes). z ++ behind f) s.left ∙ joined;
                long = v.ends ∙ ap (λ (j : ℕ). j + length (behind f)) s.long ∙ sym (length-append ((lefts c ++ before f) ++ encode t) (behind f)) ∙ ap (λ (z : Bytes). length z) joined;
                right = drop_app (behind f) (rights c) scratch i m s.right n;
                inside = omega (arith, n, s.inside, long scratch (behind f) (rights c) i s.right);
                held = s.held.1;
                depth = omega (arith, s.depth);
                room = omega (arith, s.room, ap (λ (z : Bytes). length z) v.holds, length-sets out o (behind f));
                scratch-room = s.scratch-room;
                stack-room = s.stack-room;
              };
        }

  -- the hole is the second part
  pub from_second : get_or stack (d - 1) None ≡ None → Done w out scratch stack (place o i (d - 1))
  from_second e =
      let a : ahead f ≡ [] = none_ahead (under k) e in
      let b : behind f ≡ [] = ap (λ (z : List Term). encode_all z) a in
      up (rests (λ x q. not_first (under k) e q)) (subst (λ (z : Bytes). Wrote out o z out o) (sym b) (wrote_none out o)) (omega (arith, ap (λ (z : Bytes). length z) b))

  module _ {start : ℕ} (at : get_or stack (d - 1) None ≡ Starts start) where
    module _ (n : ℕ) (en : n ≡ enters_after (get_or out start 0)) where
      enters : n ≡ enters_after (hole_tag f)
      enters = en ∙ ap (λ (j : ℕ). enters_after j) (tag_is (under k) at)

      -- on to the second part
      pub to-second : n ≡ 2 → Standing w out scratch (set stack (d - 1) None) (place o i d)
      to-second z = go (follows f t k.enters)
        where
          go : Follows f t → Standing w out scratch (set stack (d - 1) None) (place o i d)
          go (last e l) = absurd (omega (arith, e (none_passed (under k) at), enters, z))
          go (second g b e s) =
              let v = k.sides in
              let q : (lefts c ++ before f) ++ encode t ≡ lefts c ++ before g = append_assoc (lefts c) (before f) (encode t) ∙ ap (λ (y : Bytes). lefts c ++ y) (sym (second-before s)) in
              record {
                above = g ∷ c;
                at = b;
                is = k.is ∙ ap (λ (y : Term). plug c y) (sym s.same);
                quiet = (s.enters k.none, s.sleeps k.sleeps, subst (λ (y : Term). Quiet c y) (sym s.same) k.quiet);
                fits = k.fits;
                sides =
                    record {
                      left = v.left ∙ q;
                      long = v.long ∙ ap (λ (y : Bytes). length y) q;
                      right = v.right ∙ second-behind s (rights c);
                      inside = v.inside;
                      held = held-set stack g c (d - 1) None (omega (arith, v.depth)) (in_stack k) (ap (λ (y : List Term). mark (length y) (length (lefts c))) (sym s.then)) v.held.1;
                      depth = omega (arith, v.depth);
                      room = v.room;
                      scratch-room = v.scratch-room;
                      stack-room = omega (arith, v.stack-room, length-set {A = Option ℕ} stack (d - 1) None);
                    };
              }

      -- or the others go over
      module _ (p : ℕ) (ep : p ≡ parts_after (get_or out start 0)) where
        count : p ≡ suc (length (ahead f))
        count = ep ∙ ap (λ (j : ℕ). parts_after j) (tag_is (under k) at) ∙ ahead-count f (none_passed (under k) at)

        pub some-part : 1 ≤ p
        some-part = omega (arith, count)

        row : TermsAt scratch i (p - 1) (ahead f)
        row = record { many = omega (arith, count); rest = rights c; bytes = k.sides.right }

        pub some-row : Some scratch i (p - 1)
        some-row = (ahead f, row)

        module _ (m : ℕ) (sk : SkipIs scratch i (p - 1) m) where
          next : m ≡ i + length (behind f)
          next = sk (ahead f) row

          pub up_room : (i ≤ m) × (m ≤ length scratch) × (o + (m - i) ≤ length out)
          up_room =
              let l = long scratch (behind f) (rights c) i k.sides.right in
              let h = k.sides.inside in
              (omega (arith, next), omega (arith, next, l, h), omega (arith, next, behind-room))

          pub from_first : (n ≡ 2 → ⊥) → {out₁ : List ℕ} {q : ℕ} → Wrote out o (slice i m scratch) out₁ q → Done w out₁ scratch stack (place q m (d - 1))
          from_first nz v =
              let e : slice i m scratch ≡ behind f = ap (λ (j : ℕ). slice i j scratch) next ∙ slice_is i scratch (behind f) (rights c) k.sides.right in
              up (rests (λ x q. nz (enters ∙ x))) (rw e at v) next

-- a climb has come to i
pub record Climbing (scratch out₀ : List ℕ) (stack₀ : Marks) (from : Place) (out : List ℕ) (stack : Marks) (o i d : ℕ) : Type 0 where
  pub same_out : length out ≡ length out₀
  pub same-stack : length stack ≡ length stack₀
  pub past : from.i ≤ i
  pub carries : (w : Term) → Done w out₀ scratch stack₀ from → Done w out scratch stack (place o i d)

-- the search goes on where it stands
pub goes_on : {w : Term} {out scratch : List ℕ} {stack : Marks} {o i d k : ℕ} (at : ℕ) → at ≤ i → k ≡ d → Standing w out scratch stack (place o i d)
    → Reaches w out scratch stack at (record { o = o; i = i; depth = k })
goes_on at h e s = record { stands = rw e s; past = h }
