-- What App of Abs hands on: the body, and the argument that goes into it or stays, where they stand. Assumes nothing.
use Prim.Native.Nat.{ℕ, ◌+◌, ◌-◌, ◌≤◌}
use mathlib.Core.Path.{◌≡◌, refl, sym, ap, ◌∙◌}
use mathlib.Core.Bool.{Bool, true, false}
use mathlib.Core.Option.{none}
use mathlib.Core.List.{List, [], ◌∷◌, ◌++◌}
use native.Mathlib.Omega.{arith}
use lib.ListN.{length, take, drop, length-take, length-drop}
use lib.Seq.{slice}
use Rattle.rules.specs.Basic.{Bytes}
use Rattle.rules.specs.Limits.{limits, output_room}
use Rattle.rules.specs.Name.{Name}
use Rattle.rules.specs.Term.{Term, two, abs, app, encode, nodes, size}
use Rattle.rules.specs.Substitution.{subst}
use Rattle.rules.specs.declared.Rule.{Rule}
use Rattle.buffer.specs.Wrote.{Wrote}
use Rattle.term.specs.Place.{TermAt}
use Rattle.term.proofs.node.Names.{AfterIs}
use Rattle.term.proofs.node.Terms.{at-end, first, others}
use Rattle.substitution.specs.Places.{places}
use Rattle.substitution.proofs.place.Writes.{wrote-part}
use Rattle.buffer.specs.Writing.{slice_is, wrote-length}
use Rattle.term.specs.Measured.{Measured}
use Rattle.term.specs.declared.span.Extent.{Extent}
use Rattle.term.proofs.span.Rows.{in_app, past-name, name-is}
use Rattle.contraction.specs.Stays.{one_at_end, ends_in, of-app, of-app-end}
use Rattle.contraction.specs.Contracted.{Redex, Contracts, becomes}
use Rattle.contraction.specs.Parts.{Kept, Placing}
use Rattle.contraction.specs.declared.part.BodyAt.{BodyAt}
use Rattle.std.specs.Prelude.{Some}
use Rattle.contraction.proofs.part.Standing.{inside}
use Rattle.contraction.proofs.app.Tail.{last-place, tail-bytes, tail-nodes, tail-some, tail-long, front_long, front_at}
use Rattle.contraction.proofs.part.Smaller.{part-is, kept_there, smaller-fits}

module _ {s : Bytes} {at n l : ℕ} where
  -- App of Abs
  module _ {x : Name} {e a : Term} (j : Redex s at n l (two app (abs x e) a)) {body : ℕ} (g : AfterIs s (at + 2) 1 body) where
    abbrev t : Term
    t = two app (abs x e) a

    pub app-body : TermAt s body e
    app-body = first s body 2 e (a ∷ []) (in_app j.stands g).row

    pub app-few : nodes e ≤ limits.nodes
    app-few = omega (arith, (in_app j.stands g).count, j.nodes-in, j.few)

    pub app-bounds : (at + 3 ≤ body) × (body ≤ length s) × (length s ≤ body + limits.bytes) × (at + 3 ≤ length s)
    app-bounds =
        let h = past-name j.stands g in
        let b = at-end s body e app-body in
        (h, omega arith, omega (arith, h, j.behind, j.short), omega (arith, h))

    module _ {row : List ℕ} {f : BodyAt} (k : Kept body (take (body - (at + 3)) (drop (at + 3) s)) e row f) where
      found : Kept body x e row f
      found = rw (name-is j.stands g) at k

      pub app-argument : TermAt s f.end a
      app-argument = let i = in_app j.stands g in first s f.end 1 a [] (others s body 2 e (a ∷ []) i.row f.end k.next)

      pub record Bounds : Type 0 where
        pub name : at + 3 ≤ body
        pub gap_is : f.kept.gap ≡ 2 + length x
        pub gap-small : f.kept.gap ≤ limits.bytes
        pub past : body ≤ f.end
        pub next : f.end ≡ body + size e
        pub ends : f.end + size a ≡ at + size t
        pub inside : f.end + size a ≤ length s
        pub count : nodes t ≡ 2 + (nodes e + nodes a)
        pub held_in : f.kept.count ≤ length row

      pub app-numbers : Bounds
      app-numbers =
          let i = in_app j.stands g in
          let h = past-name j.stands g in
          let b = inside j in
          let q : length x ≡ body - (at + 3) = sym (ap (λ (z : Bytes). length z) (name-is j.stands g)) ∙ simp (length-take, length-drop) (omega (arith, app-bounds)) in
          record {
            name = h;
            gap_is = found.gap_is;
            gap-small = omega (arith, found.gap_is, q, k.next, i.ends, j.bytes-in, j.short);
            past = omega (arith, k.next);
            next = k.next;
            ends = omega (arith, k.next, i.ends);
            inside = omega (arith, k.next, i.ends);
            count = i.count;
            held_in = k.held.inside;
          }

      -- whether the body ends in its one place
      pub ends-in : {q : Bool} → q ≡ one_at_end (take f.kept.count row) f.kept.gap (f.end - body) → q ≡ ends_in x e
      ends-in is =
          let b = app-numbers in
          let d : f.end - body ≡ size e = omega (arith, b.next) in
          rw (found.held.are, d, b.gap_is) at is

      -- the argument goes in
      pub app-placing : {r : Extent} (m : Measured f.end a r) → ends_in x e ≡ false
          → Placing s at r.next f (record { from = f.end; extent = r }) (n - 2 - r.nodes) l row n t x e a
      app-placing m goes_in =
          let i = in_app j.stands g in
          let b = app-numbers in
          record {
            redex = j;
            ends = omega (arith, m.next, b.ends);
            body_at = rw k.from app-body;
            body-in = omega (arith, i.ends, i.past);
            found = kept_there found;
            value = part-is j app-argument m (omega (arith, i.count)) (omega (arith, i.ends, i.past));
            nodes-in = omega (arith, i.count);
            count = omega (arith, m.nodes, i.count, j.nodes-in);
            stays = of-app x e a goes_in;
          }

      -- the argument stays
      module _ (ends_so : ends_in x e ≡ true) where
        last : (places x e 0 ≡ (size e - (2 + length x)) ∷ []) × (2 + length x ≤ size e)
        last = last-place (places x e 0) (2 + length x) (size e) ends_so

        pub tail-room : {room : ℕ} → output_room limits ≤ room → (f.kept.gap ≤ f.end) × (body ≤ f.end - f.kept.gap) × (f.end - f.kept.gap ≤ length s) × (0 + (f.end - f.kept.gap - body) ≤ room)
        tail-room h =
            let b = app-numbers in
            let y = last.1 in
            (omega (arith, b), omega (arith, b), omega (arith, b), omega (arith, b, j.bytes-in, j.short))

        pub tail-few : 3 ≤ n
        tail-few = omega (arith, tail-some x a e last, app-numbers.count, j.nodes-in)

        pub tail-stays : {made made' : Bytes} {z : ℕ} → output_room limits ≤ length made → Wrote made 0 (slice body (f.end - f.kept.gap) s) made' z
            → {rule : Rule} → Contracts s at n l t rule none (subst x a e) made' (Some (record { rule = rule; size = z; end = f.end; nodes = n - 3 }))
        tail-stays {made} {made'} {z} h w {rule} =
            let b = app-numbers in
            let y = last in
            let u : Term = subst x a e in
            let i : f.end - f.kept.gap ≡ body + (size e - (2 + length x)) = omega (arith, b, y.1) in
            let d : slice body (f.end - f.kept.gap) s ≡ take (size e - (2 + length x)) (encode e) =
            ap (λ (k : ℕ). slice body k s) i ∙ front_at x a e y app-body in
            let o : Wrote made 0 (take (size e - (2 + length x)) (encode e)) made' z = rw d at w in
            let c : n - 3 ≡ n - nodes t + nodes u = omega (arith, tail-nodes x a e y, b.count, j.nodes-in) in
            let r = tail-room h in
            let v = app-argument in
            let g : slice f.end (at + size t) s ≡ encode a = ap (λ (k : ℕ). slice f.end k s) (sym b.ends) ∙ slice_is f.end s (encode a) v.rest v.bytes in
            let size_is : at + size t - f.end ≡ size a = omega (arith, b.ends) in
            becomes _ (smaller-fits j u (omega (arith, tail-nodes x a e y, b.count)) (omega (arith, tail-long x a e y, b, y.1))) refl
            (record {
              rule = refl;
              count = c;
              inside = omega (arith, b);
              written = omega (arith, wrote-length o, o.ends, front_long x a e y, r, i);
              bytes =
                  ap (λ (q : Bytes). q ++ slice f.end (at + size t) s) (wrote-part o (omega (arith, o.ends, front_long x a e y, r, i)))
                  ∙ ap (λ (q : Bytes). take (size e - (2 + length x)) (encode e) ++ q) g
                  ∙ sym (tail-bytes x a e y);
              stays = rw size_is (of-app-end x e a ends_so);
            })
