-- A part that stays is smaller than its redex, so it fits; at the end of the redex it is not touched. Assumes nothing.
use Prim.Native.Nat.{ℕ, ◌+◌, ◌-◌, ◌≤◌}
use mathlib.Core.Path.{◌≡◌, refl, ap, ◌∙◌}
use mathlib.Core.Option.{none}
use mathlib.Core.List.{[], ◌∷◌}
use native.Mathlib.Omega.{arith}
use lib.ListN.{length}
use lib.Seq.{slice}
use Rattle.rules.specs.Basic.{Bytes}
use Rattle.rules.specs.Limits.{limits, output_room}
use Rattle.rules.specs.Term.{Term, one, two, One, Two, pair, encode, nodes, size}
use Rattle.rules.specs.declared.Rule.{Rule}
use Rattle.buffer.specs.Wrote.{Wrote}
use Rattle.term.specs.Place.{TermAt}
use Rattle.term.proofs.node.Terms.{at-end, first, others}
use Rattle.buffer.specs.Writing.{slice_is}
use Rattle.term.specs.Measured.{Measured, MeasuredTwo}
use Rattle.term.specs.declared.span.Extent.{Extent}
use Rattle.term.specs.declared.span.Two.{Two as Spans}
use Rattle.term.proofs.span.Rows.{size-one, InTwo, a_at, of_pair, of_two, of_one}
use Rattle.contraction.specs.Stays.{Stays}
use Rattle.contraction.specs.Contracted.{Redex, Contracts, becomes}
use Rattle.std.specs.Prelude.{Some}
use Rattle.contraction.proofs.part.Standing.{inside, all-written}
use Rattle.contraction.proofs.part.Smaller.{smaller-fits}

module _ {s : Bytes} {at n l : ℕ} {t : Term} (j : Redex s at n l t) where
  -- at the end of the redex
  pub stays : {p m : ℕ} {u : Term} → TermAt s p u → at + size t ≡ p + size u → at ≤ p → nodes u ≤ nodes t → m ≡ n - nodes t + nodes u → Stays t (size u)
      → (rule : Rule) (made : Bytes) → Contracts s at n l t rule none u made (Some (record { rule = rule; size = 0; end = p; nodes = m }))
  stays {p} {m} {u} w e h le em so rule made =
      let d : at + size t - p ≡ size u = omega arith in
      becomes _ (smaller-fits j u le (omega arith)) refl
      (record {
        rule = refl;
        count = em;
        inside = omega arith;
        written = omega arith;
        bytes = ap (λ (k : ℕ). slice p k s) e ∙ slice_is p s (encode u) w.rest w.bytes;
        stays = rw d so;
      })

  module _ {from heads : ℕ} {a b : Term} (i : InTwo s at from heads t a b) where
    -- the second of two parts, of which the first is gone
    module _ {r : Extent} (m : Measured from a r) where
      pub gone-nodes : heads + r.nodes ≤ n
      gone-nodes = omega (arith, m.nodes, i.count, j.nodes-in)

      pub second-stays : Stays t (size b) → (rule : Rule) (made : Bytes) → Contracts s at n l t rule none b made (Some (record { rule = rule; size = 0; end = r.next; nodes = n - heads - r.nodes }))
      second-stays so rule made =
          stays (first s r.next 1 b [] (others s from 2 a (b ∷ []) i.row r.next m.next)) (omega (arith, i.ends, m.next)) (omega (arith, i.past, m.next))
          (omega (arith, i.count)) (omega (arith, i.count, m.nodes, j.nodes-in)) so rule made

    pub first_part : TermAt s from a
    first_part = first s from 2 a (b ∷ []) i.row

    -- the first of two parts is written
    module _ {r : Spans} (m : MeasuredTwo from a b r) where
      pub kept-nodes : heads + r.b ≤ n
      kept-nodes = omega (arith, m.b-nodes, i.count, j.nodes-in)

      pub first-room : {room : ℕ} → output_room limits ≤ room → (from ≤ r.second) × (r.second ≤ length s) × (0 + (r.second - from) ≤ room)
      first-room h = (omega (arith, m.second), omega (arith, m.second, at-end s from a (a_at i m)), omega (arith, m.second, i.ends, i.past, j.bytes-in, j.short))

      pub first-kept : Stays t 0 → {rule : Rule} {made made' : Bytes} {z : ℕ} → output_room limits ≤ length made → Wrote made 0 (slice from r.second s) made' z
          → Contracts s at n l t rule none a made' (Some (record { rule = rule; size = z; end = r.end; nodes = n - heads - r.b }))
      first-kept so {rule} {made} {made'} {z} h x =
          let w = a_at i m in
          let e : slice from r.second s ≡ encode a = ap (λ (k : ℕ). slice from k s) m.second ∙ slice_is from s (encode a) w.rest w.bytes in
          let y : Wrote made 0 (encode a) made' z = rw e at x in
          let d : n - heads - r.b ≡ n - nodes t + nodes a = omega (arith, m.b-nodes, i.count, j.nodes-in) in
          let g : r.end ≡ at + size t = omega (arith, m.second, m.end, i.ends) in
          becomes _ (smaller-fits j a (omega (arith, i.count)) (omega (arith, i.ends, i.past))) refl
          (all-written j a y (omega (arith, y.ends, i.ends, i.past, j.bytes-in, j.short)) g d so)

module _ {s : Bytes} {at n l : ℕ} where
  -- Fst and Snd of Pair, and Discard of Promote
  pub in_pair : {k : One} {a b : Term} (j : Redex s at n l (one k (two pair a b))) → InTwo s at (at + 2) 2 (one k (two pair a b)) a b
  in_pair j = of_pair _ _ _ j.stands

  pub in_two : {k : Two} {a b : Term} (j : Redex s at n l (two k a b)) → InTwo s at (at + 1) 1 (two k a b) a b
  in_two j = of_two _ _ _ j.stands

  -- Derelict of Promote
  module _ {k h : One} {v : Term} (j : Redex s at n l (one k (one h v))) where
    long : size (one k (one h v)) ≡ 2 + size v
    long = omega (arith, size-one k (one h v), size-one h v)

    pub one-bounds : (at + 2 ≤ length s) × (2 ≤ n)
    unfolding nodes
    one-bounds = (omega (arith, inside j, long), omega (arith, j.nodes-in))

    pub one-stays : Stays (one k (one h v)) (size v) → (rule : Rule) (made : Bytes) → Contracts s at n l (one k (one h v)) rule none v made (Some (record { rule = rule; size = 0; end = at + 2; nodes = n - 2 }))
    unfolding nodes
    one-stays so rule made = stays j (of_one k h v j.stands) (omega (arith, long)) (omega arith) (omega arith) (omega (arith, j.nodes-in)) so rule made
