-- Two substitutions in turn: the first makes a term by itself, and the second goes on from there. A substitution takes no nodes away, so
-- where the first has too many in the whole, the second has. Assumes nothing.
use Prim.Native.Nat.{ℕ, ◌+◌, ◌-◌, ◌*◌, ◌<◌, ◌≤◌, ◌^◌}
use mathlib.Core.Path.{◌≡◌, refl, sym, ap, ◌∙◌}
use mathlib.Core.Bool.{Bool, true, false, ◌&&◌}
use mathlib.Core.Option.{none, some}
use Rattle.std.specs.Prelude.{Option, Some, None}
use mathlib.Core.List.{List}
use native.Mathlib.Nat.{mul-le-mul_left}
use native.Mathlib.Omega.{arith}
use lib.ListN.{length, take}
use borrow.Author.Tests.{lt-leb, leb-true, leb-false}
use lib.Seq.{length-sets}
use Rattle.std.specs.Prelude.{if◌then◌else◌}
use Rattle.rules.specs.Basic.{Bytes, ◌≤?◌}
use Rattle.rules.specs.Limits.{limits, output_room}
use Rattle.rules.specs.Name.{Name}
use Rattle.rules.specs.Term.{Term, encode, nodes, size, fits}
use Rattle.rules.specs.Free.{occurrences}
use Rattle.rules.specs.Substitution.{subst}
use Rattle.laws.specs.size.SubstSize.{subst-nodes, occurrences-nodes}
use Rattle.laws.specs.size.Parts.{some-node}
use Rattle.laws.specs.reading.Fits.{fits-yes}
use Rattle.buffer.specs.Wrote.{Wrote}
use Rattle.substitution.specs.Places.{places, Row}
use Rattle.substitution.proofs.place.Writes.{wrote-part}
use Rattle.substitution.proofs.place.Finds.{count-within}
use Rattle.substitution.specs.Beside.{fits_beside}
use Rattle.substitution.specs.Tally.{moved, then_moved}
use Rattle.substitution.specs.Put.{Putting, Turns, Puts, written_after}
use Rattle.substitution.specs.declared.tally.Tally.{Tally}
use Rattle.substitution.specs.declared.put.Written.{Written}
use Rattle.substitution.proofs.put.Puts.{beside-yes, beside-many, Went, went, stuck}

no-fewer : (y : Name) (w u : Term) → nodes u ≤ nodes (subst y w u)
no-fewer y w u =
    let h : occurrences y u * 1 ≤ occurrences y u * nodes w = mul-le-mul_left (occurrences y u) (some-node w) in
    omega (arith, subst-nodes y w u)

not-both : (a : Bool) {b : Bool} → b ≡ false → (a && b) ≡ false
not-both true e = e
not-both false e = refl

fits-long : (u : Term) → limits.bytes < size u → fits limits u ≡ false
unfolding fits
fits-long u h = not-both (nodes u ≤? limits.nodes) (lt-leb (size u) limits.bytes h)

-- what is too large halfway is too large in the end
too_large : (others rest : ℕ) (u z : Term) → fits_beside others 0 u ≡ false → nodes u ≤ nodes z → (fits limits u && fits_beside others rest z) ≡ false
too_large others rest u z e h = go (others + nodes u ≤? limits.nodes) refl (size u ≤? limits.bytes) refl
  where
    go : (b : Bool) → (others + nodes u ≤? limits.nodes) ≡ b → (d : Bool) → (size u ≤? limits.bytes) ≡ d → (fits limits u && fits_beside others rest z) ≡ false
    go false q d r = not-both (fits limits u) (beside-many others rest z (omega (arith, leb-false (others + nodes u) limits.nodes q)))
    go true q false r = rw (fits-long u (leb-false (size u) limits.bytes r))
    go true q true r =
        let y = beside-yes others 0 u (leb-true (others + nodes u) limits.nodes q) (omega (arith, leb-true (size u) limits.bytes r)) in
        absurd (let f : false ≡ true = cc in let k : ◌≡◌ {A = ℕ} 0 1 = cc in omega arith)

-- ---- what both moved

after-either : (a b : Tally) (c : Bool) (n : ℕ) {w w' : Written} → Some w ≡ (if c then Some (record { tally = b; nodes = n }) else None) → w' ≡ written_after a w
    → Some w' ≡ (if c then Some (record { tally = then_moved a b; nodes = n }) else None)
after-either a b true n {w} {w'} e f = let is : w ≡ record { tally = b; nodes = n } = cc in rw (f, is)
after-either a b false n e f = absurd (let z : ◌≡◌ {A = ℕ} 0 1 = cc in omega arith)

-- ---- one and then the other

module _ {body : Bytes} {row : List ℕ} {many gap : ℕ} {a : Bytes} {k : ℕ} {b : Bytes} {m n l : ℕ} {x : Name} {e v w : Term} (j : Turns body row many gap a k b m n l x e v w) where
  abbrev others : ℕ
  others = n - nodes e

  abbrev rest : ℕ
  rest = l - size e

  abbrev u : Term
  u = subst x v e

  body-long : length body ≡ size e
  body-long = ap (λ (z : Bytes). length z) j.body_is

  pub body-within : (length body ≤ l) × (many ≤ length row)
  body-within = (omega (arith, body-long, j.bytes-in), j.held.inside)

  pub first-job : Putting body (take many row) gap a k n (length body) x e v
  first-job =
      record {
        body_is = j.body_is;
        places-are = j.held.are;
        gap_is = j.gap_is;
        value-is = j.first;
        nodes-in = j.nodes-in;
        bytes-in = omega (arith, body-long);
        few = j.few;
        short = omega (arith, body-long, j.bytes-in, j.short);
      }

  -- what is moved for the first, at the most
  first-few : ((moved x v e).runs ≤ limits.nodes + 1) × ((moved x v e).values ≤ limits.nodes)
  first-few = (omega (arith, occurrences-nodes x e, j.nodes-in, j.few), omega (arith, occurrences-nodes x e, j.nodes-in, j.few))

  module _ {half₀ half₁ : Bytes} {r : Option Written} (p : Puts (n - nodes e) (length body - size e) none (moved x v e) (subst x v e) half₀ half₁ r) where
    half-made : Puts others 0 none (moved x v e) u half₀ half₁ r
    half-made = let z : length body - size e ≡ 0 = omega (arith, body-long) in rw z at p

    pub half-outgrown : (y : Name) (out : Bytes) → r ≡ None → Puts others rest (some u) (then_moved (moved x v e) (moved y w u)) (subst y w u) out out None
    half-outgrown y out is =
        let q = too_large others rest u (subst y w u) (stuck others (moved x v e) u half₀ half₁ r half-made is).0 (no-fewer y w u) in
        record { says = rw q; leaves = rw q }

    module _ {h : Written} (is : r ≡ Some h) where
      half : Went others (moved x v e) u half₀ half₁ h.tally h.nodes
      half = went others (moved x v e) u half₀ half₁ r half-made h is

      fit : fits limits u ≡ true
      fit = fits-yes limits u (omega (arith, half.fit)) (omega (arith, half.fit))

      module _ {c : ℕ} (il : c ≡ h.tally.past) where
        half-long : c ≡ size u
        half-long = il ∙ ap (λ (z : Tally). z.past) half.moved

        pub half-short : c ≤ limits.bytes
        half-short = omega (arith, half-long, half.fit)

        module _ (room : output_room limits ≤ length half₀) where
          pub half_is : take c half₁ ≡ encode u
          half_is = wrote-part (record { holds = half.leaves; ends = half-long ∙ omega arith }) (omega (arith, half-short))

          pub half-inside : c ≤ length half₁
          half-inside = omega (arith, half-short, ap (λ (z : Bytes). length z) half.leaves, length-sets half₀ 0 (encode u), room)

          pub half-within : (nodes u ≤ limits.nodes) × (length (take c half₁) ≤ limits.bytes)
          half-within = (omega (arith, half.fit), omega (arith, ap (λ (z : Bytes). length z) half_is, half.fit))

          module _ (y : Name) {row₁ row₂ : List ℕ} {count : ℕ} (long : Row row₁) (found : Wrote row₁ 0 (places y u 0) row₂ count) where
            pub second-within : count ≤ length row₁
            second-within = count-within y u (omega (arith, half.fit)) long found

            pub second-job : {gap : ℕ} → gap ≡ 2 + length y → Putting (take c half₁) (take count row₂) gap b m h.nodes (l - length body + c) y u w
            second-job gap_is =
                record {
                  body_is = half_is;
                  places-are = wrote-part found second-within;
                  gap_is = gap_is;
                  value-is = j.second;
                  nodes-in = omega (arith, half.count);
                  bytes-in = omega (arith, half-long);
                  few = omega (arith, half.count, half.fit);
                  short = omega (arith, half-long, half.fit, j.short);
                }

        module _ (y : Name) {out out' : Bytes} {q : Option Written} (d : Puts (h.nodes - nodes u) (l - length body + c - size u) none (moved y w u) (subst y w u) out out' q) where
          second-made : Puts others rest none (moved y w u) (subst y w u) out out' q
          second-made =
              let eo : h.nodes - nodes u ≡ others = omega (arith, half.count) in
              let er : l - length body + c - size u ≡ rest = omega (arith, half-long, body-long, j.bytes-in) in
              rw (eo, er) at d

          pub countable : {z : Written} → q ≡ Some z → (h.tally.runs + z.tally.runs < 2 ^ 64) × (h.tally.values + z.tally.values < 2 ^ 64)
          countable {z} q_is = go (fits_beside others rest (subst y w u)) (sym q_is ∙ second-made.says)
            where
              go : (f : Bool) → Some z ≡ (if f then Some (record { tally = moved y w u; nodes = others + nodes (subst y w u) }) else None) → (h.tally.runs + z.tally.runs < 2 ^ 64) × (h.tally.values + z.tally.values < 2 ^ 64)
              go true s = let is : z.tally ≡ moved y w u = cc in rw (is, half.moved) (omega (arith, first-few, occurrences-nodes y u, half.fit), omega (arith, first-few, occurrences-nodes y u, half.fit))
              go false s = absurd (let z : ◌≡◌ {A = ℕ} 0 1 = cc in omega arith)

          pub both-written : {z z' : Written} → q ≡ Some z → z' ≡ written_after h.tally z → Puts others rest (some u) (then_moved (moved x v e) (moved y w u)) (subst y w u) out out' (Some z')
          both-written {z} {z'} q_is after =
              record {
                says = rw fit (after-either (moved x v e) (moved y w u) (fits_beside others rest (subst y w u)) _ (sym q_is ∙ second-made.says) (after ∙ ap (λ (t : Tally). written_after t z) half.moved));
                leaves = rw fit second-made.leaves;
              }

          pub second-outgrown : q ≡ None → Puts others rest (some u) (then_moved (moved x v e) (moved y w u)) (subst y w u) out out' None
          second-outgrown q_is = go (fits_beside others rest (subst y w u)) refl (sym q_is ∙ second-made.says)
            where
              go : (f : Bool) → fits_beside others rest (subst y w u) ≡ f → ◌≡◌ {A = Option Written} None (if f then Some (record { tally = moved y w u; nodes = others + nodes (subst y w u) }) else None)
                  → Puts others rest (some u) (then_moved (moved x v e) (moved y w u)) (subst y w u) out out' None
              go true is s = absurd (let z : ◌≡◌ {A = ℕ} 0 1 = cc in omega arith)
              go false is s = record { says = rw (fit, is); leaves = rw (fit, is) (rw is at second-made.leaves) }
