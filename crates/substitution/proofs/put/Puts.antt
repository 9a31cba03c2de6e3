-- A body with a value for a name: its sizes follow from those of the body and the value, and the runs that are spliced are its bytes.
-- Assumes nothing.
use Prim.Native.Nat.{ℕ, ◌+◌, ◌-◌, ◌*◌, ◌<◌, ◌≤◌}
use mathlib.Core.Path.{◌≡◌, refl, sym, ap, ◌∙◌}
use mathlib.Core.Bool.{Bool, true, false}
use mathlib.Core.Option.{none}
use Rattle.std.specs.Prelude.{Option, Some, None}
use mathlib.Core.List.{List}
use native.Mathlib.Omega.{arith}
use lib.ListN.{length}
use lib.Seq.{sets}
use borrow.Author.Tests.{leb-true, le-leb, lt-leb}
use Rattle.std.specs.Prelude.{if◌then◌else◌}
use Rattle.rules.specs.Basic.{Bytes, ◌≤?◌}
use Rattle.rules.specs.Limits.{limits, output_room}
use Rattle.rules.specs.Name.{Name}
use Rattle.rules.specs.Term.{Term, encode, nodes, size}
use Rattle.rules.specs.Free.{occurrences}
use Rattle.rules.specs.Substitution.{subst}
use Rattle.laws.specs.free.Same.{both_true}
use Rattle.laws.specs.reading.Fits.{within}
use Rattle.buffer.specs.Wrote.{Wrote}
use Rattle.substitution.specs.Spliced.{spliced, Splicing, Splices}
use Rattle.substitution.proofs.place.Shapes.{places-many}
use Rattle.substitution.proofs.splice.Splices.{spliced-term, spaced-term}
use Rattle.substitution.proofs.splice.Runs.{tally-is, runs_moved}
use Rattle.substitution.proofs.put.Growths.{Growth, nodes-go, bytes-go, count_small, nodes-after, bytes_after}
use Rattle.substitution.specs.Beside.{fits_beside}
use Rattle.substitution.specs.Tally.{moved}
use Rattle.substitution.specs.Runs.{MovesRuns}
use Rattle.substitution.specs.Put.{Putting, Puts}
use Rattle.substitution.specs.declared.tally.Tally.{Tally}
use Rattle.substitution.specs.declared.put.Written.{Written}

-- ---- what breaks no limit

module _ (others rest : ℕ) (u : Term) where
  pub beside-yes : others + nodes u ≤ limits.nodes → rest + size u ≤ limits.bytes → fits_beside others rest u ≡ true
  unfolding fits_beside
  beside-yes h k = rw (le-leb (others + nodes u) limits.nodes h) (le-leb (rest + size u) limits.bytes k)

  pub beside-within : fits_beside others rest u ≡ true → (others + nodes u ≤ limits.nodes) × (rest + size u ≤ limits.bytes)
  unfolding fits_beside
  beside-within e =
      let h = both_true (others + nodes u ≤? limits.nodes) (rest + size u ≤? limits.bytes) e in
      (leb-true (others + nodes u) limits.nodes h.0, leb-true (rest + size u) limits.bytes h.1)

  pub beside-many : limits.nodes < others + nodes u → fits_beside others rest u ≡ false
  unfolding fits_beside
  beside-many h = rw (lt-leb (others + nodes u) limits.nodes h)

  beside_long : others + nodes u ≤ limits.nodes → limits.bytes < rest + size u → fits_beside others rest u ≡ false
  unfolding fits_beside
  beside_long h k = rw (le-leb (others + nodes u) limits.nodes h) (lt-leb (rest + size u) limits.bytes k)

  outgrown : (t : Tally) (out : Bytes) → fits_beside others rest u ≡ false → Puts others rest none t u out out None
  outgrown t out n = record { says = rw n; leaves = rw n }

-- ---- what the answer tells of a term with no bytes beside it

pub record Went (others : ℕ) (t : Tally) (u : Term) (out out' : Bytes) (t' : Tally) (c : ℕ) : Type 0 where
  pub fit : (others + nodes u ≤ limits.nodes) × (0 + size u ≤ limits.bytes)
  pub moved : t' ≡ t
  pub count : c ≡ others + nodes u
  pub leaves : out' ≡ sets out 0 (encode u)

module _ (others : ℕ) (t : Tally) (u : Term) (out out' : Bytes) (r : Option Written) (d : Puts others 0 none t u out out' r) where
  pub went : (z : Written) → r ≡ Some z → Went others t u out out' z.tally z.nodes
  went z is = go (fits_beside others 0 u) refl d.says d.leaves
    where
      go : (b : Bool) → fits_beside others 0 u ≡ b → r ≡ (if b then Some (record { tally = t; nodes = others + nodes u }) else None) → out' ≡ (if b then sets out 0 (encode u) else out) → Went others t u out out' z.tally z.nodes
      go true y s h =
          let w : z ≡ record { tally = t; nodes = others + nodes u } = cc in
          record { fit = beside-within others 0 u y; moved = ap (λ (z : Written). z.tally) w; count = ap (λ (z : Written). z.nodes) w; leaves = h }
      go false y s h = absurd (let z : ◌≡◌ {A = ℕ} 0 1 = cc in omega arith)

  pub stuck : r ≡ None → (fits_beside others 0 u ≡ false) × (out' ≡ out)
  stuck is = go (fits_beside others 0 u) refl d.says d.leaves
    where
      go : (b : Bool) → fits_beside others 0 u ≡ b → r ≡ (if b then Some (record { tally = t; nodes = others + nodes u }) else None) → out' ≡ (if b then sets out 0 (encode u) else out) → (fits_beside others 0 u ≡ false) × (out' ≡ out)
      go true y s h = absurd (let z : ◌≡◌ {A = ℕ} 0 1 = cc in omega arith)
      go false y s h = (y, h)

-- ---- a body with a value for a name

module _ {body : Bytes} {row : List ℕ} {gap : ℕ} {value : Bytes} {m n l : ℕ} {x : Name} {e v : Term} (j : Putting body row gap value m n l x e v) where
  abbrev others : ℕ
  others = n - nodes e

  abbrev rest : ℕ
  rest = l - size e

  body-long : length body ≡ size e
  body-long = ap (λ (z : Bytes). length z) j.body_is

  abbrev count : ℕ
  count = length row

  many : count ≡ occurrences x e
  many = ap (λ (z : List ℕ). length z) j.places-are ∙ places-many x e 0

  growth : Growth (length body) (nodes e) (count) gap (length value) m x e v
  growth =
      let c = within limits v j.value-is.fits in
      let d : length value ≡ size v = ap (λ (z : Bytes). length z) j.value-is.bytes in
      record {
        bytes-are = body-long;
        nodes-are = refl;
        count-is = many;
        gap_is = j.gap_is;
        value-is = d;
        added_is = j.value-is.count;
        small = (omega (arith, body-long, j.bytes-in, j.short), omega (arith, j.nodes-in, j.few), omega (arith, c, d), omega (arith, c, j.value-is.count));
      }

  pub nodes-room : (count * 1 ≤ n) × (n ≤ 65536) × (count ≤ 65536) × (m ≤ 65536)
  nodes-room = (omega (arith, nodes-go growth, j.nodes-in), omega (arith, j.few), count_small growth, growth.small.3)

  pub bytes-room : (count * gap ≤ l) × (l ≤ 65536) × (count ≤ 65536) × (length value ≤ 65536)
  bytes-room = (omega (arith, bytes-go growth, body-long, j.bytes-in), omega (arith, j.short), count_small growth, growth.small.2)

  result : spliced body value gap 0 row (length body) ≡ encode (subst x v e)
  result = rw (j.places-are, j.value-is.bytes, j.gap_is) (spliced-term x v e body j.body_is)

  module _ {p : ℕ} (ep : p ≡ n - count * 1 + count * m) where
    total : p ≡ others + nodes (subst x v e)
    total = omega (arith, ep, nodes-after growth, nodes-go growth, j.nodes-in)

    pub too_many : {out : Bytes} → limits.nodes < p → Puts others rest none (moved x v e) (subst x v e) out out None
    too_many {out} h = outgrown others rest (subst x v e) (moved x v e) out (beside-many others rest (subst x v e) (omega (arith, total)))

    module _ (few-enough : p ≤ limits.nodes) {q : ℕ} (eq : q ≡ l - count * gap + count * length value) where
      long : q ≡ rest + size (subst x v e)
      long = omega (arith, eq, bytes_after growth, bytes-go growth, body-long, j.bytes-in)

      pub too_long : {out : Bytes} → limits.bytes < q → Puts others rest none (moved x v e) (subst x v e) out out None
      too_long {out} h = outgrown others rest (subst x v e) (moved x v e) out (beside_long others rest (subst x v e) (omega (arith, total)) (omega (arith, long)))

      module _ (short-enough : q ≤ limits.bytes) {out : Bytes} (room : output_room limits ≤ length out) where
        pub splicing : Splicing body row gap value out
        splicing =
            record {
              spaced = rw (j.places-are, j.gap_is) (spaced-term x v e body j.body_is);
              room = omega (arith, ap (λ (z : Bytes). length z) result, long);
            }

        pub put_whole : {out₁ : Bytes} {t : Tally} → Splices body row gap value out out₁ t → Puts others rest none (moved x v e) (subst x v e) out out₁ (Some (record { tally = t; nodes = p }))
        put_whole {out₁} {t} g =
            let w : Wrote out 0 (encode (subst x v e)) out₁ t.past = rw result at g.written in
            let y = beside-yes others rest (subst x v e) (omega (arith, total)) (omega (arith, long)) in
            let k : length row ≡ occurrences x e = many in
            let s : t ≡ moved x v e = tally-is t (g.read ∙ body-long) (omega (arith, w.ends)) (omega (arith, g.runs, k)) (g.values ∙ k) in
            record { says = rw (y, s, total); leaves = rw y w.holds }

-- ---- request (x), of what `put_in` ensures: where it wrote, it moved the runs of the body, and nothing else

pub put-moves-runs : (others rest : ℕ) (x : Name) (v e : Term) (out out' : Bytes) (z : Written) → Puts others rest none (moved x v e) (subst x v e) out out' (Some z) → MovesRuns x v e out out' z.tally
put-moves-runs others rest x v e out out' z d = go (fits_beside others rest (subst x v e)) d.says d.leaves
  where
    go : (b : Bool) → Some z ≡ (if b then Some (record { tally = moved x v e; nodes = others + nodes (subst x v e) }) else None) → out' ≡ (if b then sets out 0 (encode (subst x v e)) else out) → MovesRuns x v e out out' z.tally
    go true s l =
        let w : z ≡ record { tally = moved x v e; nodes = others + nodes (subst x v e) } = cc in
        let n : 0 + size (subst x v e) ≡ size (subst x v e) = omega arith in
        rw w (runs_moved x v e out out' (record { holds = l; ends = sym n }))
    go false s l = absurd (let z : ◌≡◌ {A = ℕ} 0 1 = cc in omega arith)
