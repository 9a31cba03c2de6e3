-- Sizes held at a cap add up as sizes do, and a row's follow from those of its parts. Assumes nothing.
use Prim.Native.Nat.{ℕ, zero, suc, ◌+◌, ◌<◌, ◌≤◌}
use mathlib.Core.Path.{◌≡◌, refl, sym, ap, ◌∙◌}
use mathlib.Core.Bool.{Bool, true, false, ◌&&◌}
use mathlib.Core.List.{List}
use native.Mathlib.Omega.{arith}
use lib.Dec.{ltb, leb}
use lib.ListN.{length, set, length-set}
use lib.Seq.{get_or-set_same, get_or-set_other}
use borrow.Author.Tests.{ltb-true, ltb-false, leb-true, leb-false, le-leb, lt-leb}
use Rattle.rules.specs.Basic.{Bytes}
use Rattle.rules.specs.Limits.{limits}
use Rattle.rules.specs.Term.{Term, encode, nodes, size, fits}
use Rattle.draft.specs.declared.row.Row.{Row}
use Rattle.draft.specs.declared.size.Size.{Size}
use Rattle.draft.specs.Draft.{row_at, Shape, shape_of, named, identity, discarding, letting, branching, copying, wrapping, joining, drafted, Rows, Drafts}
use Rattle.draft.specs.Steady.{drafts, drafts-one, drafts-unit, drafts-trivial}
use Rattle.draft.specs.Heads.{front, parts_of, node_count_of, summed}
use Rattle.draft.specs.Measured.{cap, capped, no_size, size_at, Sized, Countable, Measured}
use Rattle.draft.proofs.write.Shapes.{shaped-size, shaped-nodes}
use Rattle.draft.proofs.write.Opening.{row_opened}

-- a sum of capped sizes
pub capped-sum : (c h a b : ℕ) → capped (summed c h (capped a) (capped b)) ≡ capped (summed c h a b)
capped-sum zero h a b = refl
capped-sum (suc zero) h a b = omega arith
capped-sum (suc (suc zero)) h a b = omega arith
capped-sum (suc (suc (suc c))) h a b = omega arith

-- what is measured is at most the cap
module _ {s : Bytes} {ws : List Row} {n : ℕ} {zs : List Size} (k : Countable ws n zs) (i : ℕ) (h : i < n) (d : Measured s ws n (i + 2) zs) where
  most : (j : ℕ) → j < i + 2 → ((size_at zs j).bytes ≤ cap) × ((size_at zs j).nodes ≤ cap)
  most j l =
      let x = drafts s ws n j k.rows (omega arith) in
      let t = drafted (suc j) s ws j in
      (omega (arith, (d.each j l).bytes t x), omega (arith, (d.each j l).nodes t x))

  pub first-most : ((size_at zs (row_at ws i).first).bytes ≤ cap) × ((size_at zs (row_at ws i).first).nodes ≤ cap)
  first-most = most (row_at ws i).first (k.rows.firsts i h)

  pub second-most : ((size_at zs (row_at ws i).second).bytes ≤ cap) × ((size_at zs (row_at ws i).second).nodes ≤ cap)
  second-most = most (row_at ws i).second (k.rows.seconds i h)

-- a row's sizes from those of its parts
module _ {s : Bytes} {ws : List Row} {n : ℕ} {zs : List Size} (i : ℕ) (w : Rows ws n) (h : i < n) (d : Measured s ws n (i + 2) zs) where
  abbrev r : Row
  r = row_at ws i

  abbrev k : Shape
  k = shape_of r.kind

  abbrev one : Size
  one = size_at zs r.first

  abbrev other : Size
  other = size_at zs r.second

  pub row-bytes : (c own b : ℕ) → c ≡ parts_of k → own ≡ length (front s r) → b ≡ capped (summed c own one.bytes other.bytes)
      → (t : Term) → Drafts s ws n (i + 2) t → b ≡ capped (size t)
  row-bytes c own b e f g t x =
      let o = row_opened i x in
      let p = (d.each r.first (w.firsts i h)).bytes (o.part r.first) o.first in
      let q = (d.each r.second (w.seconds i h)).bytes (o.part r.second) o.second in
      g ∙ ap (λ (v : ℕ). capped (summed c own v other.bytes)) p ∙ ap (λ (v : ℕ). capped (summed c own (capped (size (o.part r.first))) v)) q
      ∙ capped-sum c own (size (o.part r.first)) (size (o.part r.second)) ∙ ap (λ (v : ℕ). capped (summed v own (size (o.part r.first)) (size (o.part r.second)))) e
      ∙ ap (λ (v : ℕ). capped (summed (parts_of k) v (size (o.part r.first)) (size (o.part r.second)))) f
      ∙ ap (λ (v : ℕ). capped v) (sym (shaped-size s r o.part k)) ∙ ap (λ (u : Term). capped (size u)) (sym o.is)

  pub row-nodes : (c own b : ℕ) → c ≡ parts_of k → own ≡ node_count_of k → b ≡ capped (summed c own one.nodes other.nodes)
      → (t : Term) → Drafts s ws n (i + 2) t → b ≡ capped (nodes t)
  row-nodes c own b e f g t x =
      let o = row_opened i x in
      let p = (d.each r.first (w.firsts i h)).nodes (o.part r.first) o.first in
      let q = (d.each r.second (w.seconds i h)).nodes (o.part r.second) o.second in
      g ∙ ap (λ (v : ℕ). capped (summed c own v other.nodes)) p ∙ ap (λ (v : ℕ). capped (summed c own (capped (nodes (o.part r.first))) v)) q
      ∙ capped-sum c own (nodes (o.part r.first)) (nodes (o.part r.second)) ∙ ap (λ (v : ℕ). capped (summed v own (nodes (o.part r.first)) (nodes (o.part r.second)))) e
      ∙ ap (λ (v : ℕ). capped (summed (parts_of k) v (nodes (o.part r.first)) (nodes (o.part r.second)))) f
      ∙ ap (λ (v : ℕ). capped v) (sym (shaped-nodes s r o.part k)) ∙ ap (λ (u : Term). capped (nodes u)) (sym o.is)

-- one size written behind those of the first m parts
module _ {s : Bytes} {ws : List Row} {n m : ℕ} {zs : List Size} (z : Size) (room : m < length zs) (d : Measured s ws n m zs) (x : Sized s ws n m z) where
  case : (i : ℕ) (t : Bool) → ltb i m ≡ t → i < m + 1 → Sized s ws n i (size_at (set zs m z) i)
  case i true e h =
      let l = ltb-true i m e in
      rw (get_or-set_other zs m i z no_size (λ q. omega arith)) (d.each i l)
  case i false e h =
      let l : i ≡ m = omega (arith, ltb-false i m e) in
      rw (l, get_or-set_same zs m z no_size room) x

  pub measured-more : Measured s ws n (m + 1) (set zs m z)
  measured-more = record { each = λ i h. case i (ltb i m) refl h }

-- the same number in other words
pub measured-as : {s : Bytes} {ws : List Row} {n m m' : ℕ} {zs : List Size} → m ≡ m' → Measured s ws n m zs → Measured s ws n m' zs
measured-as e d = rw e at d

-- the two parts with which a draft begins have one byte and one node each
unit-sized : {s : Bytes} {ws : List Row} {n : ℕ} → (t : Term) → Drafts s ws n 0 t → (1 ≡ capped (size t)) × (1 ≡ capped (nodes t))
unfolding encode nodes
unit-sized t x =
    let e = drafts-one (drafts-unit x.rows) x in
    (ap (λ (u : Term). capped (size u)) e, ap (λ (u : Term). capped (nodes u)) e)

trivial-sized : {s : Bytes} {ws : List Row} {n : ℕ} → (t : Term) → Drafts s ws n 1 t → (1 ≡ capped (size t)) × (1 ≡ capped (nodes t))
unfolding encode nodes
trivial-sized t x =
    let e = drafts-one (drafts-trivial x.rows) x in
    (ap (λ (u : Term). capped (size u)) e, ap (λ (u : Term). capped (nodes u)) e)

pub measured-two : {s : Bytes} {ws : List Row} {n : ℕ} (zs : List Size) → 2 ≤ length zs → Measured s ws n 2 (set (set zs 0 (record { bytes = 1; nodes = 1 })) 1 (record { bytes = 1; nodes = 1 }))
measured-two {s} {ws} {n} zs h =
    let one : Size = record { bytes = 1; nodes = 1 } in
    let none : Measured s ws n 0 zs = record { each = λ i l. absurd (omega arith) } in
    let first : Measured s ws n 1 (set zs 0 one) = measured-more one (omega arith) none (record { bytes = λ t x. (unit-sized t x).0; nodes = λ t x. (unit-sized t x).1 }) in
    measured-more one (simp length-set (omega arith)) first (record { bytes = λ t x. (trivial-sized t x).0; nodes = λ t x. (trivial-sized t x).1 })

pub few-nodes : (k : Shape) → node_count_of k ≤ 2
few-nodes named = omega arith
few-nodes identity = omega arith
few-nodes discarding = omega arith
few-nodes letting = omega arith
few-nodes branching = omega arith
few-nodes copying = omega arith
few-nodes (wrapping k) = omega arith
few-nodes (joining k) = omega arith

-- a limit below the cap is kept or broken by the capped size as by the size itself
nodes-same : (n : ℕ) (b : Bool) → leb n limits.nodes ≡ b → leb (capped n) limits.nodes ≡ leb n limits.nodes
nodes-same n true e = le-leb (capped n) limits.nodes (omega (arith, leb-true n limits.nodes e)) ∙ sym e
nodes-same n false e = lt-leb (capped n) limits.nodes (omega (arith, leb-false n limits.nodes e)) ∙ sym e

bytes-same : (n : ℕ) (b : Bool) → leb n limits.bytes ≡ b → leb (capped n) limits.bytes ≡ leb n limits.bytes
bytes-same n true e = le-leb (capped n) limits.bytes (omega (arith, leb-true n limits.bytes e)) ∙ sym e
bytes-same n false e = lt-leb (capped n) limits.bytes (omega (arith, leb-false n limits.bytes e)) ∙ sym e

-- both limits are tested as they are of the term
limits-tested : (z : Size) (t : Term) → z.bytes ≡ capped (size t) → z.nodes ≡ capped (nodes t) → leb z.nodes limits.nodes && leb z.bytes limits.bytes ≡ fits limits t
unfolding fits
limits-tested z t e f =
    ap (λ (b : ℕ). leb z.nodes limits.nodes && leb b limits.bytes) e ∙ ap (λ (b : ℕ). leb b limits.nodes && leb (capped (size t)) limits.bytes) f
    ∙ ap (λ (b : Bool). b && leb (capped (size t)) limits.bytes) (nodes-same (nodes t) (leb (nodes t) limits.nodes) refl)
    ∙ ap (λ (b : Bool). leb (nodes t) limits.nodes && b) (bytes-same (size t) (leb (size t) limits.bytes) refl)

module _ (z : Size) (t : Term) (e : z.bytes ≡ capped (size t)) (f : z.nodes ≡ capped (nodes t)) where
  pub nodes-kept : z.nodes ≤ limits.nodes → leb z.bytes limits.bytes ≡ fits limits t
  nodes-kept h = ap (λ (b : Bool). b && leb z.bytes limits.bytes) (sym (le-leb z.nodes limits.nodes h)) ∙ limits-tested z t e f

  pub nodes-over : limits.nodes < z.nodes → leb z.nodes limits.nodes ≡ fits limits t
  nodes-over h = lt-leb z.nodes limits.nodes h ∙ ap (λ (b : Bool). b && leb z.bytes limits.bytes) (sym (lt-leb z.nodes limits.nodes h)) ∙ limits-tested z t e f
