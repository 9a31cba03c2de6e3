-- Nodes of terms in a row: a node counts one, and then its parts take its place. Assumes nothing.
use Prim.Native.Nat.{ℕ, ◌+◌, ◌-◌, ◌<◌, ◌≤◌}
use mathlib.Core.Path.{◌≡◌, refl, ap}
use mathlib.Core.List.{List, [], ◌∷◌, ◌++◌, append-nil}
use native.Mathlib.Omega.{arith}
use lib.ListN.{length}
use Rattle.rules.specs.Name.{Name}
use Rattle.rules.specs.Term.{Term, encode, parts}
use Rattle.laws.specs.size.Parts.{nodes_of_all, parts-nodes}
use Rattle.term.specs.Place.{TermAt, TermsAt, NameAt, NamesAt}
use Rattle.term.proofs.node.Names.{AfterIs, first-name, other-names, name-end}
use Rattle.term.proofs.node.Terms.{Some, first, others, LookIs, turned, turn-some, turn-ahead, turn-skip}
use Rattle.term.specs.declared.span.Extent.{Extent}
use Rattle.term.specs.Measured.{Measured, MeasuredRow, MeasuredTwo, Named}

nodes-append : (xs ys : List Term) → nodes_of_all (xs ++ ys) ≡ nodes_of_all xs + nodes_of_all ys
nodes-append [] ys = omega arith
nodes-append (x ∷ xs) ys = omega (arith, nodes-append xs ys)

-- the n terms at i end at r, and have m nodes
abbrev pub SpanIs : List ℕ → ℕ → ℕ → ℕ → ℕ → Type 0
SpanIs s i n r m = (ts : List Term) → TermsAt s i n ts → MeasuredRow i ts (record { next = r; nodes = m })

-- `count` nodes of the n terms at `at` were met up to i; whatever the rest has, the whole has that and them
pub record Going (s : List ℕ) (at n i left count : ℕ) : Type 0 where
  pub some : Some s i left
  pub past : at + count ≤ i
  pub rest : (r m : ℕ) → SpanIs s i left r m → SpanIs s at n r (count + m)

pub begin : (s : List ℕ) (at n : ℕ) → Some s at n → Going s at n at n 0
begin s at n w = record { some = w; past = omega arith; rest = λ r m f ts w. let e = f ts w in record { next = e.next; nodes = omega (arith, e.nodes) } }

pub done : (s : List ℕ) (at n i left count : ℕ) → Going s at n i left count → left ≡ 0 → (ts : List Term) → TermsAt s at n ts → MeasuredRow at ts (record { next = i; nodes = count })
done s at n i left count g z ts w = let e = g.rest i 0 none ts w in record { next = e.next; nodes = omega (arith, e.nodes) }
  where
    none : SpanIs s i left i 0
    none [] u = record { next = omega arith; nodes = refl }
    none (x ∷ ts) u = absurd (omega (arith, u.many))

module _ (s : List ℕ) (at k i n count h p : ℕ) (g : Going s at k i n count) (f : LookIs s i h p) (l : 0 < n) where
  so-rest : (r m : ℕ) → SpanIs s h (n - 1 + p) r m → SpanIs s i n r (1 + m)
  so-rest r m k [] w = absurd (omega (arith, w.many))
  so-rest r m k (t ∷ ts) w =
      let e = k (parts t ++ ts) (turned s i n h p f l t ts w) in
      record {
        next = turn-skip s i n h p f l r (λ us u. (k us u).next) (t ∷ ts) w;
        nodes = omega (arith, e.nodes, parts-nodes t, nodes-append (parts t) ts);
      }

  pub turn : Going s at k h (n - 1 + p) (count + 1)
  turn =
      record {
        some = turn-some s i n h p f l g.some;
        past = omega (arith, g.past, turn-ahead s i n h p f l g.some);
        rest = λ r m f ts w. let e = g.rest r (1 + m) (so-rest r m f) ts w in record { next = e.next; nodes = omega (arith, e.nodes) };
      }

-- a term by itself
pub one-measured : (i : ℕ) (t : Term) (r : Extent) → MeasuredRow i (t ∷ []) r → Measured i t r
one-measured i t r m =
    record { next = omega (arith, m.next, ap (λ (z : List ℕ). length z) (append-nil (encode t))); nodes = omega (arith, m.nodes) }

-- ---- two terms in a row

-- what `span` ensures
abbrev pub ExtentIs : List ℕ → ℕ → Extent → Type 0
ExtentIs s i r = (t : Term) → TermAt s i t → Measured i t r

module _ (s : List ℕ) (i : ℕ) (ra : Extent) (fa : ExtentIs s i ra) where
  pub row-later : (n : ℕ) (a : Term) (ts : List Term) → TermsAt s i n (a ∷ ts) → TermsAt s ra.next (n - 1) ts
  row-later n a ts w = others s i n a ts w ra.next (fa a (first s i n a ts w)).next

  pub row-second : (n : ℕ) (a b : Term) (ts : List Term) → TermsAt s i n (a ∷ b ∷ ts) → TermAt s ra.next b
  row-second n a b ts w = first s ra.next (n - 1) b ts (row-later n a (b ∷ ts) w)

  module _ (rb : Extent) (fb : ExtentIs s ra.next rb) where
    pub both-measured : (a b : Term) → TermsAt s i 2 (a ∷ b ∷ []) → MeasuredTwo i a b (record { second = ra.next; end = rb.next; a = ra.nodes; b = rb.nodes })
    both-measured a b w =
        let e = fa a (first s i 2 a (b ∷ []) w) in
        let f = fb b (row-second 2 a b [] w) in
        record { second = e.next; end = f.next; a-nodes = e.nodes; b-nodes = f.nodes }

-- ---- two names in a row

module _ (s : List ℕ) (i j : ℕ) (f : AfterIs s i 1 j) where
  pub second-name : (x y : Name) → NamesAt s i 2 (x ∷ y ∷ []) → NameAt s j y
  second-name x y w = first-name s j 1 y [] (other-names s i 2 x (y ∷ []) w j (name-end s i j f x (first-name s i 2 x (y ∷ []) w)))

  pub named : (h : ℕ) → AfterIs s j 1 h → (x y : Name) → NamesAt s i 2 (x ∷ y ∷ []) → Named i x y (record { second = j; end = h })
  named h g x y w = record { second = name-end s i j f x (first-name s i 2 x (y ∷ []) w); end = name-end s j h g y (second-name x y w) }
