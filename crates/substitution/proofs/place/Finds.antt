-- The walk that keeps places: a term is hidden, is the variable, or what its parts give is what it gives. Assumes nothing.
use Prim.Native.Nat.{ℕ, ◌+◌, ◌-◌, ◌/◌, ◌%◌, ◌<◌, ◌≤◌}
use mathlib.Core.Path.{◌≡◌, refl, sym, ap, ◌∙◌}
use mathlib.Core.Bool.{true, false}
use mathlib.Core.List.{List, [], ◌∷◌}
use native.Mathlib.Omega.{arith}
use lib.ListN.{length, set, length-append}
use borrow.Author.Tests.{eq-eqb, ne_eqb}
use Rattle.rules.specs.Basic.{Bytes}
use Rattle.rules.specs.Limits.{limits}
use Rattle.rules.specs.Name.{Name}
use Rattle.rules.specs.Term.{Term, var, leaf, one, two, abs, both, branch, encode, nodes, size, parts}
use Rattle.laws.specs.size.SubstSize.{occurrences-nodes}
use Rattle.buffer.specs.Wrote.{Wrote}
use Rattle.buffer.specs.Writing.{chain, wrote_none, wrote-length}
use Rattle.term.specs.Node.{encode_all}
use Rattle.term.specs.Place.{TermAt, TermsAt}
use Rattle.term.specs.Seen.{Seen}
use Rattle.term.specs.declared.node.Node.{Node}
use Rattle.term.proofs.node.Terms.{SkipIs, skip-one, apart-size, at-inside, at-end, first, others}
use Rattle.substitution.specs.Places.{places, open_places, places_all, Row, Finding}
use Rattle.substitution.proofs.place.Shapes.{var-places, places-many}
use Rattle.substitution.proofs.place.Nodes as seen
pub use Rattle.term.proofs.node.Terms.{whole}

-- a name has no more places in a term than that has nodes
places-few : (x : Name) (t : Term) (i : ℕ) → length (places x t i) ≤ nodes t
places-few x t i = omega (arith, places-many x t i, occurrences-nodes x t)

-- so a row has room for those of a term that breaks no limit
pub begins : {s : Bytes} (x : Name) {t : Term} {row : List ℕ} → TermAt s 0 t → nodes t ≤ limits.nodes → length s ≤ limits.bytes → Row row → Finding s 0 0 x row 0
begins x {t} w h short long = record { term = t; stands = w; short = short; room = omega (arith, places-few x t 0); long = long }

-- what was found in such a term is within the row
pub count-within : (x : Name) (t : Term) {row row₁ : List ℕ} {count : ℕ} → nodes t ≤ limits.nodes → Row row → Wrote row 0 (places x t 0) row₁ count → count ≤ length row
count-within x t few long w = omega (arith, w.ends, places-few x t 0)

-- ---- what `find` ensures

parts-few : (t : Term) → length (parts t) ≤ 3
parts-few (var x) = omega arith
parts-few (leaf j) = omega arith
parts-few (one j e) = omega arith
parts-few (two j e f) = omega arith
parts-few (abs x e) = omega arith
parts-few (both j x y e f) = omega arith
parts-few (branch x y e f h) = omega arith

abbrev FindIs : Bytes → ℕ → ℕ → ℕ → Name → List ℕ → ℕ → ℕ → ℕ → List ℕ → Type 0
FindIs s i n k x out o next past out' = (ts : List Term) → TermsAt s i n ts → (next ≡ i + length (encode_all ts)) × Wrote out o (places_all x k ts i) out' past

find_none : (s : Bytes) (i n k : ℕ) (x : Name) (out : List ℕ) (o : ℕ) → n ≡ 0 → FindIs s i n k x out o i o out
find_none s i n k x out o z [] w = (omega arith, wrote_none out o)
find_none s i n k x out o z (t ∷ ts) w = absurd (omega (arith, w.many))

-- what `find` ensures of one term, with a mask that hides it or not
abbrev PartIs : Bytes → ℕ → ℕ → Name → List ℕ → ℕ → ℕ → ℕ → List ℕ → Type 0
PartIs s i k x out o next past out' = (t : Term) → TermAt s i t → (next ≡ i + size t) × Wrote out o (open_places x k t i) out' past

-- n terms stand at i, and there is room for their places
record Left (s : Bytes) (i n k : ℕ) (x : Name) (out : List ℕ) (o : ℕ) : Type 0 where
  terms : List Term
  stand : TermsAt s i n terms
  short : length s ≤ limits.bytes
  room : o + length (places_all x k terms i) ≤ limits.nodes
  long : Row out

-- the first of them, and then the others
module _ {s : Bytes} {i n k : ℕ} {x : Name} {out : List ℕ} {o : ℕ} (g : Left s i n k x out o) (l : 0 < n) where
  first_of : Finding s i k x out o
  first_of = go g.terms g.stand g.room
    where
      go : (ts : List Term) → TermsAt s i n ts → o + length (places_all x k ts i) ≤ limits.nodes → Finding s i k x out o
      go [] w r = absurd (omega (arith, w.many))
      go (t ∷ ts) w r =
          record {
            term = t;
            stands = first s i n t ts w;
            short = g.short;
            room = omega (arith, r, length-append (open_places x k t i) (places_all x (k / 2) ts (i + size t)));
            long = g.long;
          }

  module _ {m o₁ : ℕ} {out₁ : List ℕ} (f : PartIs s i k x out o m o₁ out₁) where
    beyond : (i < m) × (m ≤ length s)
    beyond =
        let a = first_of in
        let e = (f a.term a.stands).0 in
        (omega (arith, e, apart-size a.term), omega (arith, e, at-end s i a.term a.stands))

    others-of : Left s m (n - 1) (k / 2) x out₁ o₁
    others-of = go g.terms g.stand g.room
      where
        go : (ts : List Term) → TermsAt s i n ts → o + length (places_all x k ts i) ≤ limits.nodes → Left s m (n - 1) (k / 2) x out₁ o₁
        go [] w r = absurd (omega (arith, w.many))
        go (t ∷ ts) w r =
            let (e, v) = f t (first s i n t ts w) in
            record {
              terms = ts;
              stand = others s i n t ts w m e;
              short = g.short;
              room = omega (arith, r, v.ends, length-append (open_places x k t i) (places_all x (k / 2) ts (i + size t)), ap (λ (j : ℕ). length (places_all x (k / 2) ts j)) e);
              long = wrote-length v ∙ g.long;
            }

    with-others : {next past : ℕ} {out' : List ℕ} → FindIs s m (n - 1) (k / 2) x out₁ o₁ next past out' → FindIs s i n k x out o next past out'
    with-others h [] w = absurd (omega (arith, w.many))
    with-others h (t ∷ ts) w =
        let a = first s i n t ts w in
        let e : m ≡ i + size t = (f t a).0 in
        let r = h ts (others s i n t ts w m e) in
        (omega (arith, r.0, length-append (encode t) (encode_all ts)), chain (f t a).1 (rw e at r.1))

pub inside : {s : Bytes} {i k : ℕ} {x : Name} {out : List ℕ} {o : ℕ} → Finding s i k x out o → (i < length s) × (length s ≤ limits.bytes)
inside {s} {i} g = (at-inside s i g.term g.stands, g.short)

module _ {s : Bytes} {i k : ℕ} {x : Name} {out : List ℕ} {o : ℕ} (g : Finding s i k x out o) where
  -- hidden
  module _ (odd : k % 2 ≡ 1) (m : ℕ) (f : SkipIs s i 1 m) where
    pub hidden-is : PartIs s i k x out o m o out
    hidden-is t w = (skip-one s i m f t w, rw (eq-eqb (k % 2) 1 odd) (wrote_none out o))

    pub hidden-fits : (m ≤ limits.bytes) × (o ≤ limits.nodes)
    hidden-fits = (omega (arith, (hidden-is g.term g.stands).0, at-end s i g.term g.stands, inside g), omega (arith, g.room))

  -- seen
  module _ (even : k % 2 ≡ 1 → ⊥) (node : Node) (f : (t : Term) → TermAt s i t → Seen x i t node) where
    open_is : (t : Term) → open_places x k t i ≡ places x t i
    open_is t = rw (ne_eqb (k % 2) 1 even)

    module _ (hit : node.is ≡ true) where
      hit-open : (t : Term) → TermAt s i t → open_places x k t i ≡ i ∷ []
      hit-open t w = open_is t ∙ var-places x t i (sym (f t w).is ∙ hit)

      pub hit-room : (o < limits.nodes) × (length out ≡ limits.nodes)
      hit-room = (omega (arith, g.room, ap (λ (z : List ℕ). length z) (hit-open g.term g.stands)), g.long)

      pub hit-is : PartIs s i k x out o node.start (o + 1) (set out o i)
      hit-is t w = (seen.hit-end s x i node t w (f t w) hit, rw (hit-open t w) (record { holds = refl; ends = refl }))

      pub hit-fits : (node.start ≤ limits.bytes) × (o + 1 ≤ limits.nodes)
      hit-fits = (omega (arith, seen.start-far s x i node g.term g.stands (f g.term g.stands), inside g), omega (arith, hit-room))

    module _ (miss : node.is ≡ false) where
      -- what the parts give, the node gives
      parts-open : (t : Term) → TermAt s i t → open_places x k t i ≡ places_all x node.hides (parts t) node.start
      parts-open t w = open_is t ∙ seen.seen-places s x i node t w (f t w) miss

      whole_is : {m o₁ : ℕ} {out₁ : List ℕ} → FindIs s node.start node.parts node.hides x out o m o₁ out₁ → PartIs s i k x out o m o₁ out₁
      whole_is h t w =
          let r = h (parts t) (seen.seen_parts s x i node t w (f t w) miss) in
          (omega (arith, r.0, (f t w).start, apart-size t), rw (parts-open t w) r.1)

      start-far : (i < node.start) × (node.start ≤ length s)
      start-far = seen.start-far s x i node g.term g.stands (f g.term g.stands)

      all : Left s node.start node.parts node.hides x out o
      all =
          record {
            terms = parts g.term;
            stand = seen.seen_parts s x i node g.term g.stands (f g.term g.stands) miss;
            short = g.short;
            room = omega (arith, g.room, ap (λ (z : List ℕ). length z) (parts-open g.term g.stands));
            long = g.long;
          }

      pub bare-is : node.parts ≡ 0 → PartIs s i k x out o node.start o out
      bare-is z = whole_is (find_none s node.start node.parts node.hides x out o z)

      pub bare-fits : (node.start ≤ limits.bytes) × (o ≤ limits.nodes)
      bare-fits = (omega (arith, start-far, inside g), omega (arith, g.room))

      module _ (some : 0 < node.parts) where
        pub first_part : (i < node.start) × Finding s node.start node.hides x out o
        first_part = (start-far.0, first_of all some)

        module _ {m o₁ : ℕ} {out₁ : List ℕ} (f₁ : PartIs s node.start node.hides x out o m o₁ out₁) where
          pub single-is : node.parts ≡ 1 → PartIs s i k x out o m o₁ out₁
          single-is e = whole_is (with-others all some f₁ (find_none s m (node.parts - 1) (node.hides / 2) x out₁ o₁ (omega (arith, e))))

          module _ (more : 1 < node.parts) where
            all₁ : Left s m (node.parts - 1) (node.hides / 2) x out₁ o₁
            all₁ = others-of all some f₁

            pub second-part : (i < m) × Finding s m (node.hides / 2) x out₁ o₁
            second-part = (omega (arith, start-far, beyond all some f₁), first_of all₁ (omega (arith, more)))

            module _ {m₂ o₂ : ℕ} {out₂ : List ℕ} (f₂ : PartIs s m (node.hides / 2) x out₁ o₁ m₂ o₂ out₂) where
              pub two_is : node.parts ≡ 2 → PartIs s i k x out o m₂ o₂ out₂
              two_is e =
                  whole_is (with-others all some f₁ (with-others all₁ (omega (arith, more)) f₂ (find_none s m₂ (node.parts - 1 - 1) (node.hides / 2 / 2) x out₂ o₂ (omega (arith, e)))))

              module _ (most : 2 < node.parts) where
                all₂ : Left s m₂ (node.parts - 1 - 1) (node.hides / 2 / 2) x out₂ o₂
                all₂ = others-of all₁ (omega (arith, more)) f₂

                pub third-part : (i < m₂) × Finding s m₂ (node.hides / 2 / 2) x out₂ o₂
                third-part = (omega (arith, second-part.0, beyond all₁ (omega (arith, more)) f₂), first_of all₂ (omega (arith, most)))

                pub three-is : {m₃ o₃ : ℕ} {out₃ : List ℕ} → PartIs s m₂ (node.hides / 2 / 2) x out₂ o₂ m₃ o₃ out₃ → PartIs s i k x out o m₃ o₃ out₃
                three-is {m₃} {o₃} {out₃} f₃ =
                    whole_is
                    (with-others all some f₁ (with-others all₁ (omega (arith, more)) f₂
                    (with-others all₂ (omega (arith, most)) f₃ (find_none s m₃ (node.parts - 1 - 1 - 1) (node.hides / 2 / 2 / 2) x out₃ o₃ at_most))))
                  where
                    at_most : node.parts - 1 - 1 - 1 ≡ 0
                    at_most = omega (arith, (f g.term g.stands).parts, parts-few g.term)
