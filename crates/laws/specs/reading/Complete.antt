-- Completeness: where a legal item is written, and there are few enough nodes, it is read; by induction on the item, once for both forms.
-- Assumes nothing.
use Prim.Native.Nat.{ℕ, zero, suc, ◌+◌, ◌<◌, ◌≤◌}
use Rattle.std.specs.Prelude.{◌≡◌, refl}
use Rattle.std.proofs.Common.{◌∙◌, arith, lt-ltb}
use mathlib.Core.List.{◌∷◌, ◌++◌, append_assoc}
use Rattle.std.proofs.Math.ListN.{length, length-append}
use Rattle.rules.specs.Basic.{Bytes, ◌‥◌}
use Rattle.rules.specs.Name.{Name, encode_name, Spelling}
use Rattle.rules.specs.Layout.{Layout, Tuple, head_by_tag}
use Rattle.rules.specs.Legal.{LegalName}
use Rattle.rules.specs.Reading.{got, Reader, times, byte, name, tag, node}
use Rattle.laws.specs.reading.Written.{Written, bytes_of, sum_of, Each}
use Rattle.laws.specs.reading.Names.{same-got, name-found}

-- m reads x wherever x is written, if there is room for its nodes
abbrev pub Finds : {A : Type 0} → (most : ℕ) → (A → Bytes) → (A → ℕ) → Reader ℕ A → A → Type 0
Finds most enc count m x = (u at : ℕ) (r : Bytes) → u + count x ≤ most → m u at (enc x ‥ r) ≡ got x (u + count x) (at + length (enc x)) r

-- names count nothing
abbrev none : Name → ℕ
none x = 0

none-all : (n : ℕ) (xs : Tuple Name n) → sum_of none n xs ≡ 0
none-all zero xs = refl
none-all (suc n) xs = omega (arith, none-all n xs.1)

names-found : (most : ℕ) (P : Spelling) (n : ℕ) (xs : Tuple Name n) → Each (LegalName P) n xs → Each (Finds most encode_name none (name P)) n xs
names-found most P zero xs l = tt
names-found most P (suc n) xs l =
    (λ u at r h. name-found P xs.0 l.0 u at r ∙ same-got xs.0 u (u + 0) _ _ r (omega arith) refl, names-found most P n xs.1 l.1)

module _ {A : Type 0} (most : ℕ) (enc : A → Bytes) (count : A → ℕ) (m : Reader ℕ A) where
  times-found : (n : ℕ) (xs : Tuple A n) → Each (Finds most enc count m) n xs → Finds most (bytes_of enc n) (sum_of count n) (times m n) xs
  unfolding times
  times-found zero xs f u at r h = same-got tt u (u + 0) at (at + 0) r (omega arith) (omega arith)
  times-found (suc n) xs f u at r h =
      rw (append_assoc (enc xs.0) (bytes_of enc n xs.1) r, f.0 u at (bytes_of enc n xs.1 ‥ r) (omega arith), times-found n xs.1 f.1 (u + count xs.0) (at + length (enc xs.0)) r (omega arith))
      (same-got xs _ _ _ _ r (omega arith) (omega (arith, length-append (enc xs.0) (bytes_of enc n xs.1))))

module _ {H A : Type 0} (F : Layout H A) (encode : A → Bytes) (nodes : A → ℕ) (Fine : A → Type 0) (W : Written F encode nodes Fine) (most : ℕ) where
  tag-found : (h : H) (u at : ℕ) (r : Bytes) → u < most → tag most (head_by_tag F.heads) u at (W.tag_of h ∷ r) ≡ got h (u + 1) (at + 1) r
  unfolding tag byte
  tag-found h u at r l = rw (lt-ltb u most l, W.head_of h)

  -- read at any depth that is not too small
  abbrev Deep : A → Type 0
  Deep x = (depth : ℕ) → nodes x ≤ depth → Finds most encode nodes (node F most depth) x

  all-deep : (depth n : ℕ) (ts : Tuple A n) → sum_of nodes n ts ≤ depth → Each Deep n ts → Each (Finds most encode nodes (node F most depth)) n ts
  all-deep depth zero ts h d = tt
  all-deep depth (suc n) ts h d = (d.0 depth (omega arith), all-deep depth n ts.1 (omega arith) d.1)

  module _ (h : H) (xs : Tuple Name (F.names h)) (ts : Tuple A (F.parts h)) where
    build-found : (depth : ℕ) → Each (LegalName F.spelling) (F.names h) xs → Each (Finds most encode nodes (node F most depth)) (F.parts h) ts
        → Finds most encode nodes (node F most (suc depth)) (F.build h xs ts)
    unfolding node
    build-found depth l f u at r k =
        let ns = bytes_of encode_name (F.names h) xs in
        let ps = bytes_of encode (F.parts h) ts in
        let v = u + 1 + sum_of none (F.names h) xs in
        let few : nodes (F.build h xs ts) ≡ 1 + sum_of nodes (F.parts h) ts = W.count h xs ts in
        let no_more : sum_of none (F.names h) xs ≡ 0 = none-all (F.names h) xs in
        rw (
          W.bytes h xs ts,
          append_assoc ns ps r,
          tag-found h u at (ns ++ (ps ++ r)) (omega arith),
          times-found most encode_name none (name F.spelling) (F.names h) xs (names-found most F.spelling (F.names h) xs l) (u + 1) (at + 1) (ps ++ r) (omega arith),
          times-found most encode nodes (node F most depth) (F.parts h) ts f v (at + 1 + length ns) r (omega arith),
        )
        (same-got (F.build h xs ts) _ _ _ _ r (omega arith) (omega (arith, length-append ns ps)))

    build-deep : Each (LegalName F.spelling) (F.names h) xs → Each Deep (F.parts h) ts → Deep (F.build h xs ts)
    build-deep l d zero k = absurd (omega (arith, W.count h xs ts))
    build-deep l d (suc depth) k = build-found depth l (all-deep depth (F.parts h) ts (omega (arith, W.count h xs ts)) d)

  pub node-found : (x : A) → Fine x → (depth : ℕ) → nodes x ≤ depth → Finds most encode nodes (node F most depth) x
  node-found x l = W.every Deep build-deep x l
