-- The names of a row written one after the other. Assumes nothing.
use Prim.Native.Nat.{ℕ, ◌+◌, ◌-◌, ◌<◌, ◌≤◌}
use mathlib.Core.Path.{◌≡◌, refl, sym, ap, ◌∙◌}
use mathlib.Core.List.{List, [], ◌∷◌, ◌++◌, append-nil, append_assoc}
use native.Mathlib.Numerals.{add-one}
use native.Mathlib.Omega.{arith}
use lib.ListN.{length, get_or, take, drop, length-append, take-append-drop}
use lib.Seq.{slice, take-suc}
use Rattle.rules.specs.Basic.{Bytes}
use Rattle.rules.specs.Name.{Name, encode_name, encode_names}
use Rattle.buffer.specs.Wrote.{Wrote}
use Rattle.buffer.specs.Writing.{slice_is, chain}
use Rattle.term.specs.Place.{NameAt}
use Rattle.term.proofs.node.Names.{head_byte}
use Rattle.free.specs.Search.{at}
use Rattle.free.specs.Rows.{Writes}

names-app : (xs ys : List Name) → encode_names (xs ++ ys) ≡ encode_names xs ++ encode_names ys
names-app [] ys = refl
names-app (x ∷ xs) ys = ap (λ z. encode_name x ++ z) (names-app xs ys) ∙ sym (append_assoc (encode_name x) (encode_names xs) (encode_names ys))

one_more : (xs : List Name) (i : ℕ) → i < length xs → encode_names (take (i + 1) xs) ≡ encode_names (take i xs) ++ encode_name (at xs i)
one_more xs i h =
    ap (λ k. encode_names (take k xs)) (add-one i) ∙ ap encode_names (take-suc xs i [] h) ∙ names-app (take i xs) (at xs i ∷ []) ∙ ap (λ z. encode_names (take i xs) ++ z) (append-nil (encode_name (at xs i)))

fewer : (xs : List Name) (i : ℕ) → length (encode_names (take i xs)) ≤ length (encode_names xs)
fewer xs i =
    let e : encode_names xs ≡ encode_names (take i xs) ++ encode_names (drop i xs) = ap encode_names (sym (take-append-drop i xs)) ∙ names-app (take i xs) (drop i xs) in
    omega (arith, ap length e, length-append (encode_names (take i xs)) (encode_names (drop i xs)))

-- the first i names stand in the output
abbrev pub Listing : Bytes → List ℕ → ℕ → Bytes → Bytes → ℕ → ℕ → Type 0
Listing s row n out₀ out i to = (xs : List Name) → Writes s row n out₀ xs → Wrote out₀ 0 (encode_names (take i xs)) out to

module _ {s : Bytes} {row : List ℕ} {n : ℕ} {out₀ out : Bytes} {i to : ℕ} (f : Listing s row n out₀ out i to) (h : i < n) where
  name-long : (x : Name) → NameAt s (get_or row i 0) x → get_or s (get_or row i 0) 0 ≡ length x
  name-long x v = head_byte s _ (get_or row i 0) (length x) v.bytes

  pub entry-name : (xs : List Name) → Writes s row n out₀ xs → (x : Name) × NameAt s (get_or row i 0) x
  entry-name xs w = (at xs i, w.held.each i h)

  pub entry-room : (xs : List Name) → Writes s row n out₀ xs → to + (get_or row i 0 + 1 + get_or s (get_or row i 0) 0 - get_or row i 0) ≤ length out₀
  entry-room xs w =
      omega (
        arith,
        (f xs w).ends,
        name-long (at xs i) (w.held.each i h),
        ap length (one_more xs i (omega (arith, w.held.many))),
        length-append (encode_names (take i xs)) (encode_name (at xs i)),
        fewer xs (i + 1),
        w.room,
      )

  pub listed_more : {out' : Bytes} {to' : ℕ} → Wrote out to (slice (get_or row i 0) (get_or row i 0 + 1 + get_or s (get_or row i 0) 0) s) out' to' → Listing s row n out₀ out' (i + 1) to'
  listed_more {out'} {to'} v xs w =
      let p = get_or row i 0 in
      let x = at xs i in
      let y = w.held.each i h in
      let e : p + 1 + get_or s p 0 ≡ p + length (encode_name x) = omega (arith, name-long x y) in
      let d : slice p (p + 1 + get_or s p 0) s ≡ encode_name x = ap (λ k. slice p k s) e ∙ slice_is p s (encode_name x) y.rest y.bytes in
      let u : Wrote out to (encode_name x) out' to' = rw d at v in
      rw (one_more xs i (omega (arith, w.held.many))) (chain (f xs w) u)
