-- Items in a row in a list of bytes: the first and the others, and a row whose first is replaced by its parts. By taking the list apart where an
-- item or its head ends. Assumes nothing.
use Prim.Native.Nat.{ℕ, ◌+◌, ◌-◌, ◌<◌, ◌≤◌}
use mathlib.Core.Path.{◌≡◌, refl, sym, ap, ◌∙◌}
use mathlib.Core.List.{List, [], ◌∷◌, ◌++◌, append-nil, append_assoc}
use native.Mathlib.Omega.{arith}
use lib.ListN.{length, drop, length-append}
use Rattle.rules.specs.Basic.{Bytes}
use Rattle.laws.specs.reading.Lists.{joined}
use Rattle.term.proofs.node.Names.{drop_app, long}
use Rattle.proof.specs.Place.{ItemAt, ItemsAt}

module _ {A : Type 0} (enc : A → Bytes) where
  abbrev pub Some : Bytes → ℕ → ℕ → Type 0
  Some s i n = (xs : List A) × ItemsAt enc s i n xs

  -- what a skip ensures
  abbrev pub SkipIs : Bytes → ℕ → ℕ → ℕ → Type 0
  SkipIs s i n r = (xs : List A) → ItemsAt enc s i n xs → r ≡ i + length (joined enc xs)

  pub joined-append : (xs ys : List A) → joined enc (xs ++ ys) ≡ joined enc xs ++ joined enc ys
  joined-append [] ys = refl
  joined-append (x ∷ xs) ys = ap (λ (l : Bytes). enc x ++ l) (joined-append xs ys) ∙ sym (append_assoc (enc x) (joined enc xs) (joined enc ys))

  module _ (s : Bytes) (i n : ℕ) where
    pub skip-none : n ≡ 0 → SkipIs s i n i
    skip-none z [] w = omega arith
    skip-none z (x ∷ xs) w = absurd (omega (arith, w.many))

    -- the first of them, and the others
    pub first : (x : A) (xs : List A) → ItemsAt enc s i n (x ∷ xs) → ItemAt enc s i x
    first x xs w = record { rest = joined enc xs ++ w.rest; bytes = w.bytes ∙ append_assoc (enc x) (joined enc xs) w.rest }

    pub others : (x : A) (xs : List A) → ItemsAt enc s i n (x ∷ xs) → (m : ℕ) → m ≡ i + length (enc x) → ItemsAt enc s m (n - 1) xs
    others x xs w m em =
        record {
          many = omega (arith, w.many);
          rest = w.rest;
          bytes = drop_app (enc x) _ s i m (w.bytes ∙ append_assoc (enc x) (joined enc xs) w.rest) em;
        }

    pub some_first : 0 < n → Some s i n → (x : A) × ItemAt enc s i x
    some_first l ([], w) = absurd (omega (arith, w.many))
    some_first l (x ∷ xs, w) = (x, first x xs w)

  -- one by itself is a row of one
  pub alone : (s : Bytes) (i : ℕ) (x : A) → ItemAt enc s i x → ItemsAt enc s i 1 (x ∷ [])
  alone s i x w = record { many = refl; rest = w.rest; bytes = w.bytes ∙ ap (λ (z : Bytes). z ++ w.rest) (sym (append-nil (enc x))) }

  pub some_alone : (s : Bytes) (i : ℕ) → ((x : A) × ItemAt enc s i x) → Some s i 1
  some_alone s i (x, w) = (x ∷ [], alone s i x w)

  pub skip-one : (s : Bytes) (i m : ℕ) → SkipIs s i 1 m → (x : A) → ItemAt enc s i x → m ≡ i + length (enc x)
  skip-one s i m f x w = omega (arith, f (x ∷ []) (alone s i x w), ap (λ (z : Bytes). length z) (append-nil (enc x)))

-- an item is written as its head, which has a byte at least, and its parts
pub record Spelt {A : Type 0} (enc head : A → Bytes) (parts : A → List A) : Type 0 where
  pub apart : (x : A) → enc x ≡ head x ++ joined enc (parts x)
  pub big : (x : A) → 0 < length (head x)

module _ {A : Type 0} {enc head : A → Bytes} {parts : A → List A} (d : Spelt enc head parts) where
  pub apart-size : (x : A) → length (enc x) ≡ length (head x) + length (joined enc (parts x))
  apart-size x = ap (λ (z : Bytes). length z) (d.apart x) ∙ length-append (head x) (joined enc (parts x))

  row-long : (xs : List A) → length xs ≤ length (joined enc xs)
  row-long [] = omega arith
  row-long (x ∷ xs) = omega (arith, row-long xs, length-append (enc x) (joined enc xs), apart-size x, d.big x)

  pub some_fits : (s : Bytes) (i n : ℕ) → Some enc s i n → (n ≤ length s) × (0 < n → i < length s)
  some_fits s i n (xs, w) =
      let l : length s - i ≡ length (joined enc xs) + length w.rest = long s (joined enc xs) w.rest i w.bytes in
      (omega (arith, w.many, row-long xs), λ h. omega (arith, w.many, row-long xs))

  module _ (s : Bytes) (i : ℕ) (x : A) (w : ItemAt enc s i x) where
    pub at-bytes : drop i s ≡ head x ++ (joined enc (parts x) ++ w.rest)
    at-bytes = w.bytes ∙ ap (λ (z : Bytes). z ++ w.rest) (d.apart x) ∙ append_assoc (head x) (joined enc (parts x)) w.rest

    pub at-end : i + length (enc x) ≤ length s
    at-end = omega (arith, long s (enc x) w.rest i w.bytes, apart-size x, d.big x)

    pub at-inside : i < length s
    at-inside = omega (arith, at-end, apart-size x, d.big x)

    pub at-parts : (h p : ℕ) → h ≡ i + length (head x) → p ≡ length (parts x) → ItemsAt enc s h p (parts x)
    at-parts h p eh ep = record { many = sym ep; rest = w.rest; bytes = drop_app (head x) _ s i h at-bytes eh }

  -- the first one's parts in its place
  regroup : (a b c e : Bytes) → ((a ++ b) ++ c) ++ e ≡ a ++ ((b ++ c) ++ e)
  regroup a b c e = simp append_assoc

  unrolled : (s : Bytes) (i n : ℕ) (x : A) (xs : List A) → ItemsAt enc s i n (x ∷ xs) → (h m : ℕ) → h ≡ i + length (head x) → m ≡ n - 1 + length (parts x)
      → ItemsAt enc s h m (parts x ++ xs)
  unrolled s i n x xs w h m eh em =
      record {
        many = omega (arith, w.many, length-append (parts x) xs);
        rest = w.rest;
        bytes =
            drop_app (head x) _ s i h
            (w.bytes ∙ ap (λ (z : Bytes). (z ++ joined enc xs) ++ w.rest) (d.apart x) ∙ regroup (head x) (joined enc (parts x)) (joined enc xs) w.rest
            ∙ ap (λ (z : Bytes). head x ++ (z ++ w.rest)) (sym (joined-append enc (parts x) xs))) eh;
      }

  -- a turn of a loop over items in a row: a look at the first one tells where its parts start, and how many there are
  module _ (s : Bytes) (i n h p : ℕ) (l : 0 < n) (f : (x : A) → ItemAt enc s i x → (h ≡ i + length (head x)) × (p ≡ length (parts x))) where
    turned : (x : A) (xs : List A) → ItemsAt enc s i n (x ∷ xs) → ItemsAt enc s h (n - 1 + p) (parts x ++ xs)
    turned x xs w = let a = f x (first enc s i n x xs w) in unrolled s i n x xs w h (n - 1 + p) a.0 (ap (λ (k : ℕ). n - 1 + k) a.1)

    pub turn-some : Some enc s i n → Some enc s h (n - 1 + p)
    turn-some ([], w) = absurd (omega (arith, w.many))
    turn-some (x ∷ xs, w) = (parts x ++ xs, turned x xs w)

    pub turn-fits : Some enc s i n → n - 1 + p ≤ length s
    turn-fits w = (some_fits s h (n - 1 + p) (turn-some w)).0

    pub turn-ahead : Some enc s i n → (i < length s) × (i < h)
    turn-ahead ([], w) = absurd (omega (arith, w.many))
    turn-ahead (x ∷ xs, w) = let a = first enc s i n x xs w in (at-inside s i x a, omega (arith, (f x a).0, d.big x))

    turn-long : (x : A) (xs : List A) → length (enc x ++ joined enc xs) ≡ length (head x) + length (joined enc (parts x ++ xs))
    turn-long x xs =
        omega (
          arith,
          length-append (enc x) (joined enc xs),
          apart-size x,
          ap (λ (z : Bytes). length z) (joined-append enc (parts x) xs),
          length-append (joined enc (parts x)) (joined enc xs),
        )

    pub turn-skip : (r : ℕ) → SkipIs enc s h (n - 1 + p) r → SkipIs enc s i n r
    turn-skip r g [] w = absurd (omega (arith, w.many))
    turn-skip r g (x ∷ xs) w = omega (arith, g (parts x ++ xs) (turned x xs w), (f x (first enc s i n x xs w)).0, turn-long x xs)
