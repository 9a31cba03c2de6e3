-- Terms that stand in a list of bytes: a node's head and parts, the first of a row and the others, and a row whose first is replaced by its parts.
-- Assumes nothing.
use Prim.Native.Nat.{ℕ, ◌+◌, ◌-◌, ◌<◌, ◌≤◌}
use mathlib.Core.Path.{◌≡◌, refl, sym, ap, ◌∙◌}
use mathlib.Core.List.{List, [], ◌∷◌, ◌++◌, append-nil, append_assoc}
use native.Mathlib.Omega.{arith}
use lib.ListN.{length, get_or, drop, length-append}
use Rattle.rules.specs.Name.{Name, encode_names}
use Rattle.rules.specs.Term.{Term, var, leaf, one, two, abs, both, branch, Leaf, unit, trivial, One, inl, inr, fst, snd, abort, promote, derelict, Two, pair, app, discard, Both, let_a_pair, copy, leaf_tag, one_tag, two_tag, both_tag, encode, size, parts}
pub use Rattle.laws.specs.size.Parts.{apart}
use Rattle.term.specs.Node.{tag, names, head, encode_all, names_after, parts_after}
use Rattle.term.specs.Place.{TermAt, TermsAt, NamesAt}
use Rattle.term.proofs.node.Names.{drop_app, head_byte, long, AfterIs}

pub apart-size : (t : Term) → size t ≡ length (head t) + length (encode_all (parts t))
apart-size t = ap (λ (z : List ℕ). length z) (apart t) ∙ length-append (head t) (encode_all (parts t))

-- ---- tags: each is below 18, and the packed numbers say how many names and parts follow it

-- what is known of a tag k, with n names and p parts
record Listed (k n p : ℕ) : Type 0 where
  small : k < 18
  names : names_after k ≡ n
  parts : parts_after k ≡ p

leaf-listed : (k : Leaf) → Listed (leaf_tag k) 0 0
leaf-listed unit = record { small = omega arith; names = refl; parts = refl }
leaf-listed trivial = record { small = omega arith; names = refl; parts = refl }

one-listed : (k : One) → Listed (one_tag k) 0 1
one-listed inl = record { small = omega arith; names = refl; parts = refl }
one-listed inr = record { small = omega arith; names = refl; parts = refl }
one-listed fst = record { small = omega arith; names = refl; parts = refl }
one-listed snd = record { small = omega arith; names = refl; parts = refl }
one-listed abort = record { small = omega arith; names = refl; parts = refl }
one-listed promote = record { small = omega arith; names = refl; parts = refl }
one-listed derelict = record { small = omega arith; names = refl; parts = refl }

two-listed : (k : Two) → Listed (two_tag k) 0 2
two-listed pair = record { small = omega arith; names = refl; parts = refl }
two-listed app = record { small = omega arith; names = refl; parts = refl }
two-listed discard = record { small = omega arith; names = refl; parts = refl }

both-listed : (k : Both) → Listed (both_tag k) 2 2
both-listed let_a_pair = record { small = omega arith; names = refl; parts = refl }
both-listed copy = record { small = omega arith; names = refl; parts = refl }

listed : (t : Term) → Listed (tag t) (length (names t)) (length (parts t))
listed (var x) = record { small = omega arith; names = refl; parts = refl }
listed (leaf k) = leaf-listed k
listed (one k e) = one-listed k
listed (two k a b) = two-listed k
listed (abs x e) = record { small = omega arith; names = refl; parts = refl }
listed (both k x y e b) = both-listed k
listed (branch x y e l r) = record { small = omega arith; names = refl; parts = refl }

-- ---- a term at a place

module _ (s : List ℕ) (i : ℕ) (t : Term) (w : TermAt s i t) where
  at-bytes : drop i s ≡ tag t ∷ (encode_names (names t) ++ (encode_all (parts t) ++ w.rest))
  at-bytes = w.bytes ∙ ap (λ (z : List ℕ). z ++ w.rest) (apart t) ∙ simp append_assoc

  pub at_tag : get_or s i 0 ≡ tag t
  at_tag = head_byte s _ i (tag t) at-bytes

  pub at_small : get_or s i 0 < 18
  at_small = omega (arith, at_tag, (listed t).small)

  pub at-inside : i < length s
  at-inside = omega (arith, long s (tag t ∷ []) (encode_names (names t) ++ (encode_all (parts t) ++ w.rest)) i at-bytes)

  -- it ends within the list
  pub at-end : i + size t ≤ length s
  at-end = omega (arith, at-inside, long s (encode t) w.rest i w.bytes)

  pub at-count-names : names_after (get_or s i 0) ≡ length (names t)
  at-count-names = ap (λ (k : ℕ). names_after k) at_tag ∙ (listed t).names

  pub at-count-parts : parts_after (get_or s i 0) ≡ length (parts t)
  at-count-parts = ap (λ (k : ℕ). parts_after k) at_tag ∙ (listed t).parts

  pub at_names : NamesAt s (i + 1) (length (names t)) (names t)
  at_names = record { many = refl; rest = encode_all (parts t) ++ w.rest; bytes = drop_app (tag t ∷ []) _ s i (i + 1) at-bytes refl }

  pub at-parts : (h p : ℕ) → h ≡ i + length (head t) → p ≡ length (parts t) → TermsAt s h p (parts t)
  at-parts h p eh ep = record { many = sym ep; rest = w.rest; bytes = drop_app (head t) _ s i h at-bytes eh }

-- the whole of a list that is a term
pub whole : (t : Term) (s : List ℕ) → s ≡ encode t → TermAt s 0 t
whole t s e = record { rest = []; bytes = e ∙ sym (append-nil (encode t)) }

-- ---- terms in a row

abbrev pub Some : List ℕ → ℕ → ℕ → Type 0
Some s i n = (ts : List Term) × TermsAt s i n ts

-- what `skip` ensures
abbrev pub SkipIs : List ℕ → ℕ → ℕ → ℕ → Type 0
SkipIs s i n r = (ts : List Term) → TermsAt s i n ts → r ≡ i + length (encode_all ts)

pub encode_all-append : (xs ys : List Term) → encode_all (xs ++ ys) ≡ encode_all xs ++ encode_all ys
encode_all-append [] ys = refl
encode_all-append (x ∷ xs) ys = ap (λ (l : List ℕ). encode x ++ l) (encode_all-append xs ys) ∙ sym (append_assoc (encode x) (encode_all xs) (encode_all ys))

-- a term has a byte at least
row-long : (ts : List Term) → length ts ≤ length (encode_all ts)
row-long [] = omega arith
row-long (t ∷ ts) = omega (arith, row-long ts, length-append (encode t) (encode_all ts), apart-size t)

module _ (s : List ℕ) (i n : ℕ) where
  pub none_here : n ≡ 0 → (ts : List Term) → TermsAt s i n ts → ts ≡ []
  none_here z [] w = refl
  none_here z (t ∷ ts) w = absurd (omega (arith, w.many))

  pub skip-none : n ≡ 0 → SkipIs s i n i
  skip-none z [] w = omega arith
  skip-none z (t ∷ ts) w = absurd (omega (arith, w.many))

  pub some_fits : Some s i n → (n ≤ length s) × (0 < n → i < length s)
  some_fits (ts, w) =
      let l : length s - i ≡ length (encode_all ts) + length w.rest = long s (encode_all ts) w.rest i w.bytes in
      (omega (arith, w.many, row-long ts), λ h. omega (arith, w.many, row-long ts))

  -- the first of them, and the others
  pub first : (t : Term) (ts : List Term) → TermsAt s i n (t ∷ ts) → TermAt s i t
  first t ts w = record { rest = encode_all ts ++ w.rest; bytes = w.bytes ∙ append_assoc (encode t) (encode_all ts) w.rest }

  pub others : (t : Term) (ts : List Term) → TermsAt s i n (t ∷ ts) → (m : ℕ) → m ≡ i + size t → TermsAt s m (n - 1) ts
  others t ts w m em =
      record {
        many = omega (arith, w.many);
        rest = w.rest;
        bytes = drop_app (encode t) _ s i m (w.bytes ∙ append_assoc (encode t) (encode_all ts) w.rest) em;
      }

  pub some_first : 0 < n → Some s i n → (t : Term) × TermAt s i t
  some_first l ([], w) = absurd (omega (arith, w.many))
  some_first l (t ∷ ts, w) = (t, first t ts w)

  -- the first one's parts in its place
  regroup : (a b c d : List ℕ) → ((a ++ b) ++ c) ++ d ≡ a ++ ((b ++ c) ++ d)
  regroup a b c d = simp append_assoc

  pub unrolled : (t : Term) (ts : List Term) → TermsAt s i n (t ∷ ts) → (h m : ℕ) → h ≡ i + length (head t) → m ≡ n - 1 + length (parts t) → TermsAt s h m (parts t ++ ts)
  unrolled t ts w h m eh em =
      record {
        many = omega (arith, w.many, length-append (parts t) ts);
        rest = w.rest;
        bytes =
            drop_app (head t) _ s i h
            (w.bytes ∙ ap (λ (z : List ℕ). (z ++ encode_all ts) ++ w.rest) (apart t) ∙ regroup (head t) (encode_all (parts t)) (encode_all ts) w.rest
            ∙ ap (λ (z : List ℕ). head t ++ (z ++ w.rest)) (sym (encode_all-append (parts t) ts))) eh;
      }

-- a term by itself is a row of one
pub alone : (s : List ℕ) (i : ℕ) (t : Term) → TermAt s i t → TermsAt s i 1 (t ∷ [])
alone s i t w = record { many = refl; rest = w.rest; bytes = w.bytes ∙ ap (λ (z : List ℕ). z ++ w.rest) (sym (append-nil (encode t))) }

pub some_alone : (s : List ℕ) (i : ℕ) → ((t : Term) × TermAt s i t) → Some s i 1
some_alone s i (t, w) = (t ∷ [], alone s i t w)

pub skip-one : (s : List ℕ) (i m : ℕ) → SkipIs s i 1 m → (t : Term) → TermAt s i t → m ≡ i + size t
skip-one s i m f t w = omega (arith, f (t ∷ []) (alone s i t w), ap (λ (z : List ℕ). length z) (append-nil (encode t)))

-- ---- at a term: its names, and where its parts start, by what `names_of`, `parts_of` and `after_names` ensure

pub some-names : (s : List ℕ) (i : ℕ) → ((t : Term) × TermAt s i t) → (q : ℕ) → q ≡ names_after (get_or s i 0) → (xs : List Name) × NamesAt s (i + 1) q xs
some-names s i (t, w) q e = (names t, rw (e ∙ at-count-names s i t w) (at_names s i t w))

pub starts : (s : List ℕ) (i q h : ℕ) → q ≡ names_after (get_or s i 0) → AfterIs s (i + 1) q h → (t : Term) → TermAt s i t → h ≡ i + length (head t)
starts s i q h e f t w = omega (arith, f (names t) (rw (e ∙ at-count-names s i t w) (at_names s i t w)))

-- ---- a turn of a loop over terms in a row: the first one's parts are put in its place

-- what a look at the term at i tells: its parts start at h, and there are p of them
abbrev pub LookIs : List ℕ → (i h p : ℕ) → Type 0
LookIs s i h p = (t : Term) → TermAt s i t → (h ≡ i + length (head t)) × (p ≡ length (parts t))

module _ (s : List ℕ) (i n h p : ℕ) (f : LookIs s i h p) (l : 0 < n) where
  pub turned : (t : Term) (ts : List Term) → TermsAt s i n (t ∷ ts) → TermsAt s h (n - 1 + p) (parts t ++ ts)
  turned t ts w = let e = f t (first s i n t ts w) in unrolled s i n t ts w h (n - 1 + p) e.0 (ap (λ (k : ℕ). n - 1 + k) e.1)

  pub turn-some : Some s i n → Some s h (n - 1 + p)
  turn-some ([], w) = absurd (omega (arith, w.many))
  turn-some (t ∷ ts, w) = (parts t ++ ts, turned t ts w)

  pub turn-fits : Some s i n → n - 1 + p ≤ length s
  turn-fits w = (some_fits s h (n - 1 + p) (turn-some w)).0

  pub turn-ahead : Some s i n → (i < length s) × (i < h)
  turn-ahead ([], w) = absurd (omega (arith, w.many))
  turn-ahead (t ∷ ts, w) = let a = first s i n t ts w in (at-inside s i t a, omega (arith, (f t a).0))

  turn-long : (t : Term) (ts : List Term) → length (encode t ++ encode_all ts) ≡ length (head t) + length (encode_all (parts t ++ ts))
  turn-long t ts =
      omega (
        arith,
        length-append (encode t) (encode_all ts),
        apart-size t,
        ap (λ (z : List ℕ). length z) (encode_all-append (parts t) ts),
        length-append (encode_all (parts t)) (encode_all ts),
      )

  pub turn-skip : (r : ℕ) → SkipIs s h (n - 1 + p) r → SkipIs s i n r
  turn-skip r g [] w = absurd (omega (arith, w.many))
  turn-skip r g (t ∷ ts) w = omega (arith, g (parts t ++ ts) (turned t ts w), (f t (first s i n t ts w)).0, turn-long t ts)
