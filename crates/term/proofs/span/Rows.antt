-- How each of the eight redexes is laid out, wherever it stands: where its names stand, and the row of its parts behind the heads of the
-- node and of its first part. By the sizes of nodes. Assumes nothing.
use Prim.Native.Nat.{ℕ, ◌+◌, ◌-◌, ◌<◌, ◌≤◌}
use mathlib.Core.Path.{◌≡◌, refl, ap, ◌∙◌}
use mathlib.Core.List.{List, [], ◌∷◌, ◌++◌}
use native.Mathlib.Omega.{arith}
use lib.ListN.{length, get_or, take, drop, length-append}
use lib.Seq.{take_at}
use Rattle.rules.specs.Basic.{Bytes}
use Rattle.rules.specs.Name.{Name, encode_name, encode_names}
use Rattle.rules.specs.Term.{Term, one, two, abs, both, branch, One, Two, pair, app, Both, one_tag, encode, nodes, size, parts}
use Rattle.rules.specs.Step.{name_bytes}
use Rattle.term.specs.Node.{head}
use Rattle.term.specs.Place.{TermAt, TermsAt, NameAt, NamesAt}
use Rattle.term.proofs.node.Names.{AfterIs, drop_app, first-name, other-names, name-end}
use Rattle.term.proofs.node.Terms.{at_tag, at-inside, at_names, at-parts, first, unrolled}
use Rattle.term.specs.Measured.{MeasuredTwo, Named}
use Rattle.term.specs.declared.span.Two.{Two as Spans}
use Rattle.term.specs.declared.span.Names.{Names}

-- the bytes of a name, and of a term, as a part of a slice
pub name-part : (s : Bytes) (p q : ℕ) (x : Name) → NameAt s p x → q ≡ p + name_bytes x → take (q - (p + 1)) (drop (p + 1) s) ≡ x
name-part s p q x w e =
    let d : drop (p + 1) s ≡ x ++ w.rest = drop_app (length x ∷ []) _ s p (p + 1) w.bytes refl in
    ap (λ (z : Bytes). take (q - (p + 1)) z) d ∙ take_at x w.rest (q - (p + 1)) (omega arith)

pub term-part : (s : Bytes) (p q : ℕ) (u : Term) → TermAt s p u → q ≡ p + size u → take (q - p) (drop p s) ≡ encode u
term-part s p q u w e = ap (λ (z : Bytes). take (q - p) z) w.bytes ∙ take_at (encode u) w.rest (q - p) (omega arith)

-- ---- sizes of nodes

pub size-one : (k : One) (e : Term) → size (one k e) ≡ 1 + size e
unfolding encode
size-one k e = omega arith

size-two : (k : Two) (a b : Term) → size (two k a b) ≡ 1 + (size a + size b)
unfolding encode
size-two k a b = omega (arith, length-append (encode a) (encode b))

size-abs : (x : Name) (e : Term) → size (abs x e) ≡ 1 + name_bytes x + size e
unfolding encode
size-abs x e = omega (arith, length-append (encode_name x) (encode e))

names-size : (x y : Name) (l : Bytes) → length (encode_name x ++ (encode_name y ++ l)) ≡ name_bytes x + name_bytes y + length l
names-size x y l = omega (arith, length-append (encode_name x) (encode_name y ++ l), length-append (encode_name y) l)

size-both : (k : Both) (x y : Name) (e b : Term) → size (both k x y e b) ≡ 1 + name_bytes x + name_bytes y + (size e + size b)
unfolding encode
size-both k x y e b = omega (arith, names-size x y (encode e ++ encode b), length-append (encode e) (encode b))

size-branch : (x y : Name) (e l r : Term) → size (branch x y e l r) ≡ 1 + name_bytes x + name_bytes y + (size e + (size l + size r))
unfolding encode
size-branch x y e l r =
    omega (arith, names-size x y (encode e ++ (encode l ++ encode r)), length-append (encode e) (encode l ++ encode r), length-append (encode l) (encode r))

heads-long : (k : ℕ) (x y : Name) → length (k ∷ encode_names (x ∷ y ∷ [])) ≡ 1 + name_bytes x + name_bytes y
heads-long k x y = omega (arith, length-append (encode_name x) (encode_names (y ∷ [])), length-append (encode_name y) [])

-- ---- the two names of a binder

module _ (src : Bytes) (place : ℕ) {x y : Name} (w : NamesAt src (place + 1) 2 (x ∷ y ∷ [])) {r : Names} (m : Named (place + 1) x y r) where
  x-at : NameAt src (place + 1) x
  x-at = first-name src (place + 1) 2 x (y ∷ []) w

  y-at : NameAt src r.second y
  y-at = first-name src r.second 1 y [] (other-names src (place + 1) 2 x (y ∷ []) w r.second m.second)

  pub past-names : (place + 2 ≤ r.second) × (r.second + 1 ≤ r.end)
  past-names = (omega (arith, m.second), omega (arith, m.end))

  names-end : r.end ≡ place + 1 + name_bytes x + name_bytes y
  names-end = omega (arith, m.second, m.end)

  pub x-is : take (r.second - (place + 2)) (drop (place + 2) src) ≡ x
  x-is =
      let d : place + 1 + 1 ≡ place + 2 = omega arith in
      rw d at (name-part src (place + 1) r.second x x-at m.second)

  pub y-is : take (r.end - (r.second + 1)) (drop (r.second + 1) src) ≡ y
  y-is = name-part src r.second r.end y y-at m.end

-- ---- parts in a row, behind so many heads

-- a and b, and a, b and d, are the parts of t
pub record InTwo (src : Bytes) (place at heads : ℕ) (t a b : Term) : Type 0 where
  pub row : TermsAt src at 2 (a ∷ b ∷ [])
  pub past : place ≤ at
  pub ends : at + size a + size b ≡ place + size t
  pub count : nodes t ≡ heads + (nodes a + nodes b)

pub record InThree (src : Bytes) (place at heads : ℕ) (t a b d : Term) : Type 0 where
  pub row : TermsAt src at 3 (a ∷ b ∷ d ∷ [])
  pub past : place ≤ at
  pub ends : at + size a + size b + size d ≡ place + size t
  pub count : nodes t ≡ heads + (nodes a + nodes b + nodes d)

module _ {src : Bytes} {place at heads : ℕ} {t a b : Term} (i : InTwo src place at heads t a b) {r : Spans} (m : MeasuredTwo at a b r) where
  pub a_at : TermAt src at a
  a_at = first src at 2 a (b ∷ []) i.row

-- the parts of the first part, then the others
row : (src : Bytes) (place : ℕ) (t : Term) → TermAt src place t → (u : Term) (ts : List Term) → parts t ≡ u ∷ ts
    → (h h' k : ℕ) → h ≡ place + length (head t) → h' ≡ h + length (head u) → k ≡ length (parts u) + length ts → TermsAt src h' k (parts u ++ ts)
row src place t w u ts e h h' k eh eh' ek =
    unrolled src h (length (u ∷ ts)) u ts (rw e at (at-parts src place t w h (length (parts t)) eh refl)) h' k eh' (ek ∙ omega arith)

-- ---- the layouts

module _ {src : Bytes} {place : ℕ} where
  -- Fst and Snd of Pair
  pub of_pair : (k : One) (a b : Term) → TermAt src place (one k (two pair a b)) → InTwo src place (place + 2) 2 (one k (two pair a b)) a b
  unfolding nodes
  of_pair k a b w =
      record {
        row = row src place _ w (two pair a b) [] refl (place + 1) (place + 2) 2 refl (omega arith) refl;
        past = omega arith;
        ends = omega (arith, size-one k (two pair a b), size-two pair a b);
        count = omega arith;
      }

  -- Discard
  pub of_two : (k : Two) (a b : Term) → TermAt src place (two k a b) → InTwo src place (place + 1) 1 (two k a b) a b
  unfolding nodes
  of_two k a b w =
      record {
        row = at-parts src place (two k a b) w (place + 1) 2 refl refl;
        past = omega arith;
        ends = omega (arith, size-two k a b);
        count = omega arith;
      }

  -- Derelict of Promote
  pub of_one : (k l : One) (v : Term) → TermAt src place (one k (one l v)) → TermAt src (place + 2) v
  of_one k l v w = first src (place + 2) 1 v [] (row src place _ w (one l v) [] refl (place + 1) (place + 2) 1 refl (omega arith) refl)

  -- App of Abs
  pub app-name : (x : Name) (e a : Term) → TermAt src place (two app (abs x e) a) → NamesAt src (place + 2) 1 (x ∷ [])
  app-name x e a w =
      let v : TermAt src (place + 1) (abs x e) = first src (place + 1) 2 (abs x e) (a ∷ []) (at-parts src place (two app (abs x e) a) w (place + 1) 2 refl refl) in
      let d : place + 1 + 1 ≡ place + 2 = omega arith in
      rw d at (at_names src (place + 1) (abs x e) v)

  of-app : (x : Name) (e a : Term) → TermAt src place (two app (abs x e) a) → (body : ℕ) → body ≡ place + 2 + name_bytes x → InTwo src place body 2 (two app (abs x e) a) e a
  unfolding nodes
  of-app x e a w body h =
      record {
        row = row src place _ w (abs x e) (a ∷ []) refl (place + 1) body 2 refl (omega (arith, length-append (encode_name x) [])) refl;
        past = omega arith;
        ends = omega (arith, size-two app (abs x e) a, size-abs x e);
        count = omega arith;
      }

  module _ {x : Name} {e a : Term} (w : TermAt src place (two app (abs x e) a)) {body : ℕ} (g : AfterIs src (place + 2) 1 body) where
    name-here : NameAt src (place + 2) x
    name-here = first-name src (place + 2) 1 x [] (app-name x e a w)

    name-ends : body ≡ place + 2 + name_bytes x
    name-ends = name-end src (place + 2) body g x name-here

    pub in_app : InTwo src place body 2 (two app (abs x e) a) e a
    in_app = of-app x e a w body name-ends

    pub past-name : place + 3 ≤ body
    past-name = omega (arith, name-ends)

    pub name-is : take (body - (place + 3)) (drop (place + 3) src) ≡ x
    name-is =
        let d : place + 2 + 1 ≡ place + 3 = omega arith in
        rw d at (name-part src (place + 2) body x name-here name-ends)

  -- Copy and LetPair: the names, then the parts
  pub both-names : (k : Both) (x y : Name) (e b : Term) → TermAt src place (both k x y e b) → NamesAt src (place + 1) 2 (x ∷ y ∷ [])
  both-names k x y e b w = at_names src place (both k x y e b) w

  of-both : (k : Both) (x y : Name) (e b : Term) → TermAt src place (both k x y e b) → (at : ℕ) → at ≡ place + 1 + name_bytes x + name_bytes y → InTwo src place at 1 (both k x y e b) e b
  unfolding nodes
  of-both k x y e b w at h =
      record {
        row = at-parts src place (both k x y e b) w at 2 (omega (arith, heads-long 0 x y)) refl;
        past = omega arith;
        ends = omega (arith, size-both k x y e b);
        count = omega arith;
      }

  of-let : (k : Both) (x y : Name) (a b e : Term) → TermAt src place (both k x y (two pair a b) e) → (h : ℕ) → h ≡ place + 1 + name_bytes x + name_bytes y
      → InThree src place (h + 1) 2 (both k x y (two pair a b) e) a b e
  unfolding nodes
  of-let k x y a b e w h eh =
      record {
        row = row src place _ w (two pair a b) (e ∷ []) refl h (h + 1) 3 (omega (arith, heads-long 0 x y)) refl refl;
        past = omega arith;
        ends = omega (arith, size-both k x y (two pair a b) e, size-two pair a b);
        count = omega arith;
      }

  module _ {k : Both} {x y : Name} {s e : Term} (w : TermAt src place (both k x y s e)) {r : Names} (m : Named (place + 1) x y r) where
    pub in_both : InTwo src place r.end 1 (both k x y s e) s e
    in_both = of-both k x y s e w r.end (names-end src place (both-names k x y s e w) m)

  module _ {k : Both} {x y : Name} {a b e : Term} (w : TermAt src place (both k x y (two pair a b) e)) {r : Names} (m : Named (place + 1) x y r) where
    pub in-let : InThree src place (r.end + 1) 2 (both k x y (two pair a b) e) a b e
    in-let = of-let k x y a b e w r.end (names-end src place (both-names k x y (two pair a b) e w) m)

  -- Case: the same, and the scrutinee's tag
  pub branch-names : (x y : Name) (e l r : Term) → TermAt src place (branch x y e l r) → NamesAt src (place + 1) 2 (x ∷ y ∷ [])
  branch-names x y e l r w = at_names src place (branch x y e l r) w

  of-branch : (x y : Name) (k : One) (v l r : Term) → TermAt src place (branch x y (one k v) l r) → (h : ℕ) → h ≡ place + 1 + name_bytes x + name_bytes y
      → InThree src place (h + 1) 2 (branch x y (one k v) l r) v l r
  unfolding nodes
  of-branch x y k v l r w h eh =
      record {
        row = row src place _ w (one k v) (l ∷ r ∷ []) refl h (h + 1) 3 (omega (arith, heads-long 0 x y)) refl refl;
        past = omega arith;
        ends = omega (arith, size-branch x y (one k v) l r, size-one k v);
        count = omega arith;
      }

  module _ {x y : Name} {k : One} {v l r : Term} (w : TermAt src place (branch x y (one k v) l r)) {p : Names} (m : Named (place + 1) x y p) where
    ends_at : p.end ≡ place + 1 + name_bytes x + name_bytes y
    ends_at = names-end src place (branch-names x y (one k v) l r w) m

    pub in-branch : InThree src place (p.end + 1) 2 (branch x y (one k v) l r) v l r
    in-branch = of-branch x y k v l r w p.end ends_at

    scrutinee-at : TermAt src p.end (one k v)
    scrutinee-at = first src p.end 3 (one k v) (l ∷ r ∷ []) (at-parts src place (branch x y (one k v) l r) w p.end 3 (omega (arith, ends_at, heads-long 0 x y)) refl)

    pub scrutinee-inside : p.end < length src
    scrutinee-inside = at-inside src p.end (one k v) scrutinee-at

    pub scrutinee-tag : get_or src p.end 0 ≡ one_tag k
    scrutinee-tag = at_tag src p.end (one k v) scrutinee-at
