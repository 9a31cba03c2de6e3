-- A term's bytes with a value spliced in at its places are the bytes of the substitution: by induction on the term, over the row of its parts.
-- Assumes nothing.
use Prim.Native.Nat.{ℕ, ◌+◌, ◌-◌, ◌/◌, ◌≤◌}
use mathlib.Core.Path.{◌≡◌, refl, sym, ap, ◌∙◌}
use mathlib.Core.Bool.{Bool, true, false}
use mathlib.Core.List.{List, [], ◌∷◌, ◌++◌, append-nil, append_assoc}
use native.Mathlib.Omega.{arith}
use lib.ListN.{length, drop, length-append}
use lib.Seq.{slice, slice_empty}
use Rattle.std.specs.Prelude.{if◌then◌else◌}
use Rattle.rules.specs.Basic.{Bytes}
use Rattle.rules.specs.Name.{Name}
use Rattle.rules.specs.Term.{Term, var, leaf, one, two, abs, both, branch, encode, size, parts}
use Rattle.rules.specs.Substitution.{subst}
use Rattle.buffer.specs.Writing.{slice-split, slice_is}
use Rattle.term.specs.Node.{head, encode_all, is_var, hides, hidden}
use Rattle.term.specs.Place.{TermAt, TermsAt}
use Rattle.term.proofs.node.Terms.{apart, at-parts, first, others, whole}
use Rattle.substitution.specs.Places.{places, open_places, places_all}
use Rattle.substitution.specs.Spliced.{spliced, Spaced}
use Rattle.substitution.proofs.place.Shapes.{subst_all, var-size, var-places, var-subst, node-subst, node-places}

module _ (s v : Bytes) (gap : ℕ) where
  -- a run in front of the first place
  flush : (i j : ℕ) (qs : List ℕ) (end : ℕ) → i ≤ j → Spaced gap j qs end → spliced s v gap i qs end ≡ slice i j s ++ spliced s v gap j qs end
  unfolding spliced
  flush i j [] end h w = slice-split i j end s h w
  flush i j (q ∷ qs) end h w =
      ap (λ (z : Bytes). z ++ (v ++ spliced s v gap (q + gap) qs end)) (slice-split i j q s h w.0)
      ∙ append_assoc (slice i j s) (slice j q s) (v ++ spliced s v gap (q + gap) qs end)

  sooner : (i j : ℕ) (qs : List ℕ) (end : ℕ) → i ≤ j → Spaced gap j qs end → Spaced gap i qs end
  sooner i j [] end h w = omega arith
  sooner i j (q ∷ qs) end h w = (omega (arith, w.0), w.1)

-- from i on stand the bytes `old`, at the places ps of which v goes in; `new` comes of it, whatever the places after it are
abbrev Becomes : (s v : Bytes) (gap i : ℕ) → (ps : List ℕ) (old new : Bytes) → Type 0
Becomes s v gap i ps old new =
    (qs : List ℕ) (end : ℕ) → Spaced gap (i + length old) qs end
    → (spliced s v gap i (ps ++ qs) end ≡ new ++ spliced s v gap (i + length old) qs end) × Spaced gap i (ps ++ qs) end

module _ (s : Bytes) (x : Name) (v : Term) where
  abbrev Put : ℕ → List ℕ → Bytes → Bytes → Type 0
  Put i ps old new = Becomes s (encode v) (2 + length x) i ps old new

  -- a run without places
  plain : (i : ℕ) (a b : Bytes) → drop i s ≡ a ++ b → Put i [] a a
  plain i a b e qs end w = (
    flush s (encode v) (2 + length x) i (i + length a) qs end (omega arith) w ∙ ap (λ (z : Bytes). z ++ spliced s (encode v) (2 + length x) (i + length a) qs end) (slice_is i s a b e),
    sooner s (encode v) (2 + length x) i (i + length a) qs end (omega arith) w,
  )

  -- the variable
  hit : (i : ℕ) (old : Bytes) → length old ≡ 2 + length x → Put i (i ∷ []) old (encode v)
  unfolding spliced
  hit i old e qs end w =
      let f : i + length old ≡ i + (2 + length x) = ap (λ (n : ℕ). i + n) e in (
        ap (λ (z : Bytes). z ++ (encode v ++ spliced s (encode v) (2 + length x) (i + (2 + length x)) qs end)) (slice_empty i s)
            ∙ ap (λ (k : ℕ). encode v ++ spliced s (encode v) (2 + length x) k qs end) (sym f),
        (omega arith, rw f at w),
      )

  -- one after the other
  joined : (i j : ℕ) (ps ps' : List ℕ) (a a' b b' : Bytes) → j ≡ i + length a → Put i ps a a' → Put j ps' b b' → Put i (ps ++ ps') (a ++ b) (a' ++ b')
  joined i j ps ps' a a' b b' ej f g qs end w =
      let l : i + length (a ++ b) ≡ j + length b = omega (arith, length-append a b) in
      let w' : Spaced (2 + length x) (j + length b) qs end = rw l at w in
      let y = g qs end w' in
      let z = f (ps' ++ qs) end (rw ej at y.1) in (
        ap (λ (r : List ℕ). spliced s (encode v) (2 + length x) i r end) (append_assoc ps ps' qs)
            ∙ z.0
            ∙ ap (λ (k : ℕ). a' ++ spliced s (encode v) (2 + length x) k (ps' ++ qs) end) (sym ej)
            ∙ ap (λ (r : Bytes). a' ++ r) y.0
            ∙ ap (λ (k : ℕ). a' ++ (b' ++ spliced s (encode v) (2 + length x) k qs end)) (sym l)
            ∙ sym (append_assoc a' b' (spliced s (encode v) (2 + length x) (i + length (a ++ b)) qs end)),
        rw append_assoc z.1,
      )

  -- a term, wherever it stands
  abbrev Law : Term → Type 0
  Law t = (i : ℕ) → TermAt s i t → Put i (places x t i) (encode t) (encode (subst x v t))

  abbrev Laws : List Term → Type 0
  Laws [] = Unit {0}
  Laws (t ∷ ts) = Law t × Laws ts

  part : (b : Bool) (t : Term) → Law t → (i : ℕ) → TermAt s i t → Put i (if b then [] else places x t i) (encode t) (encode (if b then t else subst x v t))
  part true t f i w = plain i (encode t) w.rest w.bytes
  part false t f i w = f i w

  row : (ts : List Term) → Laws ts → (m i n : ℕ) → TermsAt s i n ts → Put i (places_all x m ts i) (encode_all ts) (encode_all (subst_all x v m ts))
  row [] fs m i n w = plain i [] w.rest w.bytes
  row (t ∷ ts) fs m i n w =
      joined i (i + size t) (open_places x m t i) (places_all x (m / 2) ts (i + size t)) (encode t) (encode (if hidden m then t else subst x v t))
      (encode_all ts) (encode_all (subst_all x v (m / 2) ts)) refl
      (part (hidden m) t fs.0 i (first s i n t ts w)) (row ts fs.1 (m / 2) (i + size t) (n - 1) (others s i n t ts w (i + size t) refl))

  node : (t : Term) → is_var x t ≡ false → Laws (parts t) → Law t
  node t h fs i w =
      let j : ℕ = i + length (head t) in
      let ps : List ℕ = places_all x (hides x t) (parts t) j in
      let p : TermsAt s j (length (parts t)) (parts t) = at-parts s i t w j (length (parts t)) refl refl in
      let e : drop i s ≡ head t ++ (encode_all (parts t) ++ w.rest) = w.bytes ∙ ap (λ (z : Bytes). z ++ w.rest) (apart t) ∙ append_assoc (head t) (encode_all (parts t)) w.rest in
      rw (node-places x t i h, node-subst x v t h, apart t)
      (joined i j [] ps (head t) (head t) (encode_all (parts t)) (encode_all (subst_all x v (hides x t) (parts t))) refl (plain i (head t) _ e) (row (parts t) fs (hides x t) j _ p))

  either : (t : Term) → Laws (parts t) → Law t
  either t fs = go (is_var x t) refl
    where
      go : (b : Bool) → is_var x t ≡ b → Law t
      go true h i w = rw (var-places x t i h, var-subst x v t h) (hit i (encode t) (var-size x t h))
      go false h i w = node t h fs i w

  law : (t : Term) → Law t
  law (var y) = either (var y) tt
  law (leaf k) = either (leaf k) tt
  law (one k e) = either (one k e) (law e, tt)
  law (two k a b) = either (two k a b) (law a, (law b, tt))
  law (abs y e) = either (abs y e) (law e, tt)
  law (both k y z e b) = either (both k y z e b) (law e, (law b, tt))
  law (branch y z e l r) = either (branch y z e l r) (law e, (law l, (law r, tt)))

  laws : (ts : List Term) → Laws ts
  laws [] = tt
  laws (t ∷ ts) = (law t, laws ts)

  -- the places in a term that a mask may hide, and in terms in a row, lie apart and inside
  pub part-spaced : (t : Term) (m i : ℕ) → TermAt s i t → Spaced (2 + length x) i (open_places x m t i) (i + size t)
  part-spaced t m i w = rw append-nil at (part (hidden m) t (law t) i w [] (i + size t) (omega arith)).1

  pub row-spaced : (ts : List Term) (m i n : ℕ) → TermsAt s i n ts → Spaced (2 + length x) i (places_all x m ts i) (i + length (encode_all ts))
  row-spaced ts m i n w = rw append-nil at (row ts (laws ts) m i n w [] (i + length (encode_all ts)) (omega arith)).1

-- what comes of a whole term
module _ (x : Name) (v t : Term) (s : Bytes) (e : s ≡ encode t) where
  long : 0 + size t ≡ length s
  long = omega (arith, ap (λ (z : Bytes). length z) e)

  all : (spliced s (encode v) (2 + length x) 0 (places x t 0 ++ []) (length s) ≡ encode (subst x v t) ++ spliced s (encode v) (2 + length x) (0 + size t) [] (length s)) × Spaced (2 + length x) 0 (places x t 0 ++ []) (length s)
  all = law s x v t 0 (whole t s e) [] (length s) (omega (arith, long))

  pub spliced-term : spliced s (encode v) (2 + length x) 0 (places x t 0) (length s) ≡ encode (subst x v t)
  unfolding spliced
  spliced-term =
      ap (λ (r : List ℕ). spliced s (encode v) (2 + length x) 0 r (length s)) (sym (append-nil (places x t 0)))
      ∙ all.0
      ∙ ap (λ (k : ℕ). encode (subst x v t) ++ slice k (length s) s) long
      ∙ ap (λ (z : Bytes). encode (subst x v t) ++ z) (slice_empty (length s) s)
      ∙ append-nil (encode (subst x v t))

  pub spaced-term : Spaced (2 + length x) 0 (places x t 0) (length s)
  spaced-term = rw append-nil at all.1
