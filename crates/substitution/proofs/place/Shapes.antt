-- Substitution and places by head and parts: a node that is not the variable keeps its head, and what is covered of its parts.
-- Assumes nothing.
use Prim.Native.Nat.{ℕ, ◌+◌, ◌/◌}
use mathlib.Core.Path.{◌≡◌, refl, sym, ap, ◌∙◌}
use mathlib.Core.Bool.{Bool, true, false, ◌||◌}
use mathlib.Core.List.{List, [], ◌∷◌, ◌++◌, append-nil}
use native.Mathlib.Omega.{arith}
use lib.ListN.{length, length-append}
use Rattle.std.specs.Prelude.{if◌then◌else◌}
use Rattle.rules.specs.Basic.{Bytes}
use Rattle.rules.specs.Name.{Name, same, encode_name, encode_names}
use Rattle.rules.specs.Term.{Term, var, leaf, one, two, abs, both, branch, encode, size, parts}
use Rattle.rules.specs.Substitution.{subst}
use Rattle.rules.specs.Free.{occurrences}
use Rattle.laws.specs.free.Same.{same-equal}
use Rattle.term.specs.Node.{head, encode_all, is_var, hides, hidden}
use Rattle.term.proofs.node.Terms.{apart}
use Rattle.substitution.specs.Places.{places, places_all}

never : false ≡ true → ⊥
never h = let z : ◌≡◌ {A = ℕ} 0 1 = cc in omega arith

-- a row of parts, with v for x but for those that the mask hides
abbrev pub subst_all : Name → Term → ℕ → List Term → List Term
subst_all x v m [] = []
subst_all x v m (t ∷ ts) = (if hidden m then t else subst x v t) ∷ subst_all x v (m / 2) ts

-- ---- the variable x

module _ (x : Name) where
  pub var-size : (t : Term) → is_var x t ≡ true → size t ≡ 2 + length x
  unfolding encode
  var-size (var y) h = omega (arith, ap (λ (z : List ℕ). length z) (same-equal x y h))
  var-size (leaf k) h = absurd (never h)
  var-size (one k e) h = absurd (never h)
  var-size (two k a b) h = absurd (never h)
  var-size (abs y e) h = absurd (never h)
  var-size (both k y z e b) h = absurd (never h)
  var-size (branch y z e l r) h = absurd (never h)

  pub var-parts : (t : Term) → is_var x t ≡ true → parts t ≡ []
  var-parts (var y) h = refl
  var-parts (leaf k) h = absurd (never h)
  var-parts (one k e) h = absurd (never h)
  var-parts (two k a b) h = absurd (never h)
  var-parts (abs y e) h = absurd (never h)
  var-parts (both k y z e b) h = absurd (never h)
  var-parts (branch y z e l r) h = absurd (never h)

  pub var-places : (t : Term) (at : ℕ) → is_var x t ≡ true → places x t at ≡ at ∷ []
  unfolding places
  var-places (var y) at h = rw h
  var-places (leaf k) at h = absurd (never h)
  var-places (one k e) at h = absurd (never h)
  var-places (two k a b) at h = absurd (never h)
  var-places (abs y e) at h = absurd (never h)
  var-places (both k y z e b) at h = absurd (never h)
  var-places (branch y z e l r) at h = absurd (never h)

  pub var-subst : (v t : Term) → is_var x t ≡ true → subst x v t ≡ v
  unfolding subst
  var-subst v (var y) h = rw h
  var-subst v (leaf k) h = absurd (never h)
  var-subst v (one k e) h = absurd (never h)
  var-subst v (two k a b) h = absurd (never h)
  var-subst v (abs y e) h = absurd (never h)
  var-subst v (both k y z e b) h = absurd (never h)
  var-subst v (branch y z e l r) h = absurd (never h)

  -- ---- any other term

  node-head : (v t : Term) → is_var x t ≡ false → head (subst x v t) ≡ head t
  unfolding subst
  node-head v (var y) h = rw h
  node-head v (leaf k) h = refl
  node-head v (one k e) h = refl
  node-head v (two k a b) h = refl
  node-head v (abs y e) h = refl
  node-head v (both k y z e b) h = refl
  node-head v (branch y z e l r) h = refl

sub-1 : (b : Bool) (e f : Term) → ◌≡◌ {A = List Term} ((if b then e else f) ∷ []) ((if hidden (if b then 1 else 0) then e else f) ∷ [])
sub-1 true e f = refl
sub-1 false e f = refl

sub-2 : (b : Bool) (a c e f : Term)
    → ◌≡◌ {A = List Term} (c ∷ (if b then e else f) ∷ []) ((if hidden (if b then 2 else 0) then a else c) ∷ (if hidden ((if b then 2 else 0) / 2) then e else f) ∷ [])
sub-2 true a c e f = refl
sub-2 false a c e f = refl

sub-3 : (b d : Bool) (a c e f g h : Term)
    → ◌≡◌ {A = List Term} (c ∷ (if b then e else f) ∷ (if d then g else h) ∷ [])
    ((if hidden ((if b then 2 else 0) + (if d then 4 else 0)) then a else c)
    ∷ (if hidden (((if b then 2 else 0) + (if d then 4 else 0)) / 2) then e else f)
    ∷ (if hidden (((if b then 2 else 0) + (if d then 4 else 0)) / 2 / 2) then g else h) ∷ [])
sub-3 true true a c e f g h = refl
sub-3 true false a c e f g h = refl
sub-3 false true a c e f g h = refl
sub-3 false false a c e f g h = refl

node-parts : (x : Name) (v t : Term) → is_var x t ≡ false → parts (subst x v t) ≡ subst_all x v (hides x t) (parts t)
unfolding subst
node-parts x v (var y) h = rw h
node-parts x v (leaf k) h = refl
node-parts x v (one k e) h = refl
node-parts x v (two k a b) h = refl
node-parts x v (abs y e) h = sub-1 (same x y) e (subst x v e)
node-parts x v (both k y z e b) h = sub-2 (same x y || same x z) e (subst x v e) b (subst x v b)
node-parts x v (branch y z e l r) h = sub-3 (same x y) (same x z) e (subst x v e) l (subst x v l) r (subst x v r)

pub node-subst : (x : Name) (v t : Term) → is_var x t ≡ false → encode (subst x v t) ≡ head t ++ encode_all (subst_all x v (hides x t) (parts t))
node-subst x v t h =
    apart (subst x v t)
    ∙ ap (λ (z : Bytes). z ++ encode_all (parts (subst x v t))) (node-head x v t h)
    ∙ ap (λ (z : List Term). head t ++ encode_all z) (node-parts x v t h)

place-1 : (b : Bool) (f : ℕ → List ℕ) (p q : ℕ) → p ≡ q → (if b then [] else f p) ≡ (if hidden (if b then 1 else 0) then [] else f q) ++ []
place-1 true f p q e = refl
place-1 false f p q e = rw e (sym (append-nil (f q)))

place-2 : (b : Bool) (f g : ℕ → List ℕ) (p q p' q' : ℕ) → p ≡ p' → q ≡ q'
    → f p ++ (if b then [] else g q) ≡ (if hidden (if b then 2 else 0) then [] else f p') ++ ((if hidden ((if b then 2 else 0) / 2) then [] else g q') ++ [])
place-2 true f g p q p' q' e d = rw e
place-2 false f g p q p' q' e d = rw (e, d) (ap (λ (z : List ℕ). f p' ++ z) (sym (append-nil (g q'))))

place-3 : (b d : Bool) (f g h : ℕ → List ℕ) (p q r p' q' r' : ℕ) → p ≡ p' → q ≡ q' → r ≡ r'
    → f p ++ ((if b then [] else g q) ++ (if d then [] else h r))
    ≡ (if hidden ((if b then 2 else 0) + (if d then 4 else 0)) then [] else f p')
    ++ ((if hidden (((if b then 2 else 0) + (if d then 4 else 0)) / 2) then [] else g q')
    ++ ((if hidden (((if b then 2 else 0) + (if d then 4 else 0)) / 2 / 2) then [] else h r') ++ []))
place-3 true true f g h p q r p' q' r' e i j = rw e
place-3 true false f g h p q r p' q' r' e i j = rw (e, j) (ap (λ (z : List ℕ). f p' ++ z) (sym (append-nil (h r'))))
place-3 false true f g h p q r p' q' r' e i j = rw (e, i)
place-3 false false f g h p q r p' q' r' e i j = rw (e, i, j) (ap (λ (z : List ℕ). f p' ++ (g q' ++ z)) (sym (append-nil (h r'))))

pub node-places : (x : Name) (t : Term) (at : ℕ) → is_var x t ≡ false → places x t at ≡ places_all x (hides x t) (parts t) (at + length (head t))
unfolding places
node-places x (var y) at h = rw h
node-places x (leaf k) at h = refl
node-places x (one k e) at h = sym (append-nil (places x e (at + 1)))
node-places x (two k a b) at h = ap (λ (z : List ℕ). places x a (at + 1) ++ z) (sym (append-nil (places x b (at + 1 + size a))))
node-places x (abs y e) at h =
    place-1 (same x y) (λ p. places x e p) (at + 1 + length (encode_name y)) (at + length (head (abs y e))) (omega (arith, length-append y []))
node-places x (both k y z e b) at h =
    let n : at + 1 + length (encode_name y) + length (encode_name z) ≡ at + length (head (both k y z e b)) = omega (arith, length-append y (encode_names (z ∷ [])), length-append z []) in
    place-2 (same x y || same x z) (λ p. places x e p) (λ p. places x b p) _ _ _ _ n (ap (λ (p : ℕ). p + size e) n)
node-places x (branch y z e l r) at h =
    let n : at + 1 + length (encode_name y) + length (encode_name z) ≡ at + length (head (branch y z e l r)) = omega (arith, length-append y (encode_names (z ∷ [])), length-append z []) in
    place-3 (same x y) (same x z) (λ p. places x e p) (λ p. places x l p) (λ p. places x r p) _ _ _ _ _ _ n (ap (λ (p : ℕ). p + size e) n) (ap (λ (p : ℕ). p + size e + size l) n)

-- ---- as many places as free occurrences

covered-many : (b : Bool) (x : Name) (t : Term) (at : ℕ) → length (places x t at) ≡ occurrences x t → length (if b then [] else places x t at) ≡ (if b then 0 else occurrences x t)
covered-many true x t at h = refl
covered-many false x t at h = h

pub places-many : (x : Name) (t : Term) (at : ℕ) → length (places x t at) ≡ occurrences x t
unfolding places occurrences
places-many x (var y) at = go (same x y)
  where
    go : (b : Bool) → length (if b then at ∷ [] else []) ≡ (if b then 1 else 0)
    go true = refl
    go false = refl
places-many x (leaf k) at = refl
places-many x (one k e) at = places-many x e (at + 1)
places-many x (two k a b) at =
    omega (arith, length-append (places x a (at + 1)) (places x b (at + 1 + size a)), places-many x a (at + 1), places-many x b (at + 1 + size a))
places-many x (abs y e) at = covered-many (same x y) x e _ (places-many x e _)
places-many x (both k y z e b) at =
    let p : ℕ = at + 1 + length (encode_name y) + length (encode_name z) in
    let c : Bool = same x y || same x z in
    omega (arith, length-append (places x e p) (if c then [] else places x b (p + size e)), places-many x e p, covered-many c x b (p + size e) (places-many x b (p + size e)))
places-many x (branch y z e l r) at =
    let p : ℕ = at + 1 + length (encode_name y) + length (encode_name z) in
    let m : List ℕ = if same x y then [] else places x l (p + size e) in
    let n : List ℕ = if same x z then [] else places x r (p + size e + size l) in
    omega (
      arith,
      length-append (places x e p) (m ++ n),
      length-append m n,
      places-many x e p,
      covered-many (same x y) x l (p + size e) (places-many x l (p + size e)),
      covered-many (same x z) x r (p + size e + size l) (places-many x r (p + size e + size l)),
    )
