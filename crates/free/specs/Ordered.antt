-- Ordered lists of names: an ordered list is known by its members alone; putting a name in, taking one out and joining two keep the order,
-- so the free names stand in order. By induction on the lists, and the laws of the order. Assumes nothing.
use Rattle.std.specs.Prelude.{◌≡◌, refl, Bool, true, false, ◌||◌, List, [], ◌∷◌, if◌then◌else◌}
use Rattle.std.proofs.Common.{sym, ◌∙◌}
use Rattle.rules.specs.Name.{Name, same, before, among}
use Rattle.rules.specs.Term.{Term, var, leaf, one, two, abs, both, branch}
use Rattle.rules.specs.Free.{insert, union, without, free}
use Rattle.laws.specs.free.Same.{same-itself, same-equal}
use Rattle.laws.specs.order.Compare.{never, before-trans, before-apart, Trichotomy, is, below, above, compare}

-- x is before each of them
abbrev pub Below : Name → List Name → Type 0
Below x [] = Unit {0}
Below x (y ∷ ys) = (before x y ≡ true) × Below x ys

abbrev pub Ordered : List Name → Type 0
Ordered [] = Unit {0}
Ordered (x ∷ xs) = Below x xs × Ordered xs

pub below_all : (x y : Name) (l : List Name) → before x y ≡ true → Below y l → Below x l
below_all x y [] e b = tt
below_all x y (z ∷ l) e b = (before-trans x y z e b.0, below_all x y l e b.1)

-- what is before each of them is none of them
pub below_none : (x : Name) (l : List Name) → Below x l → among x l ≡ false
below_none x [] b = refl
below_none x (y ∷ l) b = rw (before-apart x y b.0) (below_none x l b.1)

-- AN ORDERED LIST IS KNOWN BY ITS MEMBERS
pub by_members : (l m : List Name) → Ordered l → Ordered m → ((z : Name) → among z l ≡ among z m) → l ≡ m
by_members [] [] o p h = refl
by_members [] (y ∷ m) o p h = let c : among y (y ∷ m) ≡ true = rw (same-itself y) in never (sym c ∙ sym (h y))
by_members (x ∷ l) [] o p h = let c : among x (x ∷ l) ≡ true = rw (same-itself x) in never (sym c ∙ h x)
by_members (x ∷ l) (y ∷ m) o p h = go (compare x y) (by_members l m o.1 p.1)
  where
    tails : x ≡ y → (z : Name) → among z l ≡ among z m
    tails e z = on (same z x) refl (same z y) refl (h z)
      where
        on : (s : Bool) → same z x ≡ s → (t : Bool) → same z y ≡ t → (s || among z l) ≡ (t || among z m) → among z l ≡ among z m
        on true a t b k =
            let zx : z ≡ x = same-equal z x a in
            let c : among z l ≡ false = rw zx (below_none x l o.0) in
            let d : among z m ≡ false = rw (zx ∙ e) (below_none y m p.0) in
            c ∙ sym d
        on false a true b k =
            let zy : z ≡ y = same-equal z y b in
            let c : among z l ≡ false = rw (zy ∙ sym e) (below_none x l o.0) in
            let d : among z m ≡ false = rw zy (below_none y m p.0) in
            c ∙ sym d
        on false a false b k = k

    go : Trichotomy x y → (((z : Name) → among z l ≡ among z m) → l ≡ m) → (x ∷ l) ≡ (y ∷ m)
    go (is i a b) k = let e : x ≡ y = same-equal x y i in let d : l ≡ m = k (tails e) in cc
    go (below i a b) k =
        let c : among x (x ∷ l) ≡ true = rw (same-itself x) in
        let d : among x (y ∷ m) ≡ false = rw i (below_none x m (below_all x y m a p.0)) in
        never (sym c ∙ h x ∙ d)
    go (above i a b) k =
        let c : among y (x ∷ l) ≡ false = rw (before-apart y x b) (below_none y l (below_all y x l b o.0)) in
        let d : among y (y ∷ m) ≡ true = rw (same-itself y) in
        never (sym d ∙ sym (h y) ∙ c)

-- ---- a name put in

below-insert : (y x : Name) (l : List Name) → before y x ≡ true → Below y l → Below y (insert x l)
unfolding insert
below-insert y x [] e b = (e, tt)
below-insert y x (w ∷ l) e b = go (compare x w) (below-insert y x l e b.1)
  where
    go : Trichotomy x w → Below y (insert x l) → Below y (if same x w then w ∷ l else (if before x w then x ∷ w ∷ l else w ∷ insert x l))
    go (is i m n) k = rw i b
    go (below i m n) k = rw (i, m) (e, b)
    go (above i m n) k = rw (i, m) (b.0, k)

pub ordered-insert : (x : Name) (l : List Name) → Ordered l → Ordered (insert x l)
unfolding insert
ordered-insert x [] o = (tt, tt)
ordered-insert x (y ∷ l) o = go (compare x y) (ordered-insert x l o.1)
  where
    go : Trichotomy x y → Ordered (insert x l) → Ordered (if same x y then y ∷ l else (if before x y then x ∷ y ∷ l else y ∷ insert x l))
    go (is i m n) k = rw i o
    go (below i m n) k = rw (i, m) ((m, below_all x y l m o.0), o)
    go (above i m n) k = rw (i, m) (below-insert y x l n o.0, k)

-- ---- two lists joined

pub ordered-union : (l m : List Name) → Ordered m → Ordered (union l m)
unfolding union
ordered-union [] m o = o
ordered-union (x ∷ l) m o = ordered-insert x (union l m) (ordered-union l m o)

-- ---- a name taken out

below-without : (y x : Name) (l : List Name) → Below y l → Below y (without x l)
unfolding without
below-without y x [] b = tt
below-without y x (w ∷ l) b = go (same x w) refl (below-without y x l b.1)
  where
    go : (t : Bool) → same x w ≡ t → Below y (without x l) → Below y (if same x w then without x l else w ∷ without x l)
    go true e k = rw e k
    go false e k = rw e (b.0, k)

pub ordered-without : (x : Name) (l : List Name) → Ordered l → Ordered (without x l)
unfolding without
ordered-without x [] o = tt
ordered-without x (y ∷ l) o = go (same x y) refl (ordered-without x l o.1)
  where
    go : (t : Bool) → same x y ≡ t → Ordered (without x l) → Ordered (if same x y then without x l else y ∷ without x l)
    go true e k = rw e k
    go false e k = rw e (below-without y x l o.0, k)

-- ---- the free names of a term stand in order

pub ordered-free : (t : Term) → Ordered (free t)
unfolding free
ordered-free (var x) = (tt, tt)
ordered-free (leaf k) = tt
ordered-free (one k e) = ordered-free e
ordered-free (two k a b) = ordered-union (free a) (free b) (ordered-free b)
ordered-free (abs x e) = ordered-without x (free e) (ordered-free e)
ordered-free (both k x y e b) = ordered-union (free e) _ (ordered-without x _ (ordered-without y (free b) (ordered-free b)))
ordered-free (branch x y e l r) = ordered-union (free e) _ (ordered-union _ _ (ordered-without y (free r) (ordered-free r)))
