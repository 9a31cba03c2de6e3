-- Where a name goes into an ordered list: behind those that are before it. What a search by halves may conclude from one comparison,
-- and what putting the name there makes of the list. By induction on the list. Assumes nothing.
use Rattle.std.specs.Prelude.{ℕ, zero, suc, ◌<◌, ◌≤◌, ◌≡◌, refl, Bool, true, false, ◌||◌, List, [], ◌∷◌, ◌++◌, length, get_or, take, drop}
use Rattle.std.proofs.Common.{sym, ap, ◌∙◌, ⊎_elim, le_of_suc-le-suc, not-suc-le-zero, eq-or-lt_of_le, arith}
use Rattle.std.proofs.Math.Bool.{or-true}
use Rattle.rules.specs.Name.{Name, same, before, among}
use Rattle.rules.specs.Free.{insert}
use Rattle.laws.specs.free.Same.{same-equal, same-turned}
use Rattle.laws.specs.free.Occurrences.{among-insert}
use Rattle.laws.specs.order.Compare.{never, before-trans, before-apart, before-one-way, Trichotomy, is, below, above, compare}
use Rattle.free.specs.Ordered.{Below, Ordered, by_members, ordered-insert}

-- the name at i
abbrev pub at : List Name → ℕ → Name
at l i = get_or l i []

below_at : (x : Name) (l : List Name) → Below x l → (i : ℕ) → i < length l → before x (at l i) ≡ true
below_at x [] b i h = absurd (not-suc-le-zero h)
below_at x (y ∷ l) b zero h = b.0
below_at x (y ∷ l) b (suc i) h = below_at x l b.1 i (le_of_suc-le-suc h)

pub ordered_at : (l : List Name) → Ordered l → (i j : ℕ) → i < j → j < length l → before (at l i) (at l j) ≡ true
ordered_at [] o i j h k = absurd (not-suc-le-zero k)
ordered_at (y ∷ l) o i zero h k = absurd (not-suc-le-zero h)
ordered_at (y ∷ l) o zero (suc j) h k = below_at y l o.0 j (le_of_suc-le-suc k)
ordered_at (y ∷ l) o (suc i) (suc j) h k = ordered_at l o.1 i j (le_of_suc-le-suc h) (le_of_suc-le-suc k)

-- every name below lo is before x; none from hi on is
pub record Between (x : Name) (l : List Name) (lo hi : ℕ) : Type 0 where
  pub left : (i : ℕ) → i < lo → before (at l i) x ≡ true
  pub right : (i : ℕ) → hi ≤ i → i < length l → before (at l i) x ≡ false

pub everywhere : (x : Name) (l : List Name) → Between x l 0 (length l)
everywhere x l = record { left = λ i h. absurd (not-suc-le-zero h); right = λ i h k. absurd (omega arith) }

module _ (x : Name) (l : List Name) (o : Ordered l) (lo hi m : ℕ) (w : Between x l lo hi) (in-l : m < length l) where
  -- the name at m is before x
  pub go_right : before (at l m) x ≡ true → Between x l (suc m) hi
  go_right e = record { left = λ i h. go i (le_of_suc-le-suc h); right = w.right }
    where
      go : (i : ℕ) → i ≤ m → before (at l i) x ≡ true
      go i h = ⊎_elim (λ q. rw q e) (λ q. before-trans (at l i) (at l m) x (ordered_at l o i m q in-l) e) (eq-or-lt_of_le h)

  -- the name at m is not before x, so none behind it is
  pub go_left : before (at l m) x ≡ false → Between x l lo m
  go_left e = record { left = w.left; right = λ i h k. ⊎_elim (λ q. rw (← q) e) (λ q. go i k q (before (at l i) x) refl) (eq-or-lt_of_le h) }
    where
      go : (i : ℕ) → i < length l → m < i → (b : Bool) → before (at l i) x ≡ b → before (at l i) x ≡ false
      go i k q false d = d
      go i k q true d = never (sym (before-trans (at l m) (at l i) x (ordered_at l o m i q k) d) ∙ e)

-- ---- a name that is there already

pub among-at : (x : Name) (l : List Name) (i : ℕ) → i < length l → same x (at l i) ≡ true → among x l ≡ true
among-at x [] i h e = absurd (not-suc-le-zero h)
among-at x (y ∷ l) zero h e = rw e
among-at x (y ∷ l) (suc i) h e = rw (among-at x l i (le_of_suc-le-suc h) e) (or-true (same x y))

pub insert-there : (x : Name) (l : List Name) → Ordered l → (i : ℕ) → i < length l → same x (at l i) ≡ true → insert x l ≡ l
insert-there x l o i h e = by_members (insert x l) l (ordered-insert x l o) o (λ z. among-insert z x l ∙ go z (same z x) refl)
  where
    go : (z : Name) (b : Bool) → same z x ≡ b → (same z x || among z l) ≡ among z l
    go z true d = let q : among z l ≡ true = rw (same-equal z x d) (among-at x l i h e) in rw (d, q)
    go z false d = rw d

-- ---- a name that is new

new-first : (x y : Name) → before y x ≡ false → same x y ≡ false → before x y ≡ true
new-first x y e d = go (compare x y)
  where
    go : Trichotomy x y → before x y ≡ true
    go (is i m n) = never (sym i ∙ d)
    go (below i m n) = m
    go (above i m n) = never (sym n ∙ e)

pub insert-new : (x : Name) (l : List Name) (i : ℕ) → i ≤ length l → Between x l i i → (i < length l → same x (at l i) ≡ false) → insert x l ≡ take i l ++ x ∷ drop i l
unfolding insert
insert-new x [] zero h w f = refl
insert-new x [] (suc i) h w f = absurd (not-suc-le-zero h)
insert-new x (y ∷ l) zero h w f =
    let s : same x y ≡ false = f (omega arith) in
    let b : before x y ≡ true = new-first x y (w.right 0 (omega arith) (omega arith)) s in
    rw (s, b)
insert-new x (y ∷ l) (suc i) h w f =
    let b : before y x ≡ true = w.left 0 (omega arith) in
    rw (same-turned x y ∙ before-apart y x b, before-one-way y x b) (ap (λ z. y ∷ z) (insert-new x l i (le_of_suc-le-suc h)
    (record { left = λ j k. w.left (suc j) (omega arith); right = λ j k k'. w.right (suc j) (omega arith) (omega arith) })
    (λ k. f (omega arith))))
