-- The names that occur free are those of the list `free`: by induction on the term, over which names insert, union and without leave.
-- Assumes nothing.
use Prim.Native.Nat.{ℕ, zero, suc, ◌+◌}
use Rattle.std.specs.Prelude.{◌≡◌, Bool, ◌&&◌, ◌||◌, not, if◌then◌else◌}
use Rattle.std.proofs.Math.Path.{refl, sym, ap}
use Rattle.std.proofs.Common.{ap₂, ◌∙◌, zero-add, arith, lt-ltb}
use Rattle.std.proofs.Math.Bool.{true, false, or_assoc, or-true, or-false, or_self_left, and-false}
use mathlib.Core.List.{List, [], ◌∷◌}
use Rattle.rules.specs.Basic.{◌<?◌}
use Rattle.rules.specs.Name.{Name, same, among, before}
use Rattle.rules.specs.Term.{Term, var, leaf, one, two, abs, both, branch}
use Rattle.rules.specs.Free.{insert, union, without, free, occurrences}
use Rattle.laws.specs.free.Same.{same-equal}

swap : (a b c : Bool) → (a || (b || c)) ≡ (b || (a || c))
swap true b c = sym (or-true b)
swap false b c = refl

drops : (a b : Bool) → (not a && b) ≡ (not a && (a || b))
drops true b = refl
drops false b = refl

keeps : (a b c : Bool) → (a ≡ true → b ≡ false) → (b || (not a && c)) ≡ (not a && (b || c))
keeps true b c h = rw (h refl)
keeps false b c h = refl

-- when a count is not 0
pub some_of : (m n : ℕ) → (0 <? (m + n)) ≡ ((0 <? m) || (0 <? n))
some_of zero n = rw (zero-add n)
some_of (suc m) n = lt-ltb 0 (suc m + n) (omega arith) ∙ sym (ap (λ b. b || (0 <? n)) (lt-ltb 0 (suc m) (omega arith)))

pub some_left : (b : Bool) (n : ℕ) → (0 <? (if b then 0 else n)) ≡ (not b && (0 <? n))
some_left true n = refl
some_left false n = refl

one-or-none : (b : Bool) → b ≡ (0 <? (if b then 1 else 0))
one-or-none true = refl
one-or-none false = refl

hidden-twice : (a b : Bool) (n : ℕ) → (if a then 0 else (if b then 0 else n)) ≡ (if a || b then 0 else n)
hidden-twice true b n = refl
hidden-twice false b n = refl

module _ (z : Name) where
  pub among-insert : (x : Name) (ys : List Name) → among z (insert x ys) ≡ (same z x || among z ys)
  unfolding insert
  among-insert x [] = refl
  among-insert x (y ∷ ys) = go (among-insert x ys) (same x y) (before x y) refl
    where
      go : among z (insert x ys) ≡ (same z x || among z ys) → (a b : Bool) → same x y ≡ a
          → among z (if a then y ∷ ys else (if b then x ∷ y ∷ ys else y ∷ insert x ys)) ≡ (same z x || (same z y || among z ys))
      go h true b e = rw (same-equal x y e) (sym (or_self_left (same z y) (among z ys)))
      go h false true e = refl
      go h false false e = rw h (swap (same z y) (same z x) (among z ys))

  pub among-union : (xs ys : List Name) → among z (union xs ys) ≡ (among z xs || among z ys)
  unfolding union
  among-union [] ys = refl
  among-union (x ∷ xs) ys = among-insert x (union xs ys) ∙ rw (among-union xs ys) (sym (or_assoc (same z x) (among z xs) (among z ys)))

  pub among-without : (x : Name) (ys : List Name) → among z (without x ys) ≡ (not (same z x) && among z ys)
  unfolding without
  among-without x [] = sym (and-false (not (same z x)))
  among-without x (y ∷ ys) = go (among-without x ys) (same x y) refl
    where
      go : among z (without x ys) ≡ (not (same z x) && among z ys) → (a : Bool) → same x y ≡ a
          → among z (if a then without x ys else y ∷ without x ys) ≡ (not (same z x) && (same z y || among z ys))
      go h true e = rw (h, same-equal x y e) (drops (same z y) (among z ys))
      go h false e = rw h (keeps (same z x) (same z y) (among z ys) (λ q. rw (same-equal z x q) e))

  joined : (xs ys : List Name) (m n : ℕ) → among z xs ≡ (0 <? m) → among z ys ≡ (0 <? n) → among z (union xs ys) ≡ (0 <? (m + n))
  joined xs ys m n p q = among-union xs ys ∙ ap₂ ◌||◌ p q ∙ sym (some_of m n)

  hidden : (x : Name) (ys : List Name) (n : ℕ) → among z ys ≡ (0 <? n) → among z (without x ys) ≡ (0 <? (if same z x then 0 else n))
  hidden x ys n p = among-without x ys ∙ ap (λ b. not (same z x) && b) p ∙ sym (some_left (same z x) n)

  pub among-free : (t : Term) → among z (free t) ≡ (0 <? occurrences z t)
  unfolding free occurrences
  among-free (var y) = or-false (same z y) ∙ one-or-none (same z y)
  among-free (leaf k) = refl
  among-free (one k e) = among-free e
  among-free (two k a b) = joined (free a) (free b) (occurrences z a) (occurrences z b) (among-free a) (among-free b)
  among-free (abs y e) = hidden y (free e) (occurrences z e) (among-free e)
  among-free (both k x y e b) =
      joined (free e) (without x (without y (free b))) (occurrences z e) (if same z x || same z y then 0 else occurrences z b) (among-free e)
      (hidden x (without y (free b)) _ (hidden y (free b) (occurrences z b) (among-free b)) ∙ ap (λ n. 0 <? n) (hidden-twice (same z x) (same z y) (occurrences z b)))
  among-free (branch x y e l r) =
      let m : ℕ = if same z x then 0 else occurrences z l in
      let n : ℕ = if same z y then 0 else occurrences z r in
      joined (free e) (union (without x (free l)) (without y (free r))) (occurrences z e) (m + n) (among-free e)
      (joined (without x (free l)) (without y (free r)) m n (hidden x (free l) (occurrences z l) (among-free l)) (hidden y (free r) (occurrences z r) (among-free r)))
