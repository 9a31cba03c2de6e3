-- How many places of a name a substitution reaches without its value being caught: no more than there are, and all of them where the name is not bound.
-- By induction on the term.
-- Assumes nothing.
use Rattle.std.specs.Prelude.{ℕ, ◌≤◌, ◌≡◌, Bool, true, false, ◌||◌, if◌then◌else◌}
use Rattle.std.proofs.Math.Path.{refl}
use native.Mathlib.Omega.{arith}
use Rattle.rules.specs.Name.{Name, same}
use Rattle.rules.specs.Term.{Term, var, leaf, one, two, abs, both, branch}
use Rattle.rules.specs.Free.{occurrences}
use Rattle.laws.specs.substitution.SubstFree.{reach}

-- whether a binder of z is anywhere in a term
unfoldable pub binds : Name → Term → Bool
binds z (var y) = false
binds z (leaf k) = false
binds z (one k e) = binds z e
binds z (two k a b) = binds z a || binds z b
binds z (abs y e) = same z y || binds z e
binds z (both k y w e b) = (same z y || same z w) || (binds z e || binds z b)
binds z (branch y w e l r) = (same z y || same z w) || (binds z e || (binds z l || binds z r))

fewer : (a c : Bool) (k n : ℕ) → k ≤ n → (if a || c then 0 else k) ≤ (if a then 0 else n)
fewer true c k n h = omega arith
fewer false true k n h = omega arith
fewer false false k n h = h

neither : (a b : Bool) → (a || b) ≡ false → (a ≡ false) × (b ≡ false)
neither true b e = absurd (let q : ◌≡◌ {A = ℕ} 0 1 = cc in omega arith)
neither false b e = (refl, e)

equal-part : (a c : Bool) (k n : ℕ) → c ≡ false → k ≡ n → (if a || c then 0 else k) ≡ (if a then 0 else n)
equal-part true c k n e h = refl
equal-part false c k n e h = rw e h

module _ (x z : Name) where
  pub reach-most : (t : Term) → reach x z t ≤ occurrences x t
  unfolding reach occurrences
  reach-most (var y) = omega arith
  reach-most (leaf k) = omega arith
  reach-most (one k e) = reach-most e
  reach-most (two k a b) = omega (arith, reach-most a, reach-most b)
  reach-most (abs y e) = fewer (same x y) (same z y) (reach x z e) (occurrences x e) (reach-most e)
  reach-most (both k y w e b) = omega (arith, reach-most e, fewer (same x y || same x w) (same z y || same z w) (reach x z b) (occurrences x b) (reach-most b))
  reach-most (branch y w e l r) =
      omega (
        arith,
        reach-most e,
        fewer (same x y) (same z y) (reach x z l) (occurrences x l) (reach-most l),
        fewer (same x w) (same z w) (reach x z r) (occurrences x r) (reach-most r),
      )

  -- where z is not bound, no place is covered
  pub reach-all : (t : Term) → binds z t ≡ false → reach x z t ≡ occurrences x t
  unfolding reach occurrences binds
  reach-all (var y) e = refl
  reach-all (leaf k) e = refl
  reach-all (one k a) e = reach-all a e
  reach-all (two k a b) e = let n = neither (binds z a) (binds z b) e in omega (arith, reach-all a n.0, reach-all b n.1)
  reach-all (abs y a) e = let n = neither (same z y) (binds z a) e in equal-part (same x y) (same z y) (reach x z a) (occurrences x a) n.0 (reach-all a n.1)
  reach-all (both k y w a b) e =
      let n = neither (same z y || same z w) (binds z a || binds z b) e in
      let m = neither (binds z a) (binds z b) n.1 in
      omega (arith, reach-all a m.0, equal-part (same x y || same x w) (same z y || same z w) (reach x z b) (occurrences x b) n.0 (reach-all b m.1))
  reach-all (branch y w a l r) e =
      let n = neither (same z y || same z w) (binds z a || (binds z l || binds z r)) e in
      let c = neither (same z y) (same z w) n.0 in
      let m = neither (binds z a) (binds z l || binds z r) n.1 in
      let q = neither (binds z l) (binds z r) m.1 in
      omega (
        arith,
        reach-all a m.0,
        equal-part (same x y) (same z y) (reach x z l) (occurrences x l) c.0 (reach-all l q.0),
        equal-part (same x w) (same z w) (reach x z r) (occurrences x r) c.1 (reach-all r q.1),
      )
