-- Which names are free after a substitution, and how often. There is no renaming, so that what is put in under a binder of its name is caught:
-- the law counts only the places that no such binder covers. By induction on the term.
-- Assumes nothing.
use Prim.Native.Nat.{ℕ, ◌+◌, ◌*◌}
use Rattle.std.specs.Prelude.{◌≡◌, Bool, if◌then◌else◌}
use Rattle.std.proofs.Math.Path.{refl, ap₂}
use Rattle.std.proofs.Math.Bool.{true, false, ◌||◌}
use native.Mathlib.Omega.{arith}
use Rattle.rules.specs.Name.{Name, same}
use Rattle.rules.specs.Term.{Term, var, leaf, one, two, abs, both, branch}
use Rattle.rules.specs.Free.{occurrences}
use Rattle.rules.specs.Substitution.{subst}
use Rattle.laws.specs.free.Same.{same-equal}

-- how often x is free in a term where no binder of z covers it
unfoldable pub reach : Name → Name → Term → ℕ
reach x z (var y) = if same x y then 1 else 0
reach x z (leaf k) = 0
reach x z (one k e) = reach x z e
reach x z (two k a b) = reach x z a + reach x z b
reach x z (abs y e) = if same x y || same z y then 0 else reach x z e
reach x z (both k y w e b) = reach x z e + (if (same x y || same x w) || (same z y || same z w) then 0 else reach x z b)
reach x z (branch y w e l r) = reach x z e + ((if same x y || same z y then 0 else reach x z l) + (if same x w || same z w then 0 else reach x z r))

kept-sum : (d : Bool) (m n : ℕ) → (if d then 0 else m + n) ≡ (if d then 0 else m) + (if d then 0 else n)
kept-sum true m n = refl
kept-sum false m n = refl

module _ (x z : Name) (v : Term) where
  abbrev Counted : Term → Term → ℕ → Type 0
  Counted t u k = occurrences z u ≡ (if same z x then 0 else occurrences z t) + k * occurrences z v

  none_kept : (d : Bool) → 0 ≡ (if d then 0 else 0) + 0 * occurrences z v
  none_kept true = omega arith
  none_kept false = omega arith

  -- if z is x, then the one is bound where the other is
  alike : (y : Name) → same z x ≡ true → same x y ≡ same z y
  alike y e = rw (same-equal z x e)

  at-var : (y : Name) (b d : Bool) → same x y ≡ b → same z x ≡ d
      → occurrences z (if b then v else var y) ≡ (if d then 0 else occurrences z (var y)) + (if b then 1 else 0) * occurrences z v
  unfolding occurrences
  at-var y true true p q = omega arith
  at-var y true false p q = let e : same z y ≡ false = rw (← same-equal x y p) q in rw e (omega arith)
  at-var y false true p q = let e : same z y ≡ false = rw (same-equal z x q) p in rw e (omega arith)
  at-var y false false p q = omega arith

  -- a part under a binder: a says that it binds x, c that it binds z
  under : (a c d : Bool) (t u : Term) (k : ℕ) → (d ≡ true → a ≡ c)
      → occurrences z u ≡ (if d then 0 else occurrences z t) + k * occurrences z v
      → (if c then 0 else occurrences z (if a then t else u)) ≡ (if d then 0 else (if c then 0 else occurrences z t)) + (if a || c then 0 else k) * occurrences z v
  under true true d t u k s h = none_kept d
  under false true d t u k s h = none_kept d
  under true false true t u k s h = absurd (let e : true ≡ false = s refl in let q : ◌≡◌ {A = ℕ} 0 1 = cc in omega arith)
  under true false false t u k s h = omega arith
  under false false d t u k s h = h

  pub counted : (t : Term) → Counted t (subst x v t) (reach x z t)
  unfolding subst occurrences reach
  counted (var y) = at-var y (same x y) (same z x) refl refl
  counted (leaf k) = none_kept (same z x)
  counted (one k e) = counted e
  counted (two k a b) = omega (arith, counted a, counted b, kept-sum (same z x) (occurrences z a) (occurrences z b))
  counted (abs y e) = under (same x y) (same z y) (same z x) e (subst x v e) (reach x z e) (alike y) (counted e)
  counted (both k y w e b) =
      let n : ℕ = if same z y || same z w then 0 else occurrences z b in
      omega (
        arith,
        counted e,
        under (same x y || same x w) (same z y || same z w) (same z x) b (subst x v b) (reach x z b) (λ q. ap₂ ◌||◌ (alike y q) (alike w q)) (counted b),
        kept-sum (same z x) (occurrences z e) n,
      )
  counted (branch y w e l r) =
      let m : ℕ = if same z y then 0 else occurrences z l in
      let n : ℕ = if same z w then 0 else occurrences z r in
      omega (
        arith,
        counted e,
        under (same x y) (same z y) (same z x) l (subst x v l) (reach x z l) (alike y) (counted l),
        under (same x w) (same z w) (same z x) r (subst x v r) (reach x z r) (alike w) (counted r),
        kept-sum (same z x) (occurrences z e) (m + n),
        kept-sum (same z x) m n,
      )
