-- How often a name is free after a substitution that catches no name: what it was, and what comes with what goes in.
-- By induction on the term; at a binder either the binder's name is sought or asked for, or it is not.
-- Assumes nothing.
use Rattle.std.specs.Prelude.{ℕ, ◌+◌, ◌*◌, ◌≤◌, ◌≡◌, Bool, ◌||◌, if◌then◌else◌}
use Rattle.std.proofs.Math.Path.{refl, ap}
use Rattle.std.proofs.Common.{sym, ◌∙◌, true≢false}
use Rattle.std.proofs.Math.Bool.{true, false}
use native.Mathlib.Omega.{arith}
use Rattle.std.proofs.Math.Nat.{zero-mul, one-mul}
use Rattle.rules.specs.Name.{Name, same}
use Rattle.rules.specs.Term.{Term, var, leaf, one, two, abs, both, branch}
use Rattle.rules.specs.Free.{occurrences}
use Rattle.rules.specs.Substitution.{subst}
use Rattle.laws.specs.free.Same.{same-equal, same-itself}
use Rattle.laws.specs.straight.Weights.{weigh, just, uses_of, stands_of}

-- 1 for true; and a count that a binder hides
abbrev pub flag : Bool → ℕ
flag b = if b then 1 else 0

abbrev pub shown : Bool → ℕ → ℕ
shown hidden n = if hidden then 0 else n

pub shown-most : (b : Bool) (n : ℕ) → shown b n ≤ n
shown-most true n = omega arith
shown-most false n = omega arith

pub shown-all : (b : Bool) (n : ℕ) → flag b ≡ 0 → shown b n ≡ n
shown-all true n h = absurd (omega arith)
shown-all false n h = refl

pub flag-or : (b c : Bool) → flag b ≡ 0 → flag c ≡ 0 → flag (b || c) ≡ 0
flag-or true c p q = p
flag-or false c p q = q

-- A name is free at most as often as it is used, and exactly as often if it stands at no binder.
pub free-most : (z : Name) (t : Term) → occurrences z t ≤ weigh (uses_of z) t
unfolding weigh occurrences
free-most z (var x) = omega arith
free-most z (leaf k) = omega arith
free-most z (one k e) = omega (arith, free-most z e)
free-most z (two k a b) = omega (arith, free-most z a, free-most z b)
free-most z (abs x e) = omega (arith, free-most z e, shown-most (same z x) (occurrences z e))
free-most z (both k x y e b) = omega (arith, free-most z e, free-most z b, shown-most (same z x || same z y) (occurrences z b))
free-most z (branch x y e l r) =
    omega (arith, free-most z e, free-most z l, free-most z r, shown-most (same z x) (occurrences z l), shown-most (same z y) (occurrences z r))

pub free_all : (z : Name) (t : Term) → weigh (stands_of z) t ≡ 0 → occurrences z t ≡ weigh (uses_of z) t
unfolding weigh occurrences
free_all z (var x) h = refl
free_all z (leaf k) h = refl
free_all z (one k e) h = omega (arith, free_all z e (omega arith))
free_all z (two k a b) h = omega (arith, free_all z a (omega arith), free_all z b (omega arith))
free_all z (abs x e) h = omega (arith, free_all z e (omega arith), shown-all (same z x) (occurrences z e) (omega arith))
free_all z (both k x y e b) h =
    omega (
      arith,
      free_all z e (omega arith),
      free_all z b (omega arith),
      shown-all (same z x || same z y) (occurrences z b) (flag-or (same z x) (same z y) (omega arith) (omega arith)),
    )
free_all z (branch x y e l r) h =
    omega (
      arith,
      free_all z e (omega arith),
      free_all z l (omega arith),
      free_all z r (omega arith),
      shown-all (same z x) (occurrences z l) (omega arith),
      shown-all (same z y) (occurrences z r) (omega arith),
    )

-- No name at a binder of e is free in v: v may go in anywhere and nothing of it is caught.
abbrev pub NoCatch : Term → Term → Type 0
NoCatch v e = (y : Name) → 1 ≤ weigh (stands_of y) e → occurrences y v ≡ 0

-- z is asked for at a binder that hides it and does not hide x
apart : (x y z : Name) → same x y ≡ false → same z y ≡ true → just z x ≡ 0
apart x y z p q = go (same z x) refl
  where
    go : (b : Bool) → same z x ≡ b → flag b ≡ 0
    go false e = refl
    go true e =
        let f : x ≡ y = sym (same-equal z x e) ∙ same-equal z y q in
        absurd (true≢false (sym (same-itself x) ∙ ap (same x) f ∙ p))

or_left : (b c : Bool) → (b || c) ≡ false → b ≡ false
or_left true c h = h
or_left false c h = refl

or_right : (b c : Bool) → (b || c) ≡ false → c ≡ false
or_right true c h = absurd (true≢false h)
or_right false c h = h

or_some : (b c : Bool) → (b || c) ≡ true → 1 ≤ flag b + flag c
or_some true c h = omega arith
or_some false c h = rw h (omega arith)

apart-both : (x y y' z : Name) → (same x y || same x y') ≡ false → (same z y || same z y') ≡ true → just z x ≡ 0
apart-both x y y' z p q = go (same z y) refl q
  where
    go : (b : Bool) → same z y ≡ b → (b || same z y') ≡ true → just z x ≡ 0
    go true e f = apart x y z (or_left (same x y) (same x y') p) e
    go false e f = apart x y' z (or_right (same x y) (same x y') p) f

module _ (x : Name) (v : Term) (z : Name) where
  abbrev Frees : Term → Term → ℕ → Type 0
  Frees t u n = occurrences z u + n * just z x ≡ occurrences z t + n * occurrences z v

  frees-var : (y : Name) (b : Bool) → same x y ≡ b → Frees (var y) (if b then v else var y) (if b then 1 else 0)
  unfolding occurrences
  frees-var y true h = omega (arith, one-mul (just z x), one-mul (occurrences z v), ap (just z) (same-equal x y h))
  frees-var y false h = simp zero-mul

  -- under a binder: `hidden` says that it hides z, `stops` that it hides x
  frees-under : (stops hidden : Bool) (e u : Term) (n : ℕ)
      → Frees e u n
      → (stops ≡ false → hidden ≡ true → (just z x ≡ 0) × (occurrences z v ≡ 0))
      → shown hidden (occurrences z (if stops then e else u)) + shown stops n * just z x ≡ shown hidden (occurrences z e) + shown stops n * occurrences z v
  frees-under true hidden e u n h k = simp zero-mul
  frees-under false false e u n h k = h
  frees-under false true e u n h k = let c = k refl refl in rw (c.0, c.1)

  pub frees-subst : (t : Term) → NoCatch v t → occurrences z (subst x v t) + occurrences x t * just z x ≡ occurrences z t + occurrences x t * occurrences z v
  unfolding occurrences subst weigh
  frees-subst (var y) h = frees-var y (same x y) refl
  frees-subst (leaf k) h = simp zero-mul
  frees-subst (one k e) h = frees-subst e (λ y q. h y (omega arith))
  frees-subst (two k a b) h = omega (arith, frees-subst a (λ y q. h y (omega arith)), frees-subst b (λ y q. h y (omega arith)))
  frees-subst (abs y e) h =
      frees-under (same x y) (same z y) e (subst x v e) (occurrences x e) (frees-subst e (λ n q. h n (omega arith)))
      (λ p q. (apart x y z p q, h z (rw q (omega arith))))
  frees-subst (both k y y' e b) h =
      omega (
        arith,
        frees-subst e (λ n q. h n (omega arith)),
        frees-under (same x y || same x y') (same z y || same z y') b (subst x v b) (occurrences x b) (frees-subst b (λ n q. h n (omega arith)))
            (λ p q. (apart-both x y y' z p q, h z (omega (arith, or_some (same z y) (same z y') q)))),
      )
  frees-subst (branch y y' e l r) h =
      omega (
        arith,
        frees-subst e (λ n q. h n (omega arith)),
        frees-under (same x y) (same z y) l (subst x v l) (occurrences x l) (frees-subst l (λ n q. h n (omega arith))) (λ p q. (apart x y z p q, h z (rw q (omega arith)))),
        frees-under (same x y') (same z y') r (subst x v r) (occurrences x r) (frees-subst r (λ n q. h n (omega arith))) (λ p q. (apart x y' z p q, h z (rw q (omega arith)))),
      )
