-- What goes in for a name that is free once, and is caught nowhere, takes the place of the variable; and a plain term stays plain.
-- Assumes nothing.
use Rattle.std.specs.Prelude.{ℕ, ◌+◌, ◌*◌, ◌≡◌, refl, Bool, true, false, ◌&&◌, ◌||◌, if◌then◌else◌}
use Rattle.std.proofs.Common.{ap₂, arith}
use Rattle.rules.specs.Name.{Name, same}
use Rattle.rules.specs.Term.{Term, var, leaf, one, two, abs, both, branch}
use Rattle.rules.specs.Free.{occurrences}
use Rattle.rules.specs.Substitution.{subst}
use Rattle.rules.specs.Straight.{plain, plain_one, plain_two, plain_both}
use Rattle.laws.specs.free.Same.{both_true, same-equal}
use Rattle.laws.specs.straight.Weights.{Weight, weigh, weigh-subst}
use Rattle.laws.specs.straight.FreeAfter.{flag, shown, NoCatch, frees-subst}

-- v put in for x, which is free in e once
pub record Put (x : Name) (v e : Term) : Type 0 where
  pub weighs : (w : Weight) → weigh w (subst x v e) + w.variable x ≡ weigh w e + weigh w v
  pub frees : (z : Name) → occurrences z (subst x v e) ≡ shown (same z x) (occurrences z e) + occurrences z v

put-frees : (x z : Name) (b : Bool) (n m q k : ℕ) → same z x ≡ b → (z ≡ x → m ≡ 1) → k ≡ 1 → n + k * flag b ≡ m + k * q → n ≡ shown b m + q
put-frees x z true n m q k e f g h = let o : m ≡ 1 = f (same-equal z x e) in let i : n + 1 * 1 ≡ m + 1 * q = rw g at h in omega arith
put-frees x z false n m q k e f g h = let i : n + 1 * 0 ≡ m + 1 * q = rw g at h in omega arith

pub put : (x : Name) (v e : Term) → occurrences x e ≡ 1 → NoCatch v e → Put x v e
put x v e h c =
    record {
      weighs = λ w. let k = rw h at (weigh-subst w x v e) in omega (arith, k);
      frees = λ z. put-frees x z (same z x) (occurrences z (subst x v e)) (occurrences z e) (occurrences z v) (occurrences x e) refl (λ p. rw p h) h (frees-subst x v z e c);
    }

-- nothing but what was there, or goes in
plain-if : (b : Bool) (e u : Term) → plain e ≡ true → plain u ≡ true → plain (if b then e else u) ≡ true
plain-if true e u p q = p
plain-if false e u p q = q

pub plain-subst : (x : Name) (v e : Term) → plain v ≡ true → plain e ≡ true → plain (subst x v e) ≡ true
unfolding plain subst
plain-subst x v (var y) p q = plain-if (same x y) v (var y) p refl
plain-subst x v (leaf k) p q = refl
plain-subst x v (one k e) p q = ap₂ ◌&&◌ (both_true (plain_one k) (plain e) q).0 (plain-subst x v e p (both_true (plain_one k) (plain e) q).1)
plain-subst x v (two k a b) p q =
    let r = (both_true (plain_two k) (plain a && plain b) q).1 in
    ap₂ ◌&&◌ (both_true (plain_two k) (plain a && plain b) q).0 (ap₂ ◌&&◌ (plain-subst x v a p (both_true (plain a) (plain b) r).0) (plain-subst x v b p (both_true (plain a) (plain b) r).1))
plain-subst x v (abs y e) p q = plain-if (same x y) e (subst x v e) q (plain-subst x v e p q)
plain-subst x v (both k y z e b) p q =
    let r = (both_true (plain_both k) (plain e && plain b) q).1 in
    let i = (both_true (plain e) (plain b) r).1 in
    ap₂ ◌&&◌ (both_true (plain_both k) (plain e && plain b) q).0
    (ap₂ ◌&&◌ (plain-subst x v e p (both_true (plain e) (plain b) r).0) (plain-if (same x y || same x z) b (subst x v b) i (plain-subst x v b p i)))
plain-subst x v (branch y z e l r) p q = q
