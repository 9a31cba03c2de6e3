-- Two names are the same exactly if they are equal.
-- Assumes nothing.
use Rattle.std.specs.Prelude.{ℕ, ◌≡◌, refl, Bool, true, false, ◌&&◌, [], ◌∷◌, ◌==◌}
use Rattle.std.proofs.Common.{sym, ◌∙◌, arith, eqb-true, eq-eqb}
use Rattle.rules.specs.Name.{Name, same}

pub both_true : (a b : Bool) → a && b ≡ true → (a ≡ true) × (b ≡ true)
both_true true b e = (refl, e)
both_true false b e = absurd (let z : ◌≡◌ {A = ℕ} 0 1 = cc in omega arith)

pub same-equal : (x y : Name) → same x y ≡ true → x ≡ y
same-equal [] [] e = refl
same-equal [] (b ∷ y) e = absurd (let z : ◌≡◌ {A = ℕ} 0 1 = cc in omega arith)
same-equal (a ∷ x) [] e = absurd (let z : ◌≡◌ {A = ℕ} 0 1 = cc in omega arith)
same-equal (a ∷ x) (b ∷ y) e = let h = both_true (a == b) (same x y) e in cc (eqb-true a b h.0, same-equal x y h.1)

pub same-itself : (x : Name) → same x x ≡ true
same-itself [] = refl
same-itself (a ∷ x) = rw (eq-eqb a a refl) (same-itself x)

pub same-turned : (x y : Name) → same x y ≡ same y x
same-turned x y = go (same x y) (same y x) refl refl
  where
    go : (a b : Bool) → same x y ≡ a → same y x ≡ b → same x y ≡ same y x
    go true b p q = rw (same-equal x y p)
    go false true p q = rw (same-equal y x q)
    go false false p q = p ∙ sym q
