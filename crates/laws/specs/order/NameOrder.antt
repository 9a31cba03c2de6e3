-- The order of names as all else may use it: no name is before itself, the order is transitive, and any two names are the same or one is
-- before the other. The rules' `before` is such an order: by induction on the bytes, the first that differ decide. Assumes nothing.
use Rattle.std.specs.Prelude.{ℕ, ◌≡◌, refl, Bool, true, false, ◌&&◌, ◌||◌, [], ◌∷◌, ◌⊎◌, ltb, eqb}
use Rattle.std.proofs.Common.{sym, ◌∙◌, inl, inr, arith, lt-ltb, le-ltb, eq-eqb, ltb-true, ltb-false, eqb-true}
use Rattle.rules.specs.Name.{Name, same, before}

pub record NameOrder (less : Name → Name → Bool) : Type 0 where
  pub irreflexive : (x : Name) → less x x ≡ false
  pub transitive : (x y z : Name) → less x y ≡ true → less y z ≡ true → less x z ≡ true
  pub total : (x y : Name) → (same x y ≡ true) ⊎ ((less x y ≡ true) ⊎ (less y x ≡ true))

-- ---- the rules' order, the one place that knows how it compares

before-itself : (x : Name) → before x x ≡ false
unfolding before
before-itself [] = refl
before-itself (a ∷ x) = rw (le-ltb a a (omega arith), eq-eqb a a refl) (before-itself x)

before-trans : (x y z : Name) → before x y ≡ true → before y z ≡ true → before x z ≡ true
unfolding before
before-trans [] [] z e d = absurd (let q : ◌≡◌ {A = ℕ} 0 1 = cc in omega arith)
before-trans [] (b ∷ y) [] e d = absurd (let q : ◌≡◌ {A = ℕ} 0 1 = cc in omega arith)
before-trans [] (b ∷ y) (c ∷ z) e d = refl
before-trans (a ∷ x) [] z e d = absurd (let q : ◌≡◌ {A = ℕ} 0 1 = cc in omega arith)
before-trans (a ∷ x) (b ∷ y) [] e d = absurd (let q : ◌≡◌ {A = ℕ} 0 1 = cc in omega arith)
before-trans (a ∷ x) (b ∷ y) (c ∷ z) e d = go (ltb a b) refl (ltb b c) refl e d (before-trans x y z)
  where
    -- the first bytes are the same
    tied : (t : Bool) → (m n : ℕ) (p : Bool) → eqb m n ≡ t → (t && p) ≡ true → (m ≡ n) × (p ≡ true)
    tied true m n p q r = (eqb-true m n q, r)
    tied false m n p q r = absurd (let q : ◌≡◌ {A = ℕ} 0 1 = cc in omega arith)

    go : (s : Bool) → ltb a b ≡ s → (t : Bool) → ltb b c ≡ t → (s || ((eqb a b) && before x y)) ≡ true → (t || ((eqb b c) && before y z)) ≡ true
        → (before x y ≡ true → before y z ≡ true → before x z ≡ true) → (ltb a c || ((eqb a c) && before x z)) ≡ true
    go true p true q e d k = rw (lt-ltb a c (omega (arith, ltb-true a b p, ltb-true b c q)))
    go true p false q e d k =
        let w = tied (eqb b c) b c (before y z) refl d in
        rw (lt-ltb a c (omega (arith, ltb-true a b p, w.0)))
    go false p true q e d k =
        let w = tied (eqb a b) a b (before x y) refl e in
        rw (lt-ltb a c (omega (arith, ltb-true b c q, w.0)))
    go false p false q e d k =
        let w = tied (eqb a b) a b (before x y) refl e in
        let v = tied (eqb b c) b c (before y z) refl d in
        rw (le-ltb a c (omega (arith, w.0, v.0)), eq-eqb a c (w.0 ∙ v.0)) (k w.1 v.1)

-- the same, or one before the other
abbrev Ways : Name → Name → Type 0
Ways x y = (same x y ≡ true) ⊎ ((before x y ≡ true) ⊎ (before y x ≡ true))

before-total : (x y : Name) → Ways x y
unfolding before
before-total [] [] = inl refl
before-total [] (b ∷ y) = inr (inl refl)
before-total (a ∷ x) [] = inr (inr refl)
before-total (a ∷ x) (b ∷ y) = go (ltb a b) refl (ltb b a) refl (before-total x y)
  where
    tied : a ≡ b → ltb a b ≡ false → ltb b a ≡ false → Ways x y → Ways (a ∷ x) (b ∷ y)
    tied q d e (inl k) = inl (rw (eq-eqb a b q) k)
    tied q d e (inr (inl k)) = inr (inl (rw (d, eq-eqb a b q) k))
    tied q d e (inr (inr k)) = inr (inr (rw (e, eq-eqb b a (sym q)) k))

    go : (s : Bool) → ltb a b ≡ s → (t : Bool) → ltb b a ≡ t → Ways x y → Ways (a ∷ x) (b ∷ y)
    go true d t e k = inr (inl (rw d))
    go false d true e k = inr (inr (rw e))
    go false d false e k = tied (omega (arith, ltb-false a b d, ltb-false b a e)) d e k

-- NAMES ARE ORDERED
pub name-order : NameOrder before
name-order = record { irreflexive = before-itself; transitive = before-trans; total = before-total }
