-- `Straight` and `Counted` say the same.
-- One way: what a binder covers holds the only use, so none is free. The other way: by induction, since parts of a counted term are counted.
-- Assumes nothing.
use Rattle.std.specs.Prelude.{ℕ, ◌+◌, ◌≤◌, ◌≡◌, refl, Bool, true, false, ◌||◌, List, [], ◌∷◌, ◌++◌, map}
use Rattle.std.proofs.Common.{sym, ◌∙◌, arith}
use Rattle.std.proofs.lemmas.Bool.{false≢true}
use Rattle.std.proofs.Math.Bool.{or-true}
use Rattle.rules.specs.Basic.{◌‥◌}
use Rattle.rules.specs.Name.{Name, same}
use Rattle.rules.specs.Term.{Term, var, leaf, one, two, abs, both, branch}
use Rattle.rules.specs.Free.{occurrences}
use Rattle.rules.specs.Straight.{Binder, binders, count, plain, Each, Once, Straight}
use Rattle.laws.specs.free.Same.{same-equal, same-itself}
use Rattle.laws.specs.straight.Weights.{weigh, uses_of, stands_of, uses-weigh, stands-weigh}
use Rattle.laws.specs.straight.FreeAfter.{flag, shown, shown-most, free-most}
use Rattle.laws.specs.straight.Counted.{Bound, Counted, part-one, part_left, part_right, part-abs, part-first, part-second, just_self, own-abs, own_first, own-second}

pub each_append : {A : Type 0} (P : A → Type 0) (xs ys : List A) → Each P xs → Each P ys → Each P (xs ++ ys)
each_append P [] ys h k = k
each_append P (x ∷ xs) ys h k = (h.0, each_append P xs ys h.1 k)

pub each_map : {A : Type 0} (P Q : A → Type 0) (xs : List A) → ((x : A) → P x → Q x) → Each P xs → Each Q xs
each_map P Q [] f h = tt
each_map P Q (x ∷ xs) f h = (f x h.0, each_map P Q xs f h.1)

each_both : {A : Type 0} (P Q : A → Type 0) (xs : List A) → Each P xs → Each Q xs → Each (λ x. P x × Q x) xs
each_both P Q [] h k = tt
each_both P Q (x ∷ xs) h k = ((h.0, k.0), each_both P Q xs h.1 k.1)

-- a name that stands at a binder is the name of one
binder-of : (z : Name) (P : Binder → Type 0) (bs : List Binder) → Each P bs → 1 ≤ count z (map (λ b. b.name) bs) → (b : Binder) × (z ≡ b.name) × P b
unfolding count
binder-of z P [] h n = absurd (omega arith)
binder-of z P (b ∷ bs) h n = go (same z b.name) refl n (λ m. binder-of z P bs h.1 m)
  where
    go : (s : Bool) → same z b.name ≡ s → 1 ≤ flag s + count z (map (λ c. c.name) bs)
        → (1 ≤ count z (map (λ c. c.name) bs) → (c : Binder) × (z ≡ c.name) × P c) → (c : Binder) × (z ≡ c.name) × P c
    go true e m k = (b, same-equal z b.name e, h.0)
    go false e m k = k (omega arith)

-- What a binder covers holds uses that are not free.
abbrev Covers : Term → Binder → Type 0
Covers t b = occurrences b.name t + weigh (uses_of b.name) b.covers ≤ weigh (uses_of b.name) t

-- and so in a term of which e is a part
wider : (e t : Term) → ((z : Name) → occurrences z t + weigh (uses_of z) e ≤ weigh (uses_of z) t + occurrences z e) → (bs : List Binder) → Each (Covers e) bs → Each (Covers t) bs
wider e t f bs h = each_map (Covers e) (Covers t) bs (λ b k. omega (arith, f b.name)) h

-- a binder's name is hidden in what it covers
hides : (x : Name) (n : ℕ) → shown (same x x) n ≡ 0
hides x n = rw (same-itself x)

hides-first : (x y : Name) (n : ℕ) → shown (same x x || same x y) n ≡ 0
hides-first x y n = rw (same-itself x)

hides-second : (x y : Name) (n : ℕ) → shown (same y x || same y y) n ≡ 0
hides-second x y n = rw (same-itself y, or-true)

covers : (t : Term) → Each (Covers t) (binders t)
unfolding binders occurrences weigh
covers (var x) = tt
covers (leaf k) = tt
covers (one k e) = wider e (one k e) (λ z. omega arith) (binders e) (covers e)
covers (two k a b) =
    each_append (Covers (two k a b)) (binders a) (binders b)
    (wider a (two k a b) (λ z. omega (arith, free-most z b)) (binders a) (covers a))
    (wider b (two k a b) (λ z. omega (arith, free-most z a)) (binders b) (covers b))
covers (abs x e) =
    (omega (arith, hides x (occurrences x e)), wider e (abs x e) (λ z. omega (arith, shown-most (same z x) (occurrences z e))) (binders e) (covers e))
covers (both k x y e b) =
    let t = both k x y e b in
    let m : (z : Name) → shown (same z x || same z y) (occurrences z b) ≤ occurrences z b = λ z. shown-most (same z x || same z y) (occurrences z b) in (
      omega (arith, free-most x e, hides-first x y (occurrences x b)),
      (
        omega (arith, free-most y e, hides-second x y (occurrences y b)),
        each_append (Covers t) (binders e) (binders b)
            (wider e t (λ z. omega (arith, free-most z b, m z)) (binders e) (covers e))
            (wider b t (λ z. omega (arith, free-most z e, m z)) (binders b) (covers b)),
      ),
    )
covers (branch x y e l r) =
    let t = branch x y e l r in
    let m : (z : Name) → shown (same z x) (occurrences z l) ≤ occurrences z l = λ z. shown-most (same z x) (occurrences z l) in
    let n : (z : Name) → shown (same z y) (occurrences z r) ≤ occurrences z r = λ z. shown-most (same z y) (occurrences z r) in (
      omega (arith, free-most x e, free-most x r, hides x (occurrences x l), n x),
      (
        omega (arith, free-most y e, free-most y l, hides y (occurrences y r), m y),
        each_append (Covers t) (binders e) (binders l ‥ binders r)
            (wider e t (λ z. omega (arith, free-most z l, free-most z r, m z, n z)) (binders e) (covers e))
            (each_append (Covers t) (binders l) (binders r)
            (wider l t (λ z. omega (arith, free-most z e, free-most z r, m z, n z)) (binders l) (covers l))
            (wider r t (λ z. omega (arith, free-most z e, free-most z l, m z, n z)) (binders r) (covers r))),
      ),
    )

once-bound : (t : Term) (b : Binder) → Once t b → Covers t b → Bound b.name t
once-bound t b o c =
    let u = uses-weigh b.name t in
    let i = uses-weigh b.name b.covers in
    record { placed = stands-weigh b.name t ∙ o.placed; used = u ∙ o.used; hidden = omega (arith, o.used, o.inside) }

pub straight-counted : (t : Term) → Straight t → Counted t
straight-counted t s =
    record {
      plain = s.plain;
      bound = λ z h.
          let (b, p, q) = binder-of z (λ b. Once t b × Covers t b) (binders t) (each_both (Once t) (Covers t) (binders t) s.once (covers t)) (rw stands-weigh at h) in
          rw p (once-bound t b q.0 q.1);
    }

-- Each binder of a counted term has its name among the term's binders, and its use in what it covers.
record Inside (t : Term) (b : Binder) : Type 0 where
  stands : 1 ≤ weigh (stands_of b.name) t
  inside : weigh (uses_of b.name) b.covers ≡ 1

deeper : (e t : Term) → ((z : Name) → weigh (stands_of z) e ≤ weigh (stands_of z) t) → (bs : List Binder) → Each (Inside e) bs → Each (Inside t) bs
deeper e t f bs h = each_map (Inside e) (Inside t) bs (λ b i. record { stands = omega (arith, i.stands, f b.name); inside = i.inside }) h

inside : (t : Term) → Counted t → Each (Inside t) (binders t)
unfolding binders weigh plain
inside (var x) c = tt
inside (leaf k) c = tt
inside (one k e) c = deeper e (one k e) (λ z. omega arith) (binders e) (inside e (part-one c))
inside (two k a b) c =
    each_append (Inside (two k a b)) (binders a) (binders b)
    (deeper a (two k a b) (λ z. omega arith) (binders a) (inside a (part_left c)))
    (deeper b (two k a b) (λ z. omega arith) (binders b) (inside b (part_right c)))
inside (abs x e) c =
    (record { stands = omega (arith, just_self x); inside = own-abs x e c }, deeper e (abs x e) (λ z. omega arith) (binders e) (inside e (part-abs c)))
inside (both k x y e b) c =
    let t = both k x y e b in (
      record { stands = omega (arith, just_self x); inside = own_first k x y e b c },
      (
        record { stands = omega (arith, just_self y); inside = own-second k x y e b c },
        each_append (Inside t) (binders e) (binders b)
            (deeper e t (λ z. omega arith) (binders e) (inside e (part-first c)))
            (deeper b t (λ z. omega arith) (binders b) (inside b (part-second c))),
      ),
    )
inside (branch x y e l r) c = absurd (false≢true c.plain)

pub counted-straight : (t : Term) → Counted t → Straight t
counted-straight t c =
    record {
      plain = c.plain;
      once = each_map (Inside t) (Once t) (binders t)
          (λ b i.
          let w = c.bound b.name i.stands in
          record {
            placed = sym (stands-weigh b.name t) ∙ w.placed;
            used = sym (uses-weigh b.name t) ∙ w.used;
            inside = sym (uses-weigh b.name b.covers) ∙ i.inside ∙ sym w.used ∙ uses-weigh b.name t;
          })
          (inside t c);
    }
