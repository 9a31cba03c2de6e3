-- Free names in one walk from the left: what is met is put into one ordered list, unless a binder passed on the way covers it.
-- It gathers the free names: both lists are ordered, and their members are the same. Assumes nothing.
use Rattle.std.specs.Prelude.{◌≡◌, refl, Bool, true, false, not, ◌&&◌, ◌||◌, List, [], ◌∷◌, if◌then◌else◌}
use Rattle.std.proofs.Common.{sym, ap, ◌∙◌}
use Rattle.std.proofs.Math.Bool.{or-true, or-false}
use Rattle.rules.specs.Name.{Name, same, among}
use Rattle.rules.specs.Term.{Term, var, leaf, one, two, abs, both, branch}
use Rattle.rules.specs.Free.{insert, union, without, free}
use Rattle.laws.specs.free.Same.{same-equal}
use Rattle.laws.specs.free.Occurrences.{among-insert, among-union, among-without}
use Rattle.free.specs.Ordered.{Ordered, by_members, ordered-insert, ordered-free}

-- the names of t that are free and not among the binders passed, the nearest first, put into a list
unfoldable pub gather : (passed : List Name) → Term → List Name → List Name
gather ns (var x) l = if among x ns then l else insert x l
gather ns (leaf k) l = l
gather ns (one k e) l = gather ns e l
gather ns (two k a b) l = gather ns b (gather ns a l)
gather ns (abs x e) l = gather (x ∷ ns) e l
gather ns (both k x y e b) l = gather (y ∷ x ∷ ns) b (gather ns e l)
gather ns (branch x y e a b) l = gather (y ∷ ns) b (gather (x ∷ ns) a (gather ns e l))

pub ordered-gather : (ns : List Name) (t : Term) (l : List Name) → Ordered l → Ordered (gather ns t l)
unfolding gather
ordered-gather ns (var x) l o = go (among x ns)
  where
    go : (b : Bool) → Ordered (if b then l else insert x l)
    go true = o
    go false = ordered-insert x l o
ordered-gather ns (leaf k) l o = o
ordered-gather ns (one k e) l o = ordered-gather ns e l o
ordered-gather ns (two k a b) l o = ordered-gather ns b _ (ordered-gather ns a l o)
ordered-gather ns (abs x e) l o = ordered-gather (x ∷ ns) e l o
ordered-gather ns (both k x y e b) l o = ordered-gather (y ∷ x ∷ ns) b _ (ordered-gather ns e l o)
ordered-gather ns (branch x y e a b) l o = ordered-gather (y ∷ ns) b _ (ordered-gather (x ∷ ns) a _ (ordered-gather ns e l o))

-- ---- the members, as tests: l is in the list, n among the binders passed, x and y the binders here, e a b in the parts

bits_none : (l n : Bool) → l ≡ (l || (not n && false))
bits_none true n = refl
bits_none false true = refl
bits_none false false = refl

bits-two : (l n a b : Bool) → ((l || (not n && a)) || (not n && b)) ≡ (l || (not n && (a || b)))
bits-two true n a b = refl
bits-two false true a b = refl
bits-two false false a b = refl

bits-abs : (l n x e : Bool) → (l || (not (x || n) && e)) ≡ (l || (not n && (not x && e)))
bits-abs true n x e = refl
bits-abs false true true e = refl
bits-abs false true false e = refl
bits-abs false false true e = refl
bits-abs false false false e = refl

bits-both : (l n x y e b : Bool) → ((l || (not n && e)) || (not (y || (x || n)) && b)) ≡ (l || (not n && (e || (not x && (not y && b)))))
bits-both true n x y e b = refl
bits-both false true true true e b = refl
bits-both false true true false e b = refl
bits-both false true false true e b = refl
bits-both false true false false e b = refl
bits-both false false x y true b = refl
bits-both false false true true false b = refl
bits-both false false true false false b = refl
bits-both false false false true false b = refl
bits-both false false false false false b = refl

bits-branch : (l n x y e a b : Bool) → (((l || (not n && e)) || (not (x || n) && a)) || (not (y || n) && b)) ≡ (l || (not n && (e || ((not x && a) || (not y && b)))))
bits-branch true n x y e a b = refl
bits-branch false true true true e a b = refl
bits-branch false true true false e a b = refl
bits-branch false true false true e a b = refl
bits-branch false true false false e a b = refl
bits-branch false false x y true a b = refl
bits-branch false false true true false a b = refl
bits-branch false false true false false a b = refl
bits-branch false false false y false true b = refl
bits-branch false false false true false false b = refl
bits-branch false false false false false false b = refl

pub among-gather : (z : Name) (ns : List Name) (t : Term) (l : List Name) → among z (gather ns t l) ≡ (among z l || (not (among z ns) && among z (free t)))
unfolding gather free
among-gather z ns (var x) l = go (among x ns) refl (same z x) refl
  where
    go : (a : Bool) → among x ns ≡ a → (b : Bool) → same z x ≡ b → among z (if a then l else insert x l) ≡ (among z l || (not (among z ns) && (same z x || false)))
    go true e true d = let q : among z ns ≡ true = rw (same-equal z x d) e in rw q (sym (or-false (among z l)))
    go true e false d = rw d (bits_none (among z l) (among z ns))
    go false e true d = let q : among z ns ≡ false = rw (same-equal z x d) e in among-insert z x l ∙ rw (d, q) (sym (or-true (among z l)))
    go false e false d = among-insert z x l ∙ rw d (bits_none (among z l) (among z ns))
among-gather z ns (leaf k) l = bits_none (among z l) (among z ns)
among-gather z ns (one k e) l = among-gather z ns e l
among-gather z ns (two k a b) l =
    among-gather z ns b (gather ns a l) ∙ ap (λ m. m || (not (among z ns) && among z (free b))) (among-gather z ns a l)
    ∙ bits-two (among z l) (among z ns) (among z (free a)) (among z (free b)) ∙ ap (λ m. among z l || (not (among z ns) && m)) (sym (among-union z (free a) (free b)))
among-gather z ns (abs x e) l =
    among-gather z (x ∷ ns) e l ∙ bits-abs (among z l) (among z ns) (same z x) (among z (free e)) ∙ ap (λ m. among z l || (not (among z ns) && m)) (sym (among-without z x (free e)))
among-gather z ns (both k x y e b) l =
    among-gather z (y ∷ x ∷ ns) b (gather ns e l)
    ∙ ap (λ m. m || (not (same z y || (same z x || among z ns)) && among z (free b))) (among-gather z ns e l)
    ∙ bits-both (among z l) (among z ns) (same z x) (same z y) (among z (free e)) (among z (free b))
    ∙ ap (λ m. among z l || (not (among z ns) && (among z (free e) || (not (same z x) && m)))) (sym (among-without z y (free b)))
    ∙ ap (λ m. among z l || (not (among z ns) && (among z (free e) || m))) (sym (among-without z x (without y (free b))))
    ∙ ap (λ m. among z l || (not (among z ns) && m)) (sym (among-union z (free e) (without x (without y (free b)))))
among-gather z ns (branch x y e a b) l =
    among-gather z (y ∷ ns) b (gather (x ∷ ns) a (gather ns e l))
    ∙ ap (λ m. m || (not (same z y || among z ns) && among z (free b)))
    (among-gather z (x ∷ ns) a (gather ns e l) ∙ ap (λ m. m || (not (same z x || among z ns) && among z (free a))) (among-gather z ns e l))
    ∙ bits-branch (among z l) (among z ns) (same z x) (same z y) (among z (free e)) (among z (free a)) (among z (free b))
    ∙ ap (λ m. among z l || (not (among z ns) && (among z (free e) || m)))
    (ap (λ m. m || (not (same z y) && among z (free b))) (sym (among-without z x (free a))) ∙ ap (λ m. among z (without x (free a)) || m) (sym (among-without z y (free b)))
    ∙ sym (among-union z (without x (free a)) (without y (free b))))
    ∙ ap (λ m. among z l || (not (among z ns) && m)) (sym (among-union z (free e) (union (without x (free a)) (without y (free b)))))

-- ONE WALK GATHERS THE FREE NAMES
pub gather-free : (t : Term) → gather [] t [] ≡ free t
gather-free t = by_members (gather [] t []) (free t) (ordered-gather [] t [] tt) (ordered-free t) (λ z. among-gather z [] t [])
