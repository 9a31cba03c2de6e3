-- The test `straight` of terms in a row: a node passes by itself, and then its parts take its place. Assumes nothing.
use Prim.Native.Nat.{ℕ, ◌-◌, ◌+◌, ◌<◌, ◌≤◌}
use mathlib.Core.Path.{◌≡◌, refl, sym, ap, ap₂, ◌∙◌}
use mathlib.Core.Bool.{Bool, true, false, ◌&&◌, and-true, and_assoc}
use mathlib.Core.List.{List, [], ◌∷◌, ◌++◌}
use native.Mathlib.Omega.{arith}
use lib.ListN.{length}
use Rattle.rules.specs.Term.{Term, var, leaf, one, two, abs, both, branch, parts}
use Rattle.rules.specs.Straight.{Binder, ◌over◌, binders, plain, every, once, straight}
use Rattle.term.specs.Place.{TermAt, TermsAt}
use Rattle.term.specs.declared.node.Row.{Row}
use Rattle.term.proofs.node.Terms.{Some, some_first, first, alone, LookIs, turned, turn-some, turn-fits, turn-ahead}
use Rattle.straight.specs.Node.{own_plain, own_binders, passes_in}
use Rattle.straight.specs.Place.{Within}

-- ---- a node, and its parts

abbrev plain_all : List Term → Bool
plain_all [] = true
plain_all (t ∷ ts) = plain t && plain_all ts

abbrev every_all : (Binder → Bool) → List Term → Bool
every_all p [] = true
every_all p (t ∷ ts) = every p (binders t) && every_all p ts

exchange : (a b c d : Bool) → (a && b) && (c && d) ≡ (a && c) && (b && d)
exchange false b c d = refl
exchange true false true d = refl
exchange true false false d = refl
exchange true true c d = refl

plain-parts : (t : Term) → plain t ≡ own_plain t && plain_all (parts t)
unfolding plain
plain-parts (var x) = refl
plain-parts (leaf k) = refl
plain-parts (one k e) = rw and-true
plain-parts (two k a b) = rw (and-true (plain b))
plain-parts (abs x e) = rw and-true
plain-parts (both k x y e b) = rw (and-true (plain b))
plain-parts (branch x y e l r) = refl

every_append : {A : Type 0} (p : A → Bool) (xs ys : List A) → every p (xs ++ ys) ≡ every p xs && every p ys
every_append p [] ys = refl
every_append p (x ∷ xs) ys = ap (λ (z : Bool). p x && z) (every_append p xs ys) ∙ sym (and_assoc (p x) (every p xs) (every p ys))

two-first : (a b c : Bool) → a && (b && c) ≡ (a && (b && true)) && c
two-first false b c = refl
two-first true false c = refl
two-first true true c = refl

every-parts : (p : Binder → Bool) (t : Term) → every p (binders t) ≡ every p (own_binders t) && every_all p (parts t)
unfolding binders
every-parts p (var x) = refl
every-parts p (leaf k) = refl
every-parts p (one k e) = sym (and-true (every p (binders e)))
every-parts p (two k a b) = every_append p (binders a) (binders b) ∙ ap (λ (z : Bool). every p (binders a) && z) (sym (and-true (every p (binders b))))
every-parts p (abs x e) = ap₂ ◌&&◌ (sym (and-true (p (x over e)))) (sym (and-true (every p (binders e))))
every-parts p (both k x y e b) =
    ap (λ (z : Bool). p (x over b) && (p (y over b) && z)) (every_append p (binders e) (binders b) ∙ ap (λ (z : Bool). every p (binders e) && z) (sym (and-true (every p (binders b)))))
    ∙ two-first (p (x over b)) (p (y over b)) (every_all p (e ∷ b ∷ []))
every-parts p (branch x y e l r) =
    ap (λ (z : Bool). p (x over l) && (p (y over r) && z))
    (every_append p (binders e) (binders l ++ binders r)
    ∙ ap (λ (z : Bool). every p (binders e) && z)
    (every_append p (binders l) (binders r) ∙ ap (λ (z : Bool). every p (binders l) && z) (sym (and-true (every p (binders r))))))
    ∙ two-first (p (x over l)) (p (y over r)) (every_all p (e ∷ l ∷ r ∷ []))

plain-append : (ts us : List Term) → plain_all (ts ++ us) ≡ plain_all ts && plain_all us
plain-append [] us = refl
plain-append (t ∷ ts) us = ap (λ (z : Bool). plain t && z) (plain-append ts us) ∙ sym (and_assoc (plain t) (plain_all ts) (plain_all us))

all_append : (p : Binder → Bool) (ts us : List Term) → every_all p (ts ++ us) ≡ every_all p ts && every_all p us
all_append p [] us = refl
all_append p (t ∷ ts) us = ap (λ (z : Bool). every p (binders t) && z) (all_append p ts us) ∙ sym (and_assoc (every p (binders t)) (every_all p ts) (every_all p us))

-- the nodes of a row, of the whole term w
abbrev pass_all : Term → List Term → Bool
pass_all w ts = plain_all ts && every_all (once w) ts

passes-parts : (w t : Term) (ts : List Term) → pass_all w (t ∷ ts) ≡ passes_in w t && pass_all w (parts t ++ ts)
unfolding passes_in
passes-parts w t ts =
    let o = once w in
    ap₂ ◌&&◌
    (ap (λ (z : Bool). z && plain_all ts) (plain-parts t) ∙ and_assoc (own_plain t) (plain_all (parts t)) (plain_all ts) ∙ ap (λ (z : Bool). own_plain t && z) (sym (plain-append (parts t) ts)))
    (ap (λ (z : Bool). z && every_all o ts) (every-parts o t) ∙ and_assoc (every o (own_binders t)) (every_all o (parts t)) (every_all o ts) ∙ ap (λ (z : Bool). every o (own_binders t) && z) (sym (all_append o (parts t) ts)))
    ∙ exchange (own_plain t) (plain_all (parts t ++ ts)) (every o (own_binders t)) (every_all o (parts t ++ ts))

-- ---- the loop

-- the n terms at i pass or not
abbrev PassIs : List ℕ → ℕ → ℕ → Bool → Type 0
PassIs s i n b = (w : Term) → TermAt s 0 w → (ts : List Term) → TermsAt s i n ts → b ≡ pass_all w ts

-- what `passes` and `parts_at` ensure
abbrev NodeIs : List ℕ → ℕ → Bool → Type 0
NodeIs s i b = (w t : Term) → Within s i w t → b ≡ passes_in w t

abbrev pub RowIs : List ℕ → ℕ → Row → Type 0
RowIs s i r = LookIs s i r.start r.parts

-- all nodes up to i pass; whatever the rest does, the whole does
pub record Going (s : List ℕ) (i left : ℕ) : Type 0 where
  pub whole : (w : Term) × TermAt s 0 w
  pub some : Some s i left
  pub rest : (b : Bool) → PassIs s i left b → PassIs s 0 1 b

pub begin : (s : List ℕ) → ((w : Term) × TermAt s 0 w) → Going s 0 1
begin s (w, a) = record { whole = (w, a); some = (w ∷ [], alone s 0 w a); rest = λ b f. f }

module _ {s : List ℕ} {i left : ℕ} (g : Going s i left) where
  so-whole : (b : Bool) → PassIs s i left b → (w : Term) → TermAt s 0 w → b ≡ straight w
  unfolding straight
  so-whole b f w a = g.rest b f w a (w ∷ []) (alone s 0 w a) ∙ ap₂ ◌&&◌ (and-true (plain w)) (and-true (every (once w) (binders w)))

  pub finish : left ≡ 0 → (w : Term) → TermAt s 0 w → true ≡ straight w
  finish z = so-whole true none
    where
      none : PassIs s i left true
      none w a [] u = refl
      none w a (t ∷ ts) u = absurd (omega (arith, u.many))

  module _ (l : 0 < left) where
    pub one-here : (t : Term) × TermAt s i t
    one-here = some_first s i left l g.some

    pub node-here : (w : Term) × (t : Term) × Within s i w t
    node-here = let (t, h) = one-here in (g.whole.0, t, record { whole = g.whole.1; here = h })

    so-node : (b c : Bool) → NodeIs s i b → (w : Term) → TermAt s 0 w → (t : Term) (ts : List Term) → TermsAt s i left (t ∷ ts) → c ≡ pass_all w (parts t ++ ts)
        → b && c ≡ pass_all w (t ∷ ts)
    so-node b c f w a t ts u e = ap₂ ◌&&◌ (f w t (record { whole = a; here = first s i left t ts u })) e ∙ sym (passes-parts w t ts)

    pub stop : NodeIs s i false → (w : Term) → TermAt s 0 w → false ≡ straight w
    stop f = so-whole false none
      where
        none : PassIs s i left false
        none w a [] u = absurd (omega (arith, u.many))
        none w a (t ∷ ts) u = so-node false _ f w a t ts u refl

    module _ (r : Row) (k : RowIs s i r) where
      pub ahead : (i < length s) × (i < r.start)
      ahead = turn-ahead s i left r.start r.parts k l g.some

      pub few : left - 1 + r.parts ≤ length s
      few = turn-fits s i left r.start r.parts k l g.some

      so-rest : NodeIs s i true → (b : Bool) → PassIs s r.start (left - 1 + r.parts) b → PassIs s i left b
      so-rest f b q w a [] u = absurd (omega (arith, u.many))
      so-rest f b q w a (t ∷ ts) u = so-node true b f w a t ts u (q w a (parts t ++ ts) (turned s i left r.start r.parts k l t ts u))

      pub turn : NodeIs s i true → Going s r.start (left - 1 + r.parts)
      turn f = record { whole = g.whole; some = turn-some s i left r.start r.parts k l g.some; rest = λ b q. g.rest b (so-rest f b q) }
