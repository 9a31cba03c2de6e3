-- The test of a node: which node it is by its tag, where the names of its binders stand and what they cover. Assumes nothing.
use Prim.Native.Nat.{ℕ, ◌+◌}
use mathlib.Core.Path.{◌≡◌, refl, sym, ap, ap₂, ◌∙◌}
use mathlib.Core.Bool.{Bool, ◌&&◌, and-true}
use mathlib.Core.List.{List, [], ◌∷◌}
use native.Mathlib.Omega.{arith}
use lib.ListN.{length, get_or}
use Rattle.rules.specs.Name.{Name}
use Rattle.rules.specs.Term.{Term, var, leaf, one, two, abs, both, branch, unit, trivial, inl, inr, fst, snd, abort, promote, derelict, pair, app, discard, let_a_pair, copy, parts}
use Rattle.rules.specs.Straight.{◌over◌, once}
use Rattle.term.specs.Node.{tag, names, names_after, parts_after}
use Rattle.term.specs.Place.{TermAt, TermsAt, NamesAt, NameAt}
use Rattle.term.specs.declared.node.Row.{Row}
use Rattle.term.proofs.node.Names.{AfterIs, first-name, other-names, name-end}
use Rattle.term.proofs.node.Terms.{Some, SkipIs, some_alone, skip-one, first, others, at_tag, at_names, at-parts, at-count-names, at-count-parts}
use Rattle.straight.specs.Node.{plain_tag, passes_in}
use Rattle.straight.specs.Place.{Within, Binds}
use Rattle.straight.proofs.StraightRows.{RowIs}

-- ---- an Abs

module _ {s : List ℕ} {i : ℕ} {w : Term} {x : Name} {e : Term} (a : Within s i w (abs x e)) where
  pub abs-binds : (r : Row) → RowIs s i r → Binds s (i + 1) r.start w x e
  abs-binds r f =
      let k = f (abs x e) a.here in
      record {
        whole = a.whole;
        named = first-name s (i + 1) 1 x [] (at_names s i (abs x e) a.here);
        covers = first s r.start r.parts e [] (at-parts s i (abs x e) a.here r.start r.parts k.0 k.1);
      }

  pub abs-passes : (b : Bool) → b ≡ once w (x over e) → b ≡ passes_in w (abs x e)
  unfolding passes_in
  abs-passes b h = h ∙ sym (and-true (once w (x over e)))

-- ---- a LetPair

module _ {s : List ℕ} {i : ℕ} {w : Term} {x y : Name} {p e : Term} (a : Within s i w (both let_a_pair x y p e)) where
  let-row : (r : Row) → RowIs s i r → TermsAt s r.start r.parts (p ∷ e ∷ [])
  let-row r f = let k = f (both let_a_pair x y p e) a.here in at-parts s i (both let_a_pair x y p e) a.here r.start r.parts k.0 k.1

  pub let-pair : (r : Row) → RowIs s i r → Some s r.start 1
  let-pair r f = some_alone s r.start (p, first s r.start r.parts p (e ∷ []) (let-row r f))

  let-body : (r : Row) → RowIs s i r → (m : ℕ) → SkipIs s r.start 1 m → TermAt s m e
  let-body r f m g =
      let v = let-row r f in
      first s m _ e [] (others s r.start r.parts p (e ∷ []) v m (skip-one s r.start m g p (first s r.start r.parts p (e ∷ []) v)))

  let-names : NamesAt s (i + 1) 2 (x ∷ y ∷ [])
  let-names = at_names s i (both let_a_pair x y p e) a.here

  pub first-at : NameAt s (i + 1) x
  first-at = first-name s (i + 1) 2 x (y ∷ []) let-names

  module _ (r : Row) (f : RowIs s i r) (m : ℕ) (g : SkipIs s r.start 1 m) where
    pub first-binds : Binds s (i + 1) m w x e
    first-binds = record { whole = a.whole; named = first-at; covers = let-body r f m g }

    pub second-binds : (j : ℕ) → AfterIs s (i + 1) 1 j → Binds s j m w y e
    second-binds j h =
        record {
          whole = a.whole;
          named = first-name s j 1 y [] (other-names s (i + 1) 2 x (y ∷ []) let-names j (name-end s (i + 1) j h x first-at));
          covers = let-body r f m g;
        }

  pub let-passes : (b c : Bool) → b ≡ once w (x over e) → c ≡ once w (y over e) → b && c ≡ passes_in w (both let_a_pair x y p e)
  unfolding passes_in
  let-passes b c h k = ap₂ ◌&&◌ h (k ∙ sym (and-true (once w (y over e))))

-- ---- any node, by its tag

-- a node of one name and one part
abs-of : (t : Term) → length (names t) ≡ 1 → length (parts t) ≡ 1 → (x : Name) × (e : Term) × (t ≡ abs x e)
abs-of (abs x e) n p = (x, e, refl)
abs-of (var x) n p = absurd (omega (arith, p))
abs-of (leaf k) n p = absurd (omega (arith, n))
abs-of (one k e) n p = absurd (omega (arith, n))
abs-of (two k a b) n p = absurd (omega (arith, n))
abs-of (both k x y e b) n p = absurd (omega (arith, n))
abs-of (branch x y e l r) n p = absurd (omega (arith, n))

-- a node of two names and two parts, that is no Copy
let-of : (t : Term) → length (names t) ≡ 2 → length (parts t) ≡ 2 → (tag t ≡ 17 → ⊥) → (x : Name) × (y : Name) × (p : Term) × (e : Term) × (t ≡ both let_a_pair x y p e)
let-of (both let_a_pair x y e b) n p z = (x, y, e, b, refl)
let-of (both copy x y e b) n p z = absurd (z refl)
let-of (abs x e) n p z = absurd (omega (arith, n))
let-of (var x) n p z = absurd (omega (arith, n))
let-of (leaf k) n p z = absurd (omega (arith, n))
let-of (one k e) n p z = absurd (omega (arith, n))
let-of (two k a b) n p z = absurd (omega (arith, n))
let-of (branch x y e l r) n p z = absurd (omega (arith, p))

-- a node that is no Abs and no LetPair binds nothing, or is not plain
plain_of : (w t : Term) → (tag t ≡ 5 → ⊥) → (tag t ≡ 4 → ⊥) → plain_tag (tag t) ≡ passes_in w t
unfolding passes_in
plain_of w (var x) p q = refl
plain_of w (leaf unit) p q = refl
plain_of w (leaf trivial) p q = refl
plain_of w (one inl e) p q = refl
plain_of w (one inr e) p q = refl
plain_of w (one fst e) p q = refl
plain_of w (one snd e) p q = refl
plain_of w (one abort e) p q = refl
plain_of w (one promote e) p q = refl
plain_of w (one derelict e) p q = refl
plain_of w (two pair a b) p q = refl
plain_of w (two app a b) p q = refl
plain_of w (two discard a b) p q = refl
plain_of w (abs x e) p q = absurd (p refl)
plain_of w (both let_a_pair x y e b) p q = absurd (q refl)
plain_of w (both copy x y e b) p q = refl
plain_of w (branch x y e l r) p q = refl

module _ {s : List ℕ} {i : ℕ} where
  module _ (z : get_or s i 0 ≡ 5) where
    is-abs : (t : Term) → TermAt s i t → (x : Name) × (e : Term) × (t ≡ abs x e)
    is-abs t h = abs-of t (sym (at-count-names s i t h) ∙ ap (λ (k : ℕ). names_after k) z) (sym (at-count-parts s i t h) ∙ ap (λ (k : ℕ). parts_after k) z)

    pub some-abs : ((w : Term) × (t : Term) × Within s i w t) → (w : Term) × (x : Name) × (e : Term) × Within s i w (abs x e)
    some-abs (w, t, a) = let (x, e, q) = is-abs t a.here in (w, x, e, rw q at a)

    pub so-abs : (b : Bool) → ((w : Term) (x : Name) (e : Term) → Within s i w (abs x e) → b ≡ passes_in w (abs x e)) → (w t : Term) → Within s i w t → b ≡ passes_in w t
    so-abs b f w t a = let (x, e, q) = is-abs t a.here in rw q (f w x e (rw q at a))

  module _ (z : get_or s i 0 ≡ 4) where
    is-let : (t : Term) → TermAt s i t → (x : Name) × (y : Name) × (p : Term) × (e : Term) × (t ≡ both let_a_pair x y p e)
    is-let t h =
        let-of t (sym (at-count-names s i t h) ∙ ap (λ (k : ℕ). names_after k) z) (sym (at-count-parts s i t h) ∙ ap (λ (k : ℕ). parts_after k) z)
        (λ q. omega (arith, at_tag s i t h))

    pub some-let : ((w : Term) × (t : Term) × Within s i w t) → (w : Term) × (x : Name) × (y : Name) × (p : Term) × (e : Term) × Within s i w (both let_a_pair x y p e)
    some-let (w, t, a) = let (x, y, p, e, q) = is-let t a.here in (w, x, y, p, e, rw q at a)

    pub so-let : (b : Bool) → ((w : Term) (x y : Name) (p e : Term) → Within s i w (both let_a_pair x y p e) → b ≡ passes_in w (both let_a_pair x y p e)) → (w t : Term) → Within s i w t → b ≡ passes_in w t
    so-let b f w t a = let (x, y, p, e, q) = is-let t a.here in rw q (f w x y p e (rw q at a))

  pub so-plain : (b : Bool) → b ≡ plain_tag (get_or s i 0) → (get_or s i 0 ≡ 5 → ⊥) → (get_or s i 0 ≡ 4 → ⊥) → (w t : Term) → Within s i w t → b ≡ passes_in w t
  so-plain b f p q w t a =
      let h = at_tag s i t a.here in
      f ∙ ap (λ (k : ℕ). plain_tag k) h ∙ plain_of w t (λ z. p (h ∙ z)) (λ z. q (h ∙ z))
