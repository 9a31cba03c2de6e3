-- What contracts is one of the eight forms, and its tag says which. Assumes nothing.
use Prim.Native.Nat.{ℕ}
use mathlib.Core.Path.{◌≡◌, refl, ap}
use mathlib.Core.Bool.{Bool, true, false}
use native.Mathlib.Omega.{arith}
use Rattle.std.specs.Prelude.{◌==◌}
use Rattle.rules.specs.Name.{Name}
use Rattle.rules.specs.Term.{Term, var, leaf, one, two, abs, both, branch, inl, inr, fst, snd, abort, promote, derelict, pair, app, discard, let_a_pair, copy, one_tag}
use Rattle.rules.specs.Step.{Contraction, applied, of_pair, of_one, of_promote, of_injection, contract}
use Rattle.term.specs.Node.{tag}
use Rattle.redex.specs.Side.{side}
use Rattle.redex.proofs.find.Firsts.{First, a_pair, an_abs, an_inl, an_inr, a_promote, other, first_of, contracts}

never : {A : Type 0} → false ≡ true → A
never h = absurd (cc)

-- ---- what the first part is

pair_of : (e : Term) (f : Term → Term → Contraction) → contracts (of_pair e f) ≡ true → (a : Term) × (b : Term) × (e ≡ two pair a b)
pair_of e f h = go (first_of e) h
  where
    go : {e : Term} → First e → contracts (of_pair e f) ≡ true → (a : Term) × (b : Term) × (e ≡ two pair a b)
    go (a_pair a b) h = (a, b, refl)
    go (an_abs x e) h = never h
    go (an_inl v) h = never h
    go (an_inr v) h = never h
    go (a_promote v) h = never h
    go (other o) h = never (rw (o.pairs f) at h)

abs-of : (e a : Term) → contracts (applied e a) ≡ true → (x : Name) × (b : Term) × (e ≡ abs x b)
abs-of e a h = go (first_of e) h
  where
    go : {e : Term} → First e → contracts (applied e a) ≡ true → (x : Name) × (b : Term) × (e ≡ abs x b)
    go (an_abs x e) h = (x, e, refl)
    go (a_pair b c) h = never h
    go (an_inl v) h = never h
    go (an_inr v) h = never h
    go (a_promote v) h = never h
    go (other o) h = never (rw (o.applies a) at h)

promote-of : (e : Term) (f : Term → Contraction) → contracts (of_one e (of_promote f)) ≡ true → (v : Term) × (e ≡ one promote v)
promote-of e f h = go (first_of e) h
  where
    go : {e : Term} → First e → contracts (of_one e (of_promote f)) ≡ true → (v : Term) × (e ≡ one promote v)
    go (a_promote v) h = (v, refl)
    go (a_pair a b) h = never h
    go (an_abs x e) h = never h
    go (an_inl v) h = never h
    go (an_inr v) h = never h
    go (other o) h = never (rw (o.promotes f) at h)

injection-of : (e : Term) (f g : Term → Contraction) → contracts (of_one e (of_injection f g)) ≡ true → (d : Bool) × (v : Term) × (e ≡ one (side d) v)
injection-of e f g h = go (first_of e) h
  where
    go : {e : Term} → First e → contracts (of_one e (of_injection f g)) ≡ true → (d : Bool) × (v : Term) × (e ≡ one (side d) v)
    go (an_inl v) h = (true, v, refl)
    go (an_inr v) h = (false, v, refl)
    go (a_pair a b) h = never h
    go (an_abs x e) h = never h
    go (a_promote v) h = never h
    go (other o) h = never (rw (o.injects f g) at h)

-- ---- the forms, by their tags

abbrev pub choose : Bool → Type 0 → Type 0 → Type 0
choose true A B = A
choose false A B = B

abbrev pub IsApp : Term → Type 0
IsApp t = (x : Name) × (e : Term) × (a : Term) × (t ≡ two app (abs x e) a)

abbrev pub IsLet : Term → Type 0
IsLet t = (x : Name) × (y : Name) × (a : Term) × (b : Term) × (e : Term) × (t ≡ both let_a_pair x y (two pair a b) e)

abbrev pub IsCase : Term → Type 0
IsCase t = (x : Name) × (y : Name) × (d : Bool) × (v : Term) × (l : Term) × (r : Term) × (t ≡ branch x y (one (side d) v) l r)

abbrev pub IsFst : Term → Type 0
IsFst t = (a : Term) × (b : Term) × (t ≡ one fst (two pair a b))

abbrev pub IsSnd : Term → Type 0
IsSnd t = (a : Term) × (b : Term) × (t ≡ one snd (two pair a b))

abbrev pub IsDerelict : Term → Type 0
IsDerelict t = (v : Term) × (t ≡ one derelict (one promote v))

abbrev pub IsCopy : Term → Type 0
IsCopy t = (x : Name) × (y : Name) × (v : Term) × (e : Term) × (t ≡ both copy x y (one promote v) e)

abbrev pub IsDiscard : Term → Type 0
IsDiscard t = (v : Term) × (e : Term) × (t ≡ two discard (one promote v) e)

abbrev pub Form : ℕ → Term → Type 0
Form k t =
    choose (k == 6) (IsApp t)
    (choose (k == 4) (IsLet t)
    (choose (k == 9) (IsCase t)
    (choose (k == 11) (IsFst t)
    (choose (k == 12) (IsSnd t)
    (choose (k == 15) (IsDerelict t)
    (choose (k == 17) (IsCopy t)
    (IsDiscard t)))))))

pub form : (t : Term) → contracts (contract t) ≡ true → Form (tag t) t
unfolding contract
form (two app e a) h = let p = abs-of e a h in (p.0, p.1, a, ap (λ (z : Term). two app z a) p.2)
form (both let_a_pair x y p e) h = let q = pair_of p _ h in (x, y, q.0, q.1, e, ap (λ (z : Term). both let_a_pair x y z e) q.2)
form (branch x y s l r) h = let q = injection-of s _ _ h in (x, y, q.0, q.1, l, r, ap (λ (z : Term). branch x y z l r) q.2)
form (one fst p) h = let q = pair_of p _ h in (q.0, q.1, ap (λ (z : Term). one fst z) q.2)
form (one snd p) h = let q = pair_of p _ h in (q.0, q.1, ap (λ (z : Term). one snd z) q.2)
form (one derelict e) h = let q = promote-of e _ h in (q.0, ap (λ (z : Term). one derelict z) q.1)
form (both copy x y s e) h = let q = promote-of s _ h in (x, y, q.0, e, ap (λ (z : Term). both copy x y z e) q.1)
form (two discard d e) h = let q = promote-of d _ h in (q.0, e, ap (λ (z : Term). two discard z e) q.1)
form (var x) h = never h
form (leaf k) h = never h
form (abs x e) h = never h
form (two pair a b) h = never h
form (one inl e) h = never h
form (one inr e) h = never h
form (one promote e) h = never h
form (one abort e) h = never h

-- which injection it is
pub is-left : (d : Bool) (i : ℕ) → i ≡ one_tag (side d) → i ≡ 7 → d ≡ true
is-left true i e h = refl
is-left false i e h = absurd (omega (arith, e))

pub is_right : (d : Bool) (i : ℕ) → i ≡ one_tag (side d) → (i ≡ 7 → ⊥) → d ≡ false
is_right true i e h = absurd (h e)
is_right false i e h = refl
