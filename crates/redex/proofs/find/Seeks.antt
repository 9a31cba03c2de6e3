-- The search at a node, by how many parts it enters: what it wants of the first part decides whether the node is the redex; else
-- the parts are searched in order. By cases on the shapes of terms. Assumes nothing.
use Prim.Native.Nat.{ℕ, ◌+◌}
use mathlib.Core.Path.{◌≡◌, refl, ap, ◌∙◌}
use mathlib.Core.Bool.{Bool}
use mathlib.Core.Option.{Option, none, some}
use mathlib.Core.List.{List, [], ◌∷◌, append-nil}
use native.Mathlib.Omega.{arith}
use lib.ListN.{length, length-append}
use Rattle.std.specs.Prelude.{if◌then◌else◌}
use Rattle.rules.specs.Name.{Name, encode_name, encode_names}
use Rattle.rules.specs.Term.{Term, var, leaf, one, two, abs, both, branch, unit, trivial, inl, inr, fst, snd, abort, promote, derelict, pair, app, discard, let_a_pair, copy, encode, size, parts}
use Rattle.rules.specs.Step.{Contraction, no, by, contract, name_bytes}
use Rattle.term.specs.Node.{tag, head, encode_all}
use Rattle.term.proofs.node.Terms.{apart-size}
use Rattle.redex.specs.Spot.{Spot, deeper, or_later, itself, spot}
use Rattle.redex.specs.Searched.{enters_after, reduces, sought_at, sought}
use Rattle.std.specs.Prelude.{Result, Ok, Err}
use Rattle.redex.proofs.find.Firsts.{contracts, wants-pair, wants-abs, wants-promote, wants-injection, wants-nothing}

-- the search goes on behind what has no redex
abbrev pub onward : Result ℕ ℕ → (ℕ → Result ℕ ℕ) → Result ℕ ℕ
onward (Ok p) f = Ok p
onward (Err m) f = f m

-- how a node is searched: not at all; its first part u; its parts u and v
pub data Opened (t : Term) (n : ℕ) : Type 0 where
  shut : n ≡ 0 → spot t ≡ none → Opened t n
  into_one : (u : Term) (ts : List Term) → n ≡ 1 → parts t ≡ u ∷ ts
      → ((i : ℕ) → sought i t ≡ (if reduces (tag t) (tag u) then Ok i else onward (sought (i + length (head t)) u) (λ m. Err (m + length (encode_all ts))))) → Opened t n
  into_two : (u v : Term) → n ≡ 2 → parts t ≡ u ∷ v ∷ []
      → ((i : ℕ) → sought i t ≡ (if reduces (tag t) (tag u) then Ok i else onward (sought (i + length (head t)) u) (λ m. sought m v))) → Opened t n

-- ---- the laws of the search, over the spots of the parts

module _ (i n : ℕ) where
  in-first : (o m l : ℕ) (f : Term → Term) (p : Option Spot) → n ≡ o + (m + l) → sought_at i n (deeper o f p) ≡ onward (sought_at (i + o) m p) (λ j. Err (j + l))
  in-first o m l f none e = ap Err (omega arith)
  in-first o m l f (some q) e = ap Ok (omega arith)

  in_both : (o o' m m' : ℕ) (f g : Term → Term) (p q : Option Spot) → o' ≡ o + m → n ≡ o + (m + m')
      → sought_at i n (or_later (deeper o f p) (deeper o' g q)) ≡ onward (sought_at (i + o) m p) (λ j. sought_at j m' q)
  in_both o o' m m' f g (some p) q d e = ap Ok (omega arith)
  in_both o o' m m' f g none none d e = ap Err (omega arith)
  in_both o o' m m' f g none (some q) d e = ap Ok (omega arith)

  -- the node is the redex, or else what p says
  here : (t : Term) (c : Contraction) (b : Bool) (p : Option Spot) (s : Result ℕ ℕ) → contracts c ≡ b → sought_at i n p ≡ s → sought_at i n (itself t c p) ≡ (if b then Ok i else s)
  here t no b p s e d = rw (← e) d
  here t (by r h u) b p s e d = rw (← e) (ap Ok (omega arith))

-- ---- the shapes of nodes

module _ (t u : Term) (ts : List Term) (f : Term → Term) (o : ℕ) (e : parts t ≡ u ∷ ts) (l : o ≡ length (head t)) where
  long : size t ≡ o + (size u + length (encode_all ts))
  long = omega (arith, apart-size t, ap (λ (z : List Term). length (encode_all z)) e, length-append (encode u) (encode_all ts))

  -- one part is entered, of a node that may be a redex, and of one that is none
  one-itself : (b : Bool) → contracts (contract t) ≡ b → (i : ℕ)
      → sought_at i (size t) (itself t (contract t) (deeper o f (spot u))) ≡ (if b then Ok i else onward (sought (i + length (head t)) u) (λ m. Err (m + length (encode_all ts))))
  one-itself b h i =
      here i (size t) t (contract t) b (deeper o f (spot u)) _ h
      (in-first i (size t) o (size u) (length (encode_all ts)) f (spot u) long ∙ ap (λ (k : ℕ). onward (sought (i + k) u) (λ m. Err (m + length (encode_all ts)))) l)

  one_plain : (i : ℕ) → sought_at i (size t) (deeper o f (spot u)) ≡ (if reduces 3 (tag u) then Ok i else onward (sought (i + length (head t)) u) (λ m. Err (m + length (encode_all ts))))
  one_plain i =
      rw (← wants-nothing u)
      (in-first i (size t) o (size u) (length (encode_all ts)) f (spot u) long ∙ ap (λ (k : ℕ). onward (sought (i + k) u) (λ m. Err (m + length (encode_all ts)))) l)

-- two parts are entered
two-itself : (t u v : Term) (f g : Term → Term) (o : ℕ) → parts t ≡ u ∷ v ∷ [] → o ≡ length (head t) → (b : Bool) → contracts (contract t) ≡ b → (i : ℕ)
    → sought_at i (size t) (itself t (contract t) (or_later (deeper o f (spot u)) (deeper (o + size u) g (spot v)))) ≡ (if b then Ok i else onward (sought (i + length (head t)) u) (λ m. sought m v))
two-itself t u v f g o e l b h i =
    here i (size t) t (contract t) b _ _ h
    (in_both i (size t) o (o + size u) (size u) (size v) f g (spot u) (spot v) refl
    (long t u (v ∷ []) f o e l ∙ ap (λ (k : ℕ). o + (size u + k)) (ap (λ (z : List ℕ). length z) (append-nil (encode v))))
    ∙ ap (λ (k : ℕ). onward (sought (i + k) u) (λ m. sought m v)) l)

names-long : (k : ℕ) (x y : Name) → 1 + name_bytes x + name_bytes y ≡ length (k ∷ encode_names (x ∷ y ∷ []))
names-long k x y = omega (arith, length-append (encode_name x) (encode_names (y ∷ [])), length-append (encode_name y) [])

name-long : (x : Name) → 1 + name_bytes x ≡ length (5 ∷ encode_names (x ∷ []))
name-long x = omega (arith, length-append (encode_name x) [])

pub opened : (t : Term) → Opened t (enters_after (tag t))
unfolding spot contract
opened (var x) = shut refl refl
opened (leaf unit) = shut refl refl
opened (leaf trivial) = shut refl refl
opened (one abort e) = shut refl refl
opened (one inl e) = into_one e [] refl refl (one_plain (one inl e) e [] (one inl) 1 refl refl)
opened (one inr e) = into_one e [] refl refl (one_plain (one inr e) e [] (one inr) 1 refl refl)
opened (one promote e) = into_one e [] refl refl (one_plain (one promote e) e [] (one promote) 1 refl refl)
opened (one fst e) = into_one e [] refl refl (one-itself (one fst e) e [] (one fst) 1 refl refl _ (wants-pair e _ (λ a b. refl)))
opened (one snd e) = into_one e [] refl refl (one-itself (one snd e) e [] (one snd) 1 refl refl _ (wants-pair e _ (λ a b. refl)))
opened (one derelict e) = into_one e [] refl refl (one-itself (one derelict e) e [] (one derelict) 1 refl refl _ (wants-promote e _ (λ v. refl)))
opened (two pair a b) = into_two a b refl refl (two-itself (two pair a b) a b (λ z. two pair z b) (two pair a) 1 refl refl _ (wants-nothing a))
opened (two app a b) = into_two a b refl refl (two-itself (two app a b) a b (λ z. two app z b) (two app a) 1 refl refl _ (wants-abs a b))
opened (two discard a b) = into_two a b refl refl (two-itself (two discard a b) a b (λ z. two discard z b) (two discard a) 1 refl refl _ (wants-promote a _ (λ v. refl)))
opened (abs x e) = into_one e [] refl refl (one_plain (abs x e) e [] (abs x) (1 + name_bytes x) refl (name-long x))
opened (both let_a_pair x y e b) =
    into_two e b refl refl (two-itself (both let_a_pair x y e b) e b (λ z. both let_a_pair x y z b) (both let_a_pair x y e) (1 + name_bytes x + name_bytes y) refl (names-long 4 x y) _ (wants-pair e _ (λ a c. refl)))
opened (both copy x y e b) =
    into_one e (b ∷ []) refl refl (one-itself (both copy x y e b) e (b ∷ []) (λ z. both copy x y z b) (1 + name_bytes x + name_bytes y) refl (names-long 17 x y) _ (wants-promote e _ (λ v. refl)))
opened (branch x y e l r) =
    into_one e (l ∷ r ∷ []) refl refl
    (one-itself (branch x y e l r) e (l ∷ r ∷ []) (λ z. branch x y z l r) (1 + name_bytes x + name_bytes y) refl (names-long 9 x y) _ (wants-injection e _ _ (λ v. refl) (λ v. refl)))
