-- Terms in a row, with one name in mind: a node has its own uses and binders, and then its parts take its place. Assumes nothing.
use Prim.Native.Nat.{ℕ, ◌+◌, ◌-◌, ◌<◌, ◌≤◌}
use mathlib.Core.Path.{◌≡◌, refl}
use mathlib.Core.List.{List, [], ◌∷◌, ◌++◌, map}
use native.Mathlib.Omega.{arith}
use lib.ListN.{length, length-append}
use Rattle.rules.specs.Name.{Name, same, encode_name, encode_names}
use Rattle.rules.specs.Term.{Term, var, leaf, one, two, abs, both, branch, parts}
use Rattle.rules.specs.Straight.{count, uses, stands}
use Rattle.term.specs.Node.{names}
use Rattle.term.specs.Place.{TermAt, TermsAt}
use Rattle.term.proofs.node.Terms.{Some, some_first, first, alone, at-end, apart-size, LookIs, turned, turn-some, turn-fits}
use Rattle.laws.specs.straight.Weights.{weigh, uses_of, stands_of, uses-weigh, stands-weigh}
use Rattle.straight.specs.declared.uses.NodeUses.{NodeUses}
use Rattle.straight.specs.Node.{own_variables, own_binders}
use Rattle.straight.specs.Counts.{AtNode, InTerm}
use Rattle.straight.proofs.uses.NameRows.{at_most_one}

-- ---- a node's own, and its parts'

abbrev own_uses : Name → Term → ℕ
own_uses x t = count x (own_variables t)

abbrev own_stands : Name → Term → ℕ
own_stands x t = count x (map (λ b. b.name) (own_binders t))

abbrev uses_all : Name → List Term → ℕ
uses_all x [] = 0
uses_all x (t ∷ ts) = uses x t + uses_all x ts

abbrev stands_all : Name → List Term → ℕ
stands_all x [] = 0
stands_all x (t ∷ ts) = stands x t + stands_all x ts

uses-parts : (x : Name) (t : Term) → uses x t ≡ own_uses x t + uses_all x (parts t)
unfolding weigh count
uses-parts x t = go t (uses-weigh x t)
  where
    go : (t : Term) → weigh (uses_of x) t ≡ uses x t → uses x t ≡ own_uses x t + uses_all x (parts t)
    go (var y) h = omega (arith, h)
    go (leaf k) h = omega (arith, h)
    go (one k e) h = omega (arith, h, uses-weigh x e)
    go (two k a b) h = omega (arith, h, uses-weigh x a, uses-weigh x b)
    go (abs y e) h = omega (arith, h, uses-weigh x e)
    go (both k y z e b) h = omega (arith, h, uses-weigh x e, uses-weigh x b)
    go (branch y z e l r) h = omega (arith, h, uses-weigh x e, uses-weigh x l, uses-weigh x r)

stands_parts : (x : Name) (t : Term) → stands x t ≡ own_stands x t + stands_all x (parts t)
unfolding weigh count
stands_parts x t = go t (stands-weigh x t)
  where
    go : (t : Term) → weigh (stands_of x) t ≡ stands x t → stands x t ≡ own_stands x t + stands_all x (parts t)
    go (var y) h = omega (arith, h)
    go (leaf k) h = omega (arith, h)
    go (one k e) h = omega (arith, h, stands-weigh x e)
    go (two k a b) h = omega (arith, h, stands-weigh x a, stands-weigh x b)
    go (abs y e) h = omega (arith, h, stands-weigh x e)
    go (both k y z e b) h = omega (arith, h, stands-weigh x e, stands-weigh x b)
    go (branch y z e l r) h = omega (arith, h, stands-weigh x e, stands-weigh x l, stands-weigh x r)

uses-append : (x : Name) (ts us : List Term) → uses_all x (ts ++ us) ≡ uses_all x ts + uses_all x us
uses-append x [] us = omega arith
uses-append x (t ∷ ts) us = omega (arith, uses-append x ts us)

stands-append : (x : Name) (ts us : List Term) → stands_all x (ts ++ us) ≡ stands_all x ts + stands_all x us
stands-append x [] us = omega arith
stands-append x (t ∷ ts) us = omega (arith, stands-append x ts us)

-- a name takes a byte at least
count_most : (x : Name) (xs : List Name) → count x xs ≤ length (encode_names xs)
unfolding count
count_most x [] = omega arith
count_most x (y ∷ xs) = omega (arith, count_most x xs, at_most_one (same x y), length-append (encode_name y) (encode_names xs))

own-most : (x : Name) (t : Term) → own_uses x t + own_stands x t ≤ length (encode_names (names t))
unfolding count
own-most x (var y) = omega (arith, count_most x (y ∷ []))
own-most x (leaf k) = omega arith
own-most x (one k e) = omega arith
own-most x (two k a b) = omega arith
own-most x (abs y e) = omega (arith, count_most x (y ∷ []))
own-most x (both k y z e b) = omega (arith, count_most x (y ∷ z ∷ []))
own-most x (branch y z e l r) = omega (arith, count_most x (y ∷ z ∷ []))

-- ---- the loop

-- what `uses_at` ensures
abbrev pub UsesAtIs : List ℕ → ℕ → Name → NodeUses → Type 0
UsesAtIs s i x m = (t : Term) → TermAt s i t → AtNode x i t m

-- the n terms at i use x so often, and have it at so many binders
abbrev RowUses : List ℕ → ℕ → ℕ → Name → ℕ → ℕ → Type 0
RowUses s i n x u v = (ts : List Term) → TermsAt s i n ts → (u ≡ uses_all x ts) × (v ≡ stands_all x ts)

-- u uses and v binders were met up to i; whatever the rest has, the whole has that and them
pub record Going (s : List ℕ) (at : ℕ) (x : Name) (i left u v : ℕ) : Type 0 where
  pub some : Some s i left
  pub past : at + (u + v) ≤ i
  pub rest : (m n : ℕ) → RowUses s i left x m n → RowUses s at 1 x (u + m) (v + n)

pub begin : (s : List ℕ) (at : ℕ) (x : Name) → ((t : Term) × TermAt s at t) → Going s at x at 1 0 0
begin s at x (t, w) =
    record {
      some = (t ∷ [], alone s at t w);
      past = omega arith;
      rest = λ m n f ts w. let e = f ts w in (omega (arith, e.0), omega (arith, e.1));
    }

module _ {s : List ℕ} {at : ℕ} {x : Name} {i left u v : ℕ} (g : Going s at x i left u v) where
  pub finish : left ≡ 0 → (t : Term) → TermAt s at t → InTerm x t (record { uses = u; stands = v })
  finish z t w = let e = g.rest 0 0 none (t ∷ []) (alone s at t w) in record { uses = omega (arith, e.0); stands = omega (arith, e.1) }
    where
      none : RowUses s i left x 0 0
      none [] w = (refl, refl)
      none (t ∷ ts) w = absurd (omega (arith, w.many))

  module _ (l : 0 < left) where
    pub one-here : (t : Term) × TermAt s i t
    one-here = some_first s i left l g.some

    module _ (m : NodeUses) (f : UsesAtIs s i x m) where
      look : LookIs s i m.start m.parts
      look t w = let e = f t w in (e.start, e.parts)

      -- what the node has is less than its head is long, and the head is within the list
      pub room : (i + (m.uses + m.stands) < m.start) × (m.start ≤ length s)
      room =
          let (t, w) = one-here in
          let e = f t w in (
            omega (arith, e.start, e.uses, e.stands, own-most x t),
            omega (arith, e.start, at-end s i t w, apart-size t),
          )

      pub few : left - 1 + m.parts ≤ length s
      few = turn-fits s i left m.start m.parts look l g.some

      so-rest : (a b : ℕ) → RowUses s m.start (left - 1 + m.parts) x a b → RowUses s i left x (m.uses + a) (m.stands + b)
      so-rest a b k [] w = absurd (omega (arith, w.many))
      so-rest a b k (t ∷ ts) w =
          let d = k (parts t ++ ts) (turned s i left m.start m.parts look l t ts w) in
          let e = f t (first s i left t ts w) in (
            omega (arith, d.0, e.uses, uses-parts x t, uses-append x (parts t) ts),
            omega (arith, d.1, e.stands, stands_parts x t, stands-append x (parts t) ts),
          )

      pub turn : Going s at x m.start (left - 1 + m.parts) (u + m.uses) (v + m.stands)
      turn =
          record {
            some = turn-some s i left m.start m.parts look l g.some;
            past = omega (arith, g.past, room.0);
            rest = λ a b k ts w. let e = g.rest (m.uses + a) (m.stands + b) (so-rest a b k) ts w in (omega (arith, e.0), omega (arith, e.1));
          }
