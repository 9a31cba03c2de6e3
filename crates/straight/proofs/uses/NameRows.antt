-- Names in a row, with one name in mind: a name counts one or none, and then the others are left. Assumes nothing.
use Prim.Native.Nat.{ℕ, ◌+◌, ◌-◌, ◌<◌, ◌≤◌}
use mathlib.Core.Path.{◌≡◌, refl, ap, ◌∙◌}
use mathlib.Core.Bool.{Bool, true, false}
use mathlib.Core.List.{List, [], ◌∷◌}
use native.Mathlib.Omega.{arith}
use lib.ListN.{length-append}
use mir.Val.{bool_byte}
use Rattle.std.specs.Prelude.{if◌then◌else◌}
use Rattle.rules.specs.Name.{Name, same, encode_name, encode_names}
use Rattle.rules.specs.Straight.{count}
use Rattle.term.specs.Place.{NameAt, NamesAt}
use Rattle.term.proofs.node.Names.{AfterIs, SameIs, first-name, other-names, some-name, name-end}
use Rattle.straight.specs.Counts.{PastNames}

abbrev Some : List ℕ → ℕ → ℕ → Type 0
Some s i n = (xs : List Name) × NamesAt s i n xs

-- what is counted of the name at i: one if it is x, else none
abbrev pub ItIs : List ℕ → ℕ → Name → ℕ → Type 0
ItIs s i x d = (y : Name) → NameAt s i y → d ≡ (if same x y then 1 else 0)

one_if : (b : Bool) → bool_byte b ≡ (if b then 1 else 0)
one_if true = refl
one_if false = refl

pub it_is : (s : List ℕ) (i : ℕ) (x : Name) (b : Bool) (d : ℕ) → SameIs s i x b → d ≡ bool_byte b → ItIs s i x d
it_is s i x b d f e y w = e ∙ one_if b ∙ ap (λ (z : Bool). if z then 1 else 0) (f y w)

-- the n names at i end at r, and m of them are x
abbrev pub SameNamesIs : List ℕ → ℕ → ℕ → Name → ℕ → ℕ → Type 0
SameNamesIs s i n x r m = (xs : List Name) → NamesAt s i n xs → PastNames x i xs (record { next = r; same = m })

-- `done` of the names up to i are x; whatever the rest has, the whole has that and them
pub record Passing (s : List ℕ) (at n : ℕ) (x : Name) (i left done : ℕ) : Type 0 where
  pub some : Some s i left
  pub past : at + done ≤ i
  pub rest : (r m : ℕ) → SameNamesIs s i left x r m → SameNamesIs s at n x r (done + m)

pub begin : (s : List ℕ) (at n : ℕ) (x : Name) → Some s at n → Passing s at n x at n 0
begin s at n x w = record { some = w; past = omega arith; rest = λ r m f xs v. record { next = (f xs v).next; same = omega (arith, (f xs v).same) } }

pub at_most_one : (b : Bool) → (if b then 1 else 0) ≤ 1
at_most_one true = omega arith
at_most_one false = omega arith

module _ {s : List ℕ} {at n : ℕ} {x : Name} {i left done : ℕ} (g : Passing s at n x i left done) where
  pub finish : left ≡ 0 → (xs : List Name) → NamesAt s at n xs → PastNames x at xs (record { next = i; same = done })
  unfolding count
  finish z xs w = let e = g.rest i 0 none xs w in record { next = e.next; same = omega (arith, e.same) }
    where
      none : SameNamesIs s i left x i 0
      none [] v = record { next = omega arith; same = refl }
      none (y ∷ ys) v = absurd (omega (arith, v.many))

  module _ (l : 0 < left) where
    pub one-here : (y : Name) × NameAt s i y
    one-here = some-name s i left (λ z. omega arith) g.some

    pub small : (d : ℕ) → ItIs s i x d → d ≤ 1
    small d it = let y = one-here in omega (arith, it y.0 y.1, at_most_one (same x y.0))

    module _ (d j : ℕ) (it : ItIs s i x d) (after : AfterIs s i 1 j) where
      ahead : i < j
      ahead = let y = one-here in omega (arith, name-end s i j after y.0 y.1)

      next : (y : Name) (ys : List Name) → NamesAt s i left (y ∷ ys) → NamesAt s j (left - 1) ys
      next y ys w = other-names s i left y ys w j (name-end s i j after y (first-name s i left y ys w))

      some_next : Some s i left → Some s j (left - 1)
      some_next ([], w) = absurd (omega (arith, w.many))
      some_next (y ∷ ys, w) = (ys, next y ys w)

      so-rest : (r m : ℕ) → SameNamesIs s j (left - 1) x r m → SameNamesIs s i left x r (d + m)
      unfolding count
      so-rest r m f [] w = absurd (omega (arith, w.many))
      so-rest r m f (y ∷ ys) w =
          let e = f ys (next y ys w) in
          let h = first-name s i left y ys w in
          record {
            next = omega (arith, e.next, name-end s i j after y h, length-append (encode_name y) (encode_names ys));
            same = omega (arith, e.same, it y h);
          }

      pub turn : Passing s at n x j (left - 1) (done + d)
      turn =
          record {
            some = some_next g.some;
            past = omega (arith, g.past, small d it, ahead);
            rest = λ r m f xs w. let e = g.rest r (d + m) (so-rest r m f) xs w in record { next = e.next; same = omega (arith, e.same) };
          }
