-- The list of free names is no longer than the term: by induction on it, over what insert, union and without do to the length.
-- Assumes nothing.
use Rattle.std.specs.Prelude.{ℕ, ◌+◌, ◌≤◌, Bool, true, false, List, [], ◌∷◌, length, if◌then◌else◌}
use Rattle.std.proofs.Common.{ap, arith, length-append}
use Rattle.rules.specs.Basic.{Bytes}
use Rattle.rules.specs.Limits.{Limits, output_room}
use Rattle.rules.specs.Name.{Name, same, before, encode_name, encode_names}
use Rattle.rules.specs.Term.{Term, var, leaf, one, two, abs, both, branch, encode}
use Rattle.rules.specs.Free.{insert, union, without, free}
use Rattle.laws.specs.reading.Decoding.{TermIn}

abbrev pub names_size : List Name → ℕ
names_size xs = length (encode_names xs)

insert-size : (x : Name) (ys : List Name) → names_size (insert x ys) ≤ length (encode_name x) + names_size ys
unfolding insert
insert-size x [] = omega (arith, length-append x [])
insert-size x (y ∷ ys) = go (insert-size x ys) (same x y) (before x y)
  where
    go : names_size (insert x ys) ≤ length (encode_name x) + names_size ys
        → (a b : Bool) → names_size (if a then y ∷ ys else (if b then x ∷ y ∷ ys else y ∷ insert x ys)) ≤ length (encode_name x) + names_size (y ∷ ys)
    go h true b = omega arith
    go h false true = omega (arith, length-append x (encode_names (y ∷ ys)))
    go h false false = omega (arith, length-append y (encode_names (insert x ys)), length-append y (encode_names ys))

union-size : (xs ys : List Name) → names_size (union xs ys) ≤ names_size xs + names_size ys
unfolding union
union-size [] ys = omega arith
union-size (x ∷ xs) ys = omega (arith, insert-size x (union xs ys), union-size xs ys, length-append x (encode_names xs))

without-size : (x : Name) (ys : List Name) → names_size (without x ys) ≤ names_size ys
unfolding without
without-size x [] = omega arith
without-size x (y ∷ ys) = go (without-size x ys) (same x y)
  where
    go : names_size (without x ys) ≤ names_size ys → (a : Bool) → names_size (if a then without x ys else y ∷ without x ys) ≤ names_size (y ∷ ys)
    go h true = omega (arith, length-append y (encode_names ys))
    go h false = omega (arith, length-append y (encode_names ys), length-append y (encode_names (without x ys)))

pub free-size : (t : Term) → length (encode_names (free t)) ≤ length (encode t)
unfolding free encode
free-size (var x) = omega (arith, length-append x [])
free-size (leaf k) = omega arith
free-size (one k e) = omega (arith, free-size e)
free-size (two k a b) = omega (arith, free-size a, free-size b, union-size (free a) (free b), length-append (encode a) (encode b))
free-size (abs x e) = omega (arith, free-size e, without-size x (free e), length-append x (encode e))
free-size (both k x y e b) =
    simp length-append (omega (arith, free-size e, free-size b, union-size (free e) (without x (without y (free b))), without-size x (without y (free b)), without-size y (free b)))
free-size (branch x y e l r) =
    simp length-append (omega (
      arith,
      free-size e,
      free-size l,
      free-size r,
      union-size (free e) (union (without x (free l)) (without y (free r))),
      union-size (without x (free l)) (without y (free r)),
      without-size x (free l),
      without-size y (free r),
    ))

pub free-fits : (L : Limits) (s : Bytes) (t : Term) → TermIn L s t → length (encode_names (free t)) ≤ output_room L
free-fits L s t a = omega (arith, free-size t, a.short, ap length a.bytes)
