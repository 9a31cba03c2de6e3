-- Names after a tag: what stands at each place, and the place after them.
-- Assumes nothing.
use Prim.Native.Nat.{ℕ, ◌+◌, ◌<◌, ◌≤◌}
use mathlib.Core.Path.{◌≡◌, sym, ap, ◌∙◌}
use mathlib.Core.List.{List, [], ◌∷◌, ◌++◌, append_assoc}
use native.Mathlib.Omega.{arith}
use lib.ListN.{length, get_or, drop, length-drop, length-append, length-replicate}
use lib.Seq.{length-take-le}
use Rattle.rules.specs.Name.{Name, name_most, encode_name}
use Rattle.words.specs.Prints.{Prints, brackets}
use Rattle.words.specs.Task.{Task, Done, places}
use Rattle.words.specs.Steps.{chain, finish, passed, pass-then, no_more, Named, named}
use Rattle.term_text.specs.Task.{name_at, after_name, NameIn}

module _ {s : List ℕ} {at : ℕ} {x : Name} (n : Named s at x) where
  pub name_in : length x ≤ name_most → NameIn s at
  name_in h = record { few = omega (arith, n.long); fits = omega (arith, n.long, n.fits) }

  pub name-is : name_at s at ≡ x
  name-is = rw n.long n.is

  pub name-after : after_name s at ≡ at + length (encode_name x)
  name-after = omega (arith, n.long)

-- one name
module _ {s : List ℕ} {at : ℕ} {out : List ℕ} {to : ℕ} (x : Name) (e : List ℕ) {y : List ℕ} (t : Task s at out to (encode_name x ++ e) y) where
  pub after_one : Task s (after_name s at) out to e y
  after_one = rw (name-after (named x e t)) (passed (encode_name x) t)

  pub one_then : {out' : List ℕ} {to' : ℕ} {x' o : List ℕ} {r : ℕ} → Done (after_name s at) out' to' e x' o r → Done at out' to' (encode_name x ++ e) x' o r
  one_then d = pass-then (encode_name x) e (rw (name-after (named x e t)) at d)

-- two names after a tag c
module _ {s : List ℕ} {at : ℕ} {out : List ℕ} {to : ℕ} (c : ℕ) (x y : Name) (e : List ℕ) {z : List ℕ} (t : Task s at out to (c ∷ (encode_name x ++ (encode_name y ++ e))) z) where
  first-task : Task s (at + 1) out to (encode_name x ++ (encode_name y ++ e)) z
  first-task = passed (c ∷ []) t

  second-task : Task s (after_name s (at + 1)) out to (encode_name y ++ e) z
  second-task = after_one x (encode_name y ++ e) first-task

  pub first-named : Named s (at + 1) x
  first-named = named x (encode_name y ++ e) first-task

  pub second-named : Named s (after_name s (at + 1)) y
  second-named = named y e second-task

  pub after_two : Task s (after_name s (after_name s (at + 1))) out to e z
  after_two = after_one y e second-task

  pub two_then : {out' : List ℕ} {to' : ℕ} {x' o : List ℕ} {r : ℕ}
      → Done (after_name s (after_name s (at + 1))) out' to' e x' o r → Done at out' to' (c ∷ (encode_name x ++ (encode_name y ++ e))) x' o r
  two_then d = pass-then (c ∷ []) (encode_name x ++ (encode_name y ++ e)) (one_then x (encode_name y ++ e) first-task (one_then y e second-task d))

-- how long a name is that stands at i
pub name-at-long : {s : List ℕ} {i : ℕ} → NameIn s i → length (name_at s i) ≡ get_or s i 0
name-at-long {s} {i} n = length-take-le (get_or s i 0) (drop (i + 1) s) (omega (arith, n.fits, length-drop (i + 1) s))

-- one after the other, to the right
pub regroup : (u a b c : List ℕ) {out : List ℕ} {to : ℕ} {o : List ℕ} {p : ℕ} → Prints out to (u ++ ((a ++ b) ++ c)) o p → Prints out to (u ++ (a ++ (b ++ c))) o p
regroup u a b c w = rw (append_assoc a b c) at w

pub spread : (x u y v w : List ℕ) → x ++ (u ++ (y ++ (v ++ w))) ≡ (x ++ (u ++ (y ++ v))) ++ w
spread x u y v w =
    sym (append_assoc x (u ++ (y ++ v)) w ∙ ap (λ (l : List ℕ). x ++ l) (append_assoc u (y ++ v) w ∙ ap (λ (l : List ℕ). u ++ l) (append_assoc y v w)))

-- a name, and brackets after it
module _ {s : List ℕ} {at : ℕ} {out : List ℕ} {to : ℕ} (x : Name) (c : ℕ) (t : Task s at out to (encode_name x) (x ++ brackets c)) where
  last-named : Named s at x
  last-named = named x [] (no_more t)

  pub last-in : length x ≤ name_most → NameIn s at
  last-in h = name_in last-named h

  module _ {o : List ℕ} {p q : ℕ} (a : Prints out to (name_at s at) o p) (h : q ≡ after_name s at) where
    last-prints : Prints out to x o p
    last-prints = rw (name-is last-named) at a

    pub last-room : p + c + 8 ≤ length o
    last-room = omega (arith, t.room, last-prints.ends, last-prints.long, length-append x (brackets c), length-replicate {A = ℕ} c 41)

    module _ {o₁ : List ℕ} {r : ℕ} (b : Prints o p (brackets c) o₁ r) where
      whole-prints : Prints out to (x ++ brackets c) o₁ r
      whole-prints = chain last-prints b

      pub last-places : (q < 65536) × (r < 65536)
      last-places = (omega (arith, h, last-named.long, last-named.fits, t.short), omega (arith, whole-prints.ends, t.low))

      pub last_done : {w : ℕ} → w ≡ places q r → Done at out to (encode_name x) (x ++ brackets c) o₁ w
      last_done e = finish whole-prints (omega (arith, e, h, last-named.long, whole-prints.ends))
