-- Names that stand in a list of bytes: what the positions after them are, by taking the list apart where a name ends.
-- Assumes nothing.
use Prim.Native.Nat.{ℕ, ◌+◌, ◌-◌, ◌≤◌}
use mathlib.Core.Path.{◌≡◌, refl, sym, ap, ◌∙◌}
use mathlib.Core.Bool.{Bool}
use mathlib.Core.List.{List, [], ◌∷◌, ◌++◌, append-nil, append_assoc}
use native.Mathlib.Nat.{add-zero}
use native.Mathlib.Omega.{arith}
use lib.ListN.{length, get_or, drop, take, length-append, length-drop}
use lib.Seq.{take_at, drop-drop, drop-append_seam, get_or-drop}
use Rattle.rules.specs.Name.{Name, same, encode_name, encode_names}
use Rattle.term.specs.Place.{NameAt, NamesAt}

-- ---- lists

pub drop_app : (a b s : List ℕ) (i j : ℕ) → drop i s ≡ a ++ b → j ≡ i + length a → drop j s ≡ b
drop_app a b s i j e q = rw q (sym (drop-drop (length a) i s) ∙ ap (λ (z : List ℕ). drop (length a) z) e ∙ drop-append_seam a b)

pub head_byte : (s l : List ℕ) (i x : ℕ) → drop i s ≡ x ∷ l → get_or s i 0 ≡ x
head_byte s l i x e = ap (λ (k : ℕ). get_or s k 0) (sym (add-zero i)) ∙ sym (get_or-drop i s 0 0) ∙ ap (λ (z : List ℕ). get_or z 0 0) e

pub long : (s a b : List ℕ) (i : ℕ) → drop i s ≡ a ++ b → length s - i ≡ length a + length b
long s a b i e = sym (length-drop i s) ∙ ap (λ (z : List ℕ). length z) e ∙ length-append a b

-- ---- names in a row

-- what `after_names` and `same_name` ensure
abbrev pub AfterIs : List ℕ → ℕ → ℕ → ℕ → Type 0
AfterIs s i n j = (xs : List Name) → NamesAt s i n xs → j ≡ i + length (encode_names xs)

abbrev pub SameIs : List ℕ → ℕ → Name → Bool → Type 0
SameIs s i x b = (y : Name) → NameAt s i y → b ≡ same x y

module _ (s : List ℕ) (i n : ℕ) where
  pub none_after : n ≡ 0 → AfterIs s i n i
  none_after z [] w = omega arith
  none_after z (x ∷ xs) w = absurd (omega (arith, w.many))

  apart : (x : Name) (xs : List Name) (w : NamesAt s i n (x ∷ xs)) → drop i s ≡ encode_name x ++ (encode_names xs ++ w.rest)
  apart x xs w = w.bytes ∙ append_assoc (encode_name x) (encode_names xs) w.rest

  pub first-name : (x : Name) (xs : List Name) → NamesAt s i n (x ∷ xs) → NameAt s i x
  first-name x xs w = record { rest = encode_names xs ++ w.rest; bytes = apart x xs w }

  pub other-names : (x : Name) (xs : List Name) → NamesAt s i n (x ∷ xs) → (j : ℕ) → j ≡ i + length (encode_name x) → NamesAt s j (n - 1) xs
  other-names x xs w j e =
      record { many = omega (arith, w.many); rest = w.rest; bytes = drop_app (encode_name x) _ s i j (apart x xs w) e }

pub name-length : (s : List ℕ) (i : ℕ) (x : Name) → NameAt s i x → get_or s i 0 ≡ length x
name-length s i x w = head_byte s _ i (length x) w.bytes

pub name-room : (s : List ℕ) (i : ℕ) → ((x : Name) × NameAt s i x) → i + 1 + get_or s i 0 ≤ length s
name-room s i (x, w) = omega (arith, name-length s i x w, long s (encode_name x) w.rest i w.bytes)

-- the name's bytes are this part of the list
pub name-part : (s : List ℕ) (i : ℕ) (x : Name) → NameAt s i x → take (i + 1 + get_or s i 0 - (i + 1)) (drop (i + 1) s) ≡ x
name-part s i x w =
    let e : drop (i + 1) s ≡ x ++ w.rest = drop_app (length x ∷ []) _ s i (i + 1) w.bytes refl in
    ap (λ (z : List ℕ). take (i + 1 + get_or s i 0 - (i + 1)) z) e ∙ take_at x w.rest (i + 1 + get_or s i 0 - (i + 1)) (omega (arith, name-length s i x w))

module _ (s : List ℕ) (i n : ℕ) (ne : n ≡ 0 → ⊥) where
  pub some-name : ((xs : List Name) × NamesAt s i n xs) → (x : Name) × NameAt s i x
  some-name ([], w) = absurd (ne (sym w.many))
  some-name (x ∷ xs, w) = (x, first-name s i n x xs w)

  pub name-byte : ((xs : List Name) × NamesAt s i n xs) → i + 1 + get_or s i 0 ≤ length s
  name-byte w = name-room s i (some-name w)

  next-names : (x : Name) (xs : List Name) → NamesAt s i n (x ∷ xs) → NamesAt s (i + 1 + get_or s i 0) (n - 1) xs
  next-names x xs w = other-names s i n x xs w (i + 1 + get_or s i 0) (omega (arith, name-length s i x (first-name s i n x xs w)))

  pub name-next : ((xs : List Name) × NamesAt s i n xs) → (xs : List Name) × NamesAt s (i + 1 + get_or s i 0) (n - 1) xs
  name-next ([], w) = absurd (ne (sym w.many))
  name-next (x ∷ xs, w) = (xs, next-names x xs w)

  pub name_done : (r : ℕ) → AfterIs s (i + 1 + get_or s i 0) (n - 1) r → AfterIs s i n r
  name_done r f [] w = absurd (ne (sym w.many))
  name_done r f (x ∷ xs) w =
      omega (arith, f xs (next-names x xs w), name-length s i x (first-name s i n x xs w), length-append (encode_name x) (encode_names xs))

-- ---- one name

pub single : (s : List ℕ) (i : ℕ) (x : Name) → NameAt s i x → NamesAt s i 1 (x ∷ [])
single s i x w = record { many = refl; rest = w.rest; bytes = w.bytes ∙ ap (λ (z : List ℕ). length x ∷ (z ++ w.rest)) (sym (append-nil x)) }

pub some-single : (s : List ℕ) (i : ℕ) → ((x : Name) × NameAt s i x) → (xs : List Name) × NamesAt s i 1 xs
some-single s i (x, w) = (x ∷ [], single s i x w)

-- where a name ends, by what `after_names` ensures for one
pub name-end : (s : List ℕ) (i j : ℕ) → AfterIs s i 1 j → (x : Name) → NameAt s i x → j ≡ i + length (encode_name x)
name-end s i j f x w = omega (arith, f (x ∷ []) (single s i x w), ap (λ (z : List ℕ). length z) (append-nil x))
