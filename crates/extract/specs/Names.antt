-- Generated names are legal: a lower-cased atom is a legal name, no word since the atom was legal; and a stem as long as an atom may be, with the
-- digits of a number below the most of the counter behind it, is no longer than a name may be, and no word since it ends in a digit.
-- By the bytes, and by the number of digits. Assumes nothing.
use Rattle.std.specs.Prelude.{ℕ, zero, suc, ◌+◌, ◌/◌, ◌%◌, ◌^◌, ◌<◌, ◌≤◌, ◌≡◌, refl, Bool, true, false, not, ◌||◌, List, [], ◌∷◌, ◌++◌, map, ltb, leb, eqb, length, if◌then◌else◌}
use Rattle.std.proofs.Common.{sym, ap, ◌∙◌, append_assoc, arith, div-lt_iff_lt-mul, mod-lt, pow-suc, length-append, lt-ltb, le-leb, leb-true, ltb-true}
use Rattle.std.proofs.lemmas.List.{length-map}
use Rattle.std.proofs.lemmas.Bool.{lt-leb}
use Rattle.rules.specs.Basic.{between, digits, decimal, ◌‥◌}
use Rattle.rules.specs.Limits.{most_counter}
use Rattle.rules.specs.Name.{Name, atom_most, leads, follows, lower_of, lower, is_a_word, name_spelling, atom_spelling}
use Rattle.rules.specs.Legal.{All, Lettered, LegalName}
use Rattle.laws.specs.free.Same.{both_true}
use Rattle.laws.specs.reading.Words.{ends-in-digit}

-- ---- a byte of a name, lower-cased

pub lower-leads : (b : ℕ) → leads b ≡ true → leads (lower_of b) ≡ true
unfolding leads
lower-leads b e = go (between 65 90 b) refl e
  where
    go : (t : Bool) → between 65 90 b ≡ t → (t || (between 97 122 b || eqb b 95)) ≡ true
        → (between 65 90 (if t then b + 32 else b) || (between 97 122 (if t then b + 32 else b) || eqb (if t then b + 32 else b) 95)) ≡ true
    go false d e = rw d e
    go true d e =
        let w = both_true (leb 65 b) (leb b 90) d in
        let lo : 65 ≤ b = leb-true 65 b w.0 in
        let hi : b ≤ 90 = leb-true b 90 w.1 in
        rw (le-leb 65 (b + 32) (omega arith), lt-leb (b + 32) 90 (omega arith), le-leb 97 (b + 32) (omega arith), le-leb (b + 32) 122 (omega arith))

or_right : (a b : Bool) → b ≡ true → (a || b) ≡ true
or_right true b e = refl
or_right false b e = e

or_split : (a b : Bool) → (P : Type 0) → (a || b) ≡ true → (a ≡ true → P) → (b ≡ true → P) → P
or_split true b P e f g = f refl
or_split false b P e f g = g e

digit-lower : (b : ℕ) → between 48 57 b ≡ true → lower_of b ≡ b
digit-lower b e =
    let w = both_true (leb 48 b) (leb b 57) e in
    let hi : b ≤ 57 = leb-true b 57 w.1 in
    rw (lt-leb 65 b (omega arith))

pub lower-follows : (b : ℕ) → follows b ≡ true → follows (lower_of b) ≡ true
unfolding follows
lower-follows b e =
    or_split (leads b) (between 48 57 b) _ e (λ l. rw (lower-leads b l)) (λ d. or_right (leads (lower_of b)) _ (rw (digit-lower b d) d))

all-lower : (bs : List ℕ) → All follows bs → All follows (map lower_of bs)
all-lower [] a = tt
all-lower (b ∷ bs) a = (lower-follows b a.0, all-lower bs a.1)

lower-lettered : (x : Name) → Lettered x → Lettered (lower x)
lower-lettered [] l = absurd l
lower-lettered (b ∷ bs) l = (lower-leads b l.0, all-lower bs l.1)

-- A LOWER-CASED ATOM IS A LEGAL NAME
pub lower-legal : (x : Name) → LegalName atom_spelling x → LegalName name_spelling (lower x)
lower-legal x l = record { lettered = lower-lettered x l.lettered; short = omega (arith, length-map x lower_of, l.short); allowed = l.allowed }

-- what a number may stand behind
pub record Stem (x : Name) : Type 0 where
  pub lettered : Lettered x
  pub short : length x ≤ atom_most

pub lower-stem : (x : Name) → LegalName atom_spelling x → Stem (lower x)
lower-stem x l = record { lettered = lower-lettered x l.lettered; short = omega (arith, length-map x lower_of, l.short) }

-- ---- digits

digit-follows : (d : ℕ) → d < 10 → follows (48 + d) ≡ true
unfolding follows
digit-follows d h = or_right (leads (48 + d)) _ (rw (le-leb 48 (48 + d) (omega arith), le-leb (48 + d) 57 (omega arith)))

all_append : (ok : ℕ → Bool) (xs ys : List ℕ) → All ok xs → All ok ys → All ok (xs ++ ys)
all_append ok [] ys a b = b
all_append ok (x ∷ xs) ys a b = (a.0, all_append ok xs ys a.1 b)

pub digits-follow : (most n : ℕ) → All follows (digits most n)
unfolding digits
digits-follow zero n = tt
digits-follow (suc most) n = go (ltb n 10) refl (digits-follow most (n / 10))
  where
    go : (t : Bool) → ltb n 10 ≡ t → All follows (digits most (n / 10))
        → All follows (elim t [ true ↦ (48 + n) ∷ [] | false ↦ digits most (n / 10) ‥ (48 + n % 10) ∷ [] ])
    go true e k = (digit-follows n (ltb-true n 10 e), tt)
    go false e k = all_append follows (digits most (n / 10)) ((48 + n % 10) ∷ []) k (digit-follows (n % 10) (mod-lt n (omega arith)), tt)

-- a number below 10 ^ d has at most d digits
pub digits-few : (d most n : ℕ) → n < 10 ^ suc d → length (digits most n) ≤ suc d
unfolding digits
digits-few d zero n h = omega arith
digits-few zero (suc most) n h = go (ltb n 10) (lt-ltb n 10 h)
  where
    go : (t : Bool) → t ≡ true → length {A = ℕ} (elim t [ true ↦ (48 + n) ∷ [] | false ↦ digits most (n / 10) ‥ (48 + n % 10) ∷ [] ]) ≤ 1
    go true e = omega arith
    go false e = absurd (let z : ◌≡◌ {A = ℕ} 0 1 = cc in omega arith)
digits-few (suc d) (suc most) n h = go (ltb n 10) refl (digits-few d most (n / 10))
  where
    less : n / 10 < 10 ^ suc d
    less = (div-lt_iff_lt-mul {k = 10} (omega arith)).1 (rw pow-suc at h)

    go : (t : Bool) → ltb n 10 ≡ t → (n / 10 < 10 ^ suc d → length (digits most (n / 10)) ≤ suc d)
        → length {A = ℕ} (elim t [ true ↦ (48 + n) ∷ [] | false ↦ digits most (n / 10) ‥ (48 + n % 10) ∷ [] ]) ≤ suc (suc d)
    go true e k = omega arith
    go false e k = omega (arith, length-append (digits most (n / 10)) ((48 + n % 10) ∷ []), k less)

-- the last digit
digits-end : (most n : ℕ) → (before : List ℕ) × (d : ℕ) × (d < 10) × (digits (suc most) n ≡ before ++ (48 + d) ∷ [])
unfolding digits
digits-end most n = go (ltb n 10) refl
  where
    go : (t : Bool) → ltb n 10 ≡ t
        → (before : List ℕ) × (d : ℕ) × (d < 10) × (◌≡◌ {A = List ℕ} (elim t [ true ↦ (48 + n) ∷ [] | false ↦ digits most (n / 10) ‥ (48 + n % 10) ∷ [] ]) (before ++ (48 + d) ∷ []))
    go true e = ([], n, ltb-true n 10 e, refl)
    go false e = (digits most (n / 10), n % 10, mod-lt n (omega arith), refl)

numbered-no-word : (stem : Name) (n : ℕ) → is_a_word (stem ++ decimal n) ≡ false
numbered-no-word stem n =
    let e = digits-end n n in
    ap (λ (ds : List ℕ). is_a_word (stem ++ ds)) e.3 ∙ ap is_a_word (sym (append_assoc stem e.0 ((48 + e.1) ∷ []))) ∙ ends-in-digit (stem ++ e.0) (48 + e.1) (omega (arith, e.2))

-- a name and some bytes that may follow in one
lettered-more : (x : Name) (ds : List ℕ) → Lettered x → All follows ds → Lettered (x ++ ds)
lettered-more [] ds l a = absurd l
lettered-more (b ∷ bs) ds l a = (l.0, all_append follows bs ds l.1 a)

-- A STEM AS LONG AS AN ATOM MAY BE AND A COUNTER BELOW THE MOST MAKE A LEGAL NAME
pub fresh-legal : (stem : Name) (n : ℕ) → Stem stem → n < most_counter → LegalName name_spelling (stem ++ decimal n)
fresh-legal stem n l h =
    let few : length (decimal n) ≤ 8 = digits-few 7 (suc n) n h in
    record {
      lettered = lettered-more stem (decimal n) l.lettered (digits-follow (suc n) n);
      short = omega (arith, l.short, length-append stem (decimal n));
      allowed = ap not (numbered-no-word stem n);
    }
