-- The tables of `class` are right: a test at each byte, which antt computes.
-- Assumes nothing.
use Rattle.std.specs.Prelude.{ℕ, zero, suc, ◌+◌, ◌-◌, ◌*◌, ◌/◌, ◌%◌, ◌^◌, ◌<◌, ◌≤◌, ◌≡◌, refl, Bool, true, false, not, ◌&&◌, [], ◌∷◌, length, get_or, set, replicate, if◌then◌else◌, ◌==◌}
use Rattle.std.proofs.Common.{add-zero, zero-add, add-suc, suc-add, le_of_suc-le-suc, not-suc-le-zero, mul_comm, arith, sym, ap, ◌∙◌, true≢false, eqb-true, ltb-true, leb-true}
use Rattle.std.proofs.Math.Nat.{div-div-eq-div-mul}
use Rattle.std.proofs.lemmas.List.{length-map}
use Rattle.std.proofs.lemmas.List.Edits.{sets}
use Rattle.rules.specs.Basic.{Bytes, ◌<?◌, ◌≤?◌}
use Rattle.rules.specs.Name.{Name, name_most, leads, follows, lower_of, lower, words, is_a_word, name_spelling, atom_spelling}
use Rattle.rules.specs.Layout.{Layout, head_by_tag}
use Rattle.rules.specs.Term.{terms}
use Rattle.rules.specs.Formula.{formulas}
use Rattle.laws.specs.Below.{all, below}
use Rattle.laws.specs.free.Same.{both_true}
use Rattle.laws.specs.reading.Words.{every as every_of, word-is}
use Rattle.reader.specs.Form.{layout_of, Term, Formula}
use Rattle.reader.specs.Classes.{Letters, starts_of, Alphabet, Classes, code_at}

-- a letter that leads names of each length
abbrev pub letter : ℕ
letter = 32 + 128 * 2 ^ name_most - 128

-- names of n letters
abbrev of_length : ℕ → ℕ
of_length n = 64 * 2 ^ n

-- digits, letters and `_` put into a table
unfoldable pub letters_in : Bytes → Bytes
letters_in t = sets (sets (sets (sets t 48 (replicate 10 32)) 65 (replicate 26 letter)) 95 (replicate 1 letter)) 97 (replicate 26 letter)

-- the letters that begin a word, counted from an `a` on
unfoldable pub beginnings_in : Bytes → (a : ℕ) → Bytes
beginnings_in t a =
    set (set (set (set (set (set (set (set t a (letter - of_length 2 - of_length 6)) (a + 2) (letter - of_length 4)) (a + 3) (letter - of_length 7 - of_length 8)) (a + 5) (letter - of_length 3)) (a + 8) (letter - of_length 2 - of_length 3)) (a + 11) (letter - of_length 3)) (a + 14) (letter - of_length 2)) (a + 18) (letter - of_length 3)

unfoldable pub table_of_letters : Bytes
table_of_letters = beginnings_in (letters_in (replicate 256 0)) 97

abbrev pub term_tags : Bytes
term_tags = 0 ∷ 3 ∷ 1 ∷ 17 ∷ 21 ∷ 11 ∷ 17 ∷ 9 ∷ 9 ∷ 29 ∷ 1 ∷ 9 ∷ 9 ∷ 9 ∷ 9 ∷ 9 ∷ 17 ∷ 21 ∷ []

abbrev pub formula_tags : Bytes
formula_tags = 0 ∷ 3 ∷ 3 ∷ 17 ∷ 17 ∷ 1 ∷ 1 ∷ 17 ∷ 17 ∷ 1 ∷ 1 ∷ 9 ∷ 9 ∷ 17 ∷ []

-- the test f passes at each entry of a list and its place, counted from i
abbrev every : (ℕ → ℕ → Bool) → ℕ → Bytes → Bool
every f i [] = true
every f i (x ∷ xs) = f i x && every f (suc i) xs

every-from : (f : ℕ → ℕ → Bool) (xs : Bytes) (i : ℕ) → every f i xs ≡ true → (k : ℕ) → k < length xs → f (i + k) (get_or xs k 0) ≡ true
every-from f [] i e k h = absurd (not-suc-le-zero h)
every-from f (x ∷ xs) i e zero h = rw (add-zero i) (both_true (f i x) (every f (suc i) xs) e).0
every-from f (x ∷ xs) i e (suc k) h =
    ap (λ n. f n (get_or xs k 0)) (add-suc i k ∙ sym (suc-add i k)) ∙ every-from f xs (suc i) (both_true (f i x) (every f (suc i) xs) e).1 k (le_of_suc-le-suc h)

at : (f : ℕ → ℕ → Bool) (xs : Bytes) → every f 0 xs ≡ true → (k : ℕ) → k < length xs → f k (get_or xs k 0) ≡ true
at f xs e k h = ap (λ n. f n (get_or xs k 0)) (sym (zero-add k)) ∙ every-from f xs 0 e k h

abbrev agree : Bool → Bool → Bool
agree a b = if a then b else not b

agree-eq : (a b : Bool) → agree a b ≡ true → a ≡ b
agree-eq true b e = sym e
agree-eq false true e = e
agree-eq false false e = refl

-- what is tested of the entry x of a byte b
abbrev lead_test : ℕ → ℕ → Bool
lead_test b x = agree (x / 128 % 2 == 1) (leads b)

abbrev follow_test : ℕ → ℕ → Bool
follow_test b x = agree (x / 32 % 2 == 1) (follows b)

abbrev small_test : ℕ → ℕ → Bool
small_test b x = x <? 4294967296

-- what starts names of a length leads, and the length is not 0
abbrev start_test : ℕ → ℕ → Bool
start_test b x = all (λ n. if x / 2 ^ n / 64 % 2 == 1 then leads b && (1 ≤? n) else true) (suc name_most)

abbrev tag_test : {H A : Type 0} → Layout H A → ℕ → ℕ → Bool
tag_test F b x = x % 32 == code_at F (head_by_tag F.heads b)

-- the entry of each word's first letter says that it starts no name as long
abbrev marked : Bytes → Name → Bool
marked t [] = true
marked t (b ∷ x) = not (starts_of t b (suc (length x)))

-- a byte starts the names that its lower case does
abbrev case_test : Bytes → ℕ → ℕ → Bool
case_test t b x = x / 64 == get_or t (lower_of b) 0 / 64

shifted : (x y n : ℕ) → x / 64 ≡ y / 64 → (x / 2 ^ n / 64 % 2 == 1) ≡ (y / 2 ^ n / 64 % 2 == 1)
shifted x y n e =
    let z : (k : ℕ) → k / 2 ^ n / 64 ≡ k / 64 / 2 ^ n = λ k. div-div-eq-div-mul k (2 ^ n) 64 ∙ ap (λ (m : ℕ). k / m) (mul_comm (2 ^ n) 64) ∙ sym (div-div-eq-div-mul k 64 (2 ^ n)) in
    ap (λ (k : ℕ). k % 2 == 1) (z x ∙ ap (λ (k : ℕ). k / 2 ^ n) e ∙ sym (z y))

not-true : (b : Bool) → not b ≡ true → b ≡ false
not-true true e = absurd (true≢false (sym e))
not-true false e = refl

not-allowed : (b : Bool) → not b ≡ false → b ≡ true
not-allowed true e = refl
not-allowed false e = absurd (true≢false e)

module _ (t : Bytes) (size : length t ≡ 256) (leading : every lead_test 0 t ≡ true) (following : every follow_test 0 t ≡ true) (small : every small_test 0 t ≡ true) (starting : every start_test 0 t ≡ true) (words-marked : every_of (marked t) words ≡ true) where
  tested-letters : Letters t
  tested-letters = record {
    leading = λ b h. agree-eq _ _ (at lead_test t leading b (rw size h));
    following = λ b h. agree-eq _ _ (at follow_test t following b (rw size h));
    small = λ b h. ltb-true _ _ (at small_test t small b (rw size h));
  }

  -- of each byte and each length
  starts-tested : (b n : ℕ) → b < 256 → n ≤ name_most → starts_of t b n ≡ true → (leads b ≡ true) × (1 ≤ n)
  starts-tested b n h k e =
      let w = at start_test t starting b (rw size h) in
      let v : (if starts_of t b n then leads b && (1 ≤? n) else true) ≡ true = below (λ m. if starts_of t b m then leads b && (1 ≤? m) else true) (suc name_most) w n (omega arith) in
      let u = both_true (leads b) (1 ≤? n) (rw e at v) in
      (u.0, leb-true 1 n u.1)

  of-names : Alphabet name_spelling t
  of-names = record {
    letters = tested-letters;
    started = starts-tested;
    wordless = λ b x h e. not-true _ (word-is (marked t) words-marked (b ∷ x) (not-allowed (is_a_word (b ∷ x)) e));
  }

  of-atoms : every (case_test t) 0 t ≡ true → Alphabet atom_spelling t
  of-atoms cased = record {
    letters = tested-letters;
    started = starts-tested;
    wordless = λ b x h e.
        let m : starts_of t (lower_of b) (suc (length (lower x))) ≡ false = not-true _ (word-is (marked t) words-marked (lower (b ∷ x)) (not-allowed (is_a_word (lower (b ∷ x))) e)) in
        let c : get_or t b 0 / 64 ≡ get_or t (lower_of b) 0 / 64 = eqb-true _ _ (at (case_test t) t cased b (rw size h)) in
        ap (λ (k : ℕ). starts_of t b (suc k)) (sym (length-map x lower_of)) ∙ shifted (get_or t b 0) (get_or t (lower_of b) 0) (suc (length (lower x))) c ∙ m;
  }

  tested : {H A : Type 0} (F : Layout H A) → Alphabet F.spelling t → every (tag_test F) 0 t ≡ true → Classes F t
  tested F alphabet tagged = record { alphabet = alphabet; tagged = λ b h. eqb-true _ _ (at (tag_test F) t tagged b (rw size h)) }

pub letter-classes : Alphabet name_spelling table_of_letters
unfolding table_of_letters letters_in beginnings_in leads follows
letter-classes = of-names table_of_letters refl refl refl refl refl refl

pub term-classes : Classes (layout_of Term) (sets table_of_letters 0 term_tags)
unfolding table_of_letters letters_in beginnings_in leads follows
term-classes =
    let t = sets table_of_letters 0 term_tags in
    tested t refl refl refl refl refl refl terms (of-names t refl refl refl refl refl refl) refl

pub formula-classes : Classes (layout_of Formula) (sets (beginnings_in table_of_letters 65) 0 formula_tags)
unfolding table_of_letters letters_in beginnings_in leads follows
formula-classes =
    let t = sets (beginnings_in table_of_letters 65) 0 formula_tags in
    tested t refl refl refl refl refl refl formulas (of-atoms t refl refl refl refl refl refl refl) refl
