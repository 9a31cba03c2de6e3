-- Laws of counting letters: in two parts, at most all, and where it is all of them they are read as letters. Assumes nothing.
use Rattle.rules.specs.declared.Reason.TheVariants.{BadName}
use Prim.Native.Nat.{ℕ, zero, suc, ◌+◌, ◌-◌, ◌<◌, ◌≤◌}
use native.Mathlib.Nat.{add-zero, zero-add, suc-add}
use native.Mathlib.Omega.{arith}
use mathlib.Core.Path.{◌≡◌, refl, sym, ap, ◌∙◌}
use mathlib.Core.Bool.{Bool, true, false, ◌||◌, or_assoc, or_comm}
use lib.ListN.{length, get_or, drop}
use borrow.Author.Tests.{lt-leb, ne_eqb}
use Rattle.std.specs.Prelude.{◌==◌}
use Rattle.std.specs.Char.{is_ascii_alphanumeric}
use Rattle.std.specs.Int.{from_bool}
use Rattle.rules.specs.Basic.{Bytes, between}
use Rattle.rules.specs.Name.{leads, follows}
use Rattle.rules.specs.Reading.{byte_for, many}
use Rattle.reader.specs.View.{view, past}
use Rattle.reader.proofs.class.Views.{letter-on, many-on, many-none}
use Rattle.reader.specs.Letters.{one, letters_from}

pub one-most : (b : Bool) → one b ≤ 1
one-most true = omega arith
one-most false = omega arith

-- a byte below the letters
pub low : (b : ℕ) → b < 48 → follows b ≡ false
unfolding follows leads
low b h = simp (lt-leb 65 b (omega arith), lt-leb 97 b (omega arith), lt-leb 48 b h, ne_eqb b 95 (λ e. omega arith))

by-class : (b : ℕ) → follows b ≡ (is_ascii_alphanumeric b || (b == 95))
unfolding follows leads
by-class b =
    let up = between 65 90 b in
    let small = between 97 122 b in
    let digit = between 48 57 b in
    or_comm (up || (small || (b == 95))) digit ∙ sym (or_assoc digit up (small || (b == 95))) ∙ sym (or_assoc (digit || up) small (b == 95))

from_bit : (b : Bool) → from_bool b ≡ one b
from_bit true = refl
from_bit false = refl

-- whether a byte is an ASCII letter or digit or a line, as a byte
pub of_class : (b : ℕ) (is : Bool) → is ≡ (is_ascii_alphanumeric b || (b == 95)) → from_bool is ≡ one (follows b)
of_class b is h = from_bit is ∙ ap one (h ∙ sym (by-class b))

-- sums of what was counted before and in one part more
pub grown : (i from r count part l : ℕ) → from ≤ i → i < r → count ≤ i - from → part ≡ l → l ≤ r - i → count + part ≤ r - from
grown i from r count part l h k a e b = omega arith

pub summed : (count part l m n all : ℕ) → part ≡ l → n ≡ l + m → count + n ≡ all → count + part + m ≡ all
summed count part l m n all e f g = omega arith

module _ (s : Bytes) where
  pub count_none : (at : ℕ) → letters_from s at 0 ≡ 0
  unfolding letters_from
  count_none at = refl

  pub count_next : (at k m : ℕ) → m ≡ suc k → letters_from s at m ≡ one (follows (get_or s at 0)) + letters_from s (at + 1) k
  unfolding letters_from
  count_next at k m e = rw e

  pub count_most : (k at : ℕ) → letters_from s at k ≤ k
  unfolding letters_from
  count_most zero at = omega arith
  count_most (suc k) at = omega (arith, one-most (follows (get_or s at 0)), count_most k (at + 1))

  pub count-apart : (j k at : ℕ) → letters_from s at (j + k) ≡ letters_from s at j + letters_from s (at + j) k
  unfolding letters_from
  count-apart zero k at = rw (zero-add k, add-zero at, zero-add (letters_from s at k))
  count-apart (suc j) k at =
      let z : at + 1 + j ≡ at + suc j = omega arith in
      rw (suc-add j k)
      (let h = count-apart j k (at + 1) ∙ ap (λ (i : ℕ). letters_from s (at + 1) j + letters_from s i k) z in
      omega (arith, h))

  -- in two parts, by their places
  pub count-split : (at m to : ℕ) → at ≤ m → m ≤ to → letters_from s at (to - at) ≡ letters_from s at (m - at) + letters_from s m (to - m)
  count-split at m to h i =
      let z : to - at ≡ m - at + (to - m) = omega arith in
      let y : at + (m - at) ≡ m = omega arith in
      ap (λ (n : ℕ). letters_from s at n) z ∙ count-apart (m - at) (to - m) at ∙ ap (λ (n : ℕ). letters_from s at (m - at) + letters_from s n (to - m)) y

  pub full-read : (k at u : ℕ) → at + k ≤ length s → letters_from s at k ≡ k → view (many (byte_for follows BadName) k u at (drop at s)) ≡ past (at + k) u
  unfolding letters_from
  full-read zero at u h e = many-none (byte_for follows BadName) 0 u at (drop at s) refl ∙ ap (λ (p : ℕ). past p u) (sym (add-zero at))
  full-read (suc k) at u h e = go (follows (get_or s at 0)) refl e (full-read k (at + 1) u (omega arith))
    where
      go : (b : Bool) → follows (get_or s at 0) ≡ b → one b + letters_from s (at + 1) k ≡ suc k
          → (letters_from s (at + 1) k ≡ k → view (many (byte_for follows BadName) k u (at + 1) (drop (at + 1) s)) ≡ past (at + 1 + k) u)
          → view (many (byte_for follows BadName) (suc k) u at (drop at s)) ≡ past (at + suc k) u
      go false f d later = absurd (omega (arith, count_most k (at + 1)))
      go true f d later =
          let z : at + 1 + k ≡ at + suc k = omega arith in
          many-on (byte_for follows BadName) (suc k) u at (drop at s) k refl _ u (at + 1) _ (letter-on follows s u at (omega arith) f)
          ∙ later (omega arith)
          ∙ ap (λ (p : ℕ). past p u) z
