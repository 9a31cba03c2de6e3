-- Letters as they are compared with a word, one by one. Assumes nothing.
use Prim.Native.Nat.{ℕ, suc, ◌+◌, ◌<◌, ◌≤◌}
use mathlib.Core.Path.{◌≡◌, refl, ◌∙◌}
use mathlib.Core.Bool.{Bool, true, false, not, ◌&&◌}
use mathlib.Core.List.{[], ◌∷◌}
use native.Mathlib.Omega.{arith}
use lib.ListN.{length, get_or, take, drop, length-map, length-take, length-drop, drop_of_length-le}
use borrow.Author.Tests.{eq-eqb, ne_eqb}
use Rattle.std.specs.Prelude.{◌==◌}
use Rattle.rules.specs.Basic.{Bytes}
use Rattle.rules.specs.Name.{Name, same, is_a_word, lower_of}
use Rattle.reader.specs.Form.{Form, Term, Formula}
use Rattle.reader.specs.Words.{spelling_of, byte_compared, compared}
use Rattle.reader.proofs.class.Views.{rest_in}

pub allowed-is : (f : Form) (x : Name) → (spelling_of f).allowed x ≡ not (is_a_word (compared f x))
allowed-is Term x = refl
allowed-is Formula x = refl

pub compared-none : (f : Form) → compared f [] ≡ []
compared-none Term = refl
compared-none Formula = refl

pub compared-next : (f : Form) (b : ℕ) (x : Name) → compared f (b ∷ x) ≡ byte_compared f b ∷ compared f x
compared-next Term b x = refl
compared-next Formula b x = refl

pub compared-length : (f : Form) (x : Name) → length (compared f x) ≡ length x
compared-length Term x = refl
compared-length Formula x = length-map x lower_of

pub compared-long : (f : Form) (s : Bytes) (at n : ℕ) → at + n ≤ length s → length (compared f (take n (drop at s))) ≡ n
compared-long f s at n h = compared-length f (take n (drop at s)) ∙ omega (arith, length-take n (drop at s), length-drop at s)

-- k letters of s at p beside the bytes of t from q on
module _ (f : Form) (s t : Bytes) where
  abbrev pub alike : (k p q : ℕ) → Bool
  alike k p q = same (compared f (take k (drop p s))) (drop q t)

  pub alike_same : (k p q k' p' q' : ℕ) → k ≡ k' → p ≡ p' → q ≡ q' → alike k p q ≡ alike k' p' q'
  alike_same k p q k' p' q' e d f = rw (e, d, f)

  pub alike-none : (k p q : ℕ) → k ≡ 0 → length t ≤ q → alike k p q ≡ true
  alike-none k p q e h = rw (e, compared-none f, drop_of_length-le t {i = q} h)

  -- the first of them, which the code has as b
  module _ (k j p q : ℕ) (e : k ≡ suc j) (h : p < length s) (i : q < length t) (b : ℕ) (is : b ≡ byte_compared f (get_or s p 0)) where
    next : alike k p q ≡ ((b == get_or t q 0) && alike j (p + 1) (q + 1))
    next = rw (e, rest_in s p h, rest_in t q i, compared-next f (get_or s p 0) (take j (drop (p + 1) s)), is)

    pub alike-off : (b ≡ get_or t q 0 → ⊥) → alike k p q ≡ false
    alike-off d = next ∙ rw (ne_eqb b (get_or t q 0) d)

    pub alike-on : b ≡ get_or t q 0 → alike k p q ≡ alike j (p + 1) (q + 1)
    alike-on d = next ∙ rw (eq-eqb b (get_or t q 0) d)
