-- A name is no word if its first letter starts names of its length, or if it ends in a digit: by what the table says, and by what the words are. Assumes nothing.
use Prim.Native.Nat.{ℕ, suc, ◌+◌, ◌-◌, ◌<◌, ◌≤◌}
use mathlib.Core.Path.{◌≡◌, refl, sym, ap, ◌∙◌}
use mathlib.Core.Bool.{Bool, true, false, not, true≢false}
use mathlib.Core.List.{[], ◌∷◌, ◌++◌, map-append}
use native.Mathlib.Omega.{arith}
use lib.ListN.{length, get_or, take, drop, length-take, length-drop}
use lib.Seq.{take-suc, get_or-drop}
use borrow.Author.Tests.{lt-leb}
use Rattle.rules.specs.Basic.{Bytes}
use Rattle.rules.specs.Name.{Name, lower_of, is_a_word, Spelling}
use Rattle.laws.specs.reading.Words.{ends-in-digit}
use Rattle.reader.specs.Form.{Form, Term, Formula}
use Rattle.reader.specs.Words.{spelling_of, compared}
use Rattle.reader.specs.Classes.{starts_of, Alphabet}
use Rattle.reader.proofs.class.Views.{rest_in}
use Rattle.reader.proofs.word.Compared.{allowed-is}

module _ (P : Spelling) (t : Bytes) (a : Alphabet P t) (s : Bytes) (at n : ℕ) (byte : get_or s at 0 < 256) (starts : starts_of t (get_or s at 0) n ≡ true) where
  pub started-allowed : 1 ≤ n → at + n ≤ length s → P.allowed (take n (drop at s)) ≡ true
  started-allowed some h = go (P.allowed (get_or s at 0 ∷ rest)) refl
    where
      rest : Name
      rest = take (n - 1) (drop (at + 1) s)

      long : suc (length rest) ≡ n
      long = omega (arith, length-take (n - 1) (drop (at + 1) s), length-drop (at + 1) s)

      letters : take n (drop at s) ≡ get_or s at 0 ∷ rest
      letters =
          let z : n ≡ suc (n - 1) = omega arith in
          ap (λ (k : ℕ). take k (drop at s)) z ∙ ap (take (suc (n - 1))) (rest_in s at (omega arith))

      go : (b : Bool) → P.allowed (get_or s at 0 ∷ rest) ≡ b → P.allowed (take n (drop at s)) ≡ true
      go true e = ap P.allowed letters ∙ e
      go false e = absurd (true≢false (sym starts ∙ ap (starts_of t (get_or s at 0)) (sym long) ∙ a.wordless (get_or s at 0) rest byte e))

compared-end : (f : Form) (x : Name) (d : ℕ) → d < 65 → compared f (x ++ d ∷ []) ≡ compared f x ++ d ∷ []
compared-end Term x d h = refl
compared-end Formula x d h = map-append lower_of x (d ∷ []) ∙ ap (λ (b : ℕ). compared Formula x ++ b ∷ []) (let z : lower_of d ≡ d = rw (lt-leb 65 d h) in z)

-- its last byte is no letter
pub digit-allowed : (f : Form) (s : Bytes) (at end : ℕ) → at < end → end ≤ length s → get_or s (end - 1) 0 < 65 → (spelling_of f).allowed (take (end - at) (drop at s)) ≡ true
digit-allowed f s at end some h d =
    let k = end - at - 1 in
    let z : end - at ≡ suc k = omega arith in
    let i : at + k ≡ end - 1 = omega arith in
    let e : take (end - at) (drop at s) ≡ take k (drop at s) ++ get_or s (end - 1) 0 ∷ [] =
    ap (λ (m : ℕ). take m (drop at s)) z ∙ take-suc (drop at s) k 0 (omega (arith, length-drop at s)) ∙ ap (λ (b : ℕ). take k (drop at s) ++ b ∷ []) (get_or-drop at s k 0 ∙ ap (λ (m : ℕ). get_or s m 0) i) in
    ap (spelling_of f).allowed e ∙ allowed-is f (take k (drop at s) ++ get_or s (end - 1) 0 ∷ [])
    ∙ ap (λ (x : Name). not (is_a_word x)) (compared-end f (take k (drop at s)) (get_or s (end - 1) 0) d) ∙ ap not (ends-in-digit (compared f (take k (drop at s))) (get_or s (end - 1) 0) (omega arith))
