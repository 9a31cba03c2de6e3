-- A leaf, and discard: what each call is asked, and that what they print is the term's text.
-- Assumes nothing.
use Prim.Native.Nat.{ℕ, ◌+◌, ◌<◌, ◌≤◌}
use mathlib.Core.Path.{◌≡◌, refl, sym, ap, ◌∙◌}
use mathlib.Core.List.{List, [], ◌∷◌, ◌++◌, append_assoc, append-nil}
use native.Mathlib.Omega.{arith}
use lib.ListN.{length, get_or}
use Rattle.rules.specs.Basic.{say}
use Rattle.rules.specs.Term.{Term, var, leaf, one, two, abs, both, branch, Leaf, discard, leaf_tag, encode}
use Rattle.rules.specs.Text.{leaf_text, text}
use Rattle.term.specs.Place.{TermsAt}
use Rattle.words.specs.Prints.{Prints}
use Rattle.words.specs.Task.{Task, places}
use Rattle.words.specs.Steps.{ends-in, first_byte, passed, printed, pass-then, print-then, print-last}
use Rattle.term_text.specs.Task.{TermTask, TermDone}
use Rattle.term_text.specs.Words.{sign_of}
use Rattle.term_text.proofs.phrase.Shapes.{leaf-word, leaf-low}

-- a word that was chosen by the tag
pub chosen : (b k : ℕ) {w out : List ℕ} {to : ℕ} {o : List ℕ} {p : ℕ} → b ≡ k → sign_of k ≡ w → Prints out to (sign_of b) o p → Prints out to w o p
chosen b k h e a = rw (ap (λ (n : ℕ). sign_of n) h ∙ e) at a

module _ {s : List ℕ} {at : ℕ} {out : List ℕ} {to : ℕ} where
  pub begun : (t : Term) → TermTask s at out to t → at < length s
  unfolding encode
  begun (var x) t = omega (arith, ends-in t.task)
  begun (leaf k) t = omega (arith, ends-in t.task)
  begun (one k e) t = omega (arith, ends-in t.task)
  begun (two k a b) t = omega (arith, ends-in t.task)
  begun (abs x e) t = omega (arith, ends-in t.task)
  begun (both k x y e b) t = omega (arith, ends-in t.task)
  begun (branch x y e l r) t = omega (arith, ends-in t.task)

  -- ---- a leaf
  module _ (k : Leaf) (t : TermTask s at out to (leaf k)) where
    pub leaf-asked : (get_or s at 0 < 16) × (to + 9 ≤ length out)
    unfolding encode
    leaf-asked = (omega (arith, first_byte t.task, leaf-low k), omega (arith, t.task.room))

    module _ {o : List ℕ} {p : ℕ} (a : Prints out to (sign_of (get_or s at 0)) o p) where
      leaf-prints : Prints out to (say (leaf_text k)) o p
      unfolding encode
      leaf-prints = chosen (get_or s at 0) (leaf_tag k) (first_byte t.task) (leaf-word k) a

      pub leaf-places : (at + 1 < 65536) × (p < 65536)
      unfolding text
      leaf-places = (omega (arith, begun (leaf k) t, t.task.short), omega (arith, leaf-prints.ends, t.task.low))

      pub leaf-done : {r : ℕ} → r ≡ places (at + 1) p → TermDone at out to (leaf k) o r
      unfolding encode text
      leaf-done h = pass-then (leaf_tag k ∷ []) [] (print-last leaf-prints h)

  -- ---- discard: the first part is passed over
  module _ (f g : Term) (t : TermTask s at out to (two discard f g)) where
    after_tag : Task s (at + 1) out to (encode f ++ encode g) (say "discard in " ++ text g)
    unfolding encode text
    after_tag = passed (16 ∷ []) t.task

    pub discard-terms : TermsAt s (at + 1) 1 (f ∷ [])
    discard-terms =
        let u = after_tag in
        record {
          many = refl;
          rest = encode g ++ u.rest;
          bytes =
              u.bytes ∙ append_assoc (encode f) (encode g) u.rest
              ∙ ap (λ (l : List ℕ). l ++ (encode g ++ u.rest)) (sym (append-nil (encode f)));
        }

    module _ {o : List ℕ} {p q : ℕ} (a : Prints out to (say "discard in ") o p) (h : q ≡ at + 1 + length (encode f ++ [])) where
      place : q ≡ at + 1 + length (encode f)
      place = h ∙ ap (λ (l : List ℕ). at + 1 + length l) (append-nil (encode f))

      pub discard-further : at < q
      discard-further = omega (arith, place)

      pub discard-part : TermTask s q o p g
      discard-part = record { legal = t.legal.1; task = rw place (printed (say "discard in ") (passed (encode f) after_tag) a) }

      pub discard-done : {o' : List ℕ} {r : ℕ} → TermDone q o p g o' r → TermDone at out to (two discard f g) o' r
      unfolding encode text
      discard-done d = pass-then (16 ∷ []) (encode f ++ encode g) (pass-then (encode f) (encode g) (print-then a (rw place at d)))
