-- The words of a term's tags, tag by tag.
-- Assumes nothing.
use Prim.Native.Nat.{◌<◌}
use mathlib.Core.Path.{◌≡◌, refl}
use mathlib.Core.List.{◌++◌}
use native.Mathlib.Omega.{arith}
use Rattle.rules.specs.Basic.{say}
use Rattle.rules.specs.Term.{Term, two, Leaf, unit, trivial, One, inl, inr, fst, snd, abort, promote, derelict, Two, pair, app, discard, leaf_tag, one_tag, two_tag}
use Rattle.rules.specs.Text.{leaf_text, one_text, text}
use Rattle.term.specs.Shape.{Bracketed}
use Rattle.term_text.specs.Words.{sign_of}

pub leaf-word : (k : Leaf) → sign_of (leaf_tag k) ≡ say (leaf_text k)
leaf-word unit = refl
leaf-word trivial = refl

pub leaf-low : (k : Leaf) → leaf_tag k < 16
leaf-low unit = omega arith
leaf-low trivial = omega arith

pub one_word : (k : One) → sign_of (one_tag k) ≡ say (one_text k)
one_word inl = refl
one_word inr = refl
one_word fst = refl
one_word snd = refl
one_word abort = refl
one_word promote = refl
one_word derelict = refl

pub one-low : (k : One) → one_tag k < 16
one-low inl = omega arith
one-low inr = omega arith
one-low fst = omega arith
one-low snd = omega arith
one-low abort = omega arith
one-low promote = omega arith
one-low derelict = omega arith

pub two-low : (k : Two) → Bracketed k → two_tag k < 16
two-low pair h = omega arith
two-low app h = omega arith
two-low discard h = absurd h

pub two-text : (k : Two) → Bracketed k → (a b : Term) → text (two k a b) ≡ say "(" ++ (text a ++ (sign_of (two_tag k) ++ (text b ++ say ")")))
unfolding text
two-text pair h a b = refl
two-text app h a b = refl
two-text discard h a b = absurd h
