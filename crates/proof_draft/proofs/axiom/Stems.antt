-- The names that rows of a draft tell: an atom's own, and that of a cut entry whose formula is an atom. By the bytes at the atom's place.
-- Assumes nothing.
use Prim.Native.Nat.{ℕ, suc, ◌+◌}
use mathlib.Core.Path.{◌≡◌, sym, ap, ◌∙◌}
use mathlib.Core.List.{[], ◌∷◌, ◌++◌, append-nil}
use native.Mathlib.Omega.{arith}
use native.Mathlib.Numerals.{add-one}
use lib.ListN.{length, get_or, drop, take}
use lib.Seq.{take_at}
use Rattle.rules.specs.Basic.{Bytes, decimal, ◌‥◌}
use Rattle.rules.specs.Name.{Name, lower}
use Rattle.rules.specs.Formula.{atom, Sign}
use Rattle.rules.specs.Extraction.{fresh, stem_for}
use Rattle.draft.specs.Draft.{stem_at, numbered, name_of}
use Rattle.term.specs.Place.{NameAt}
use Rattle.term.proofs.node.Names.{drop_app, head_byte}
use Rattle.proof.specs.Place.{FormulaAt}
use Rattle.proof.proofs.rule.Formulas.{atom-name}

name-bytes : (s : Bytes) (p : ℕ) (a : Name) → NameAt s p a → take (get_or s p 0) (drop (suc p) s) ≡ a
name-bytes s p a w =
    let e : drop (suc p) s ≡ a ++ w.rest = drop_app (length a ∷ []) (a ++ w.rest) s p (suc p) w.bytes (omega arith) in
    ap (λ (z : Bytes). take (get_or s p 0) z) e ∙ take_at a w.rest (get_or s p 0) (sym (head_byte s _ p (length a) w.bytes))

-- the stem at an atom
pub stem-here : (s : Bytes) (i : ℕ) (k : Sign) (a : Name) → FormulaAt s i (atom k a) → stem_at s (i + 1) ≡ lower a
stem-here s i k a w =
    let v : NameAt s (suc i) a = rw (add-one i) at (atom-name s i k a w) in
    ap (λ (p : ℕ). stem_at s p) (add-one i) ∙ ap (λ (z : Name). lower z) (name-bytes s (suc i) a v)

-- an atom's own name
pub own_name : (s : Bytes) (i : ℕ) (k : Sign) (a : Name) → FormulaAt s i (atom k a) → name_of s (i + 1) 0 ≡ lower a
own_name s i k a w = append-nil (stem_at s (i + 1)) ∙ stem-here s i k a w

-- the name that is made for a Cut on an atom
pub cut-name : (s : Bytes) (i : ℕ) (k : Sign) (a : Name) (n : ℕ) → FormulaAt s i (atom k a) → name_of s (i + 1) (n + 1) ≡ (fresh (stem_for (atom k a)) n).0
cut-name s i k a n w = ap (λ (m : ℕ). stem_at s (i + 1) ‥ numbered m) (add-one n) ∙ ap (λ (z : Name). z ‥ decimal n) (stem-here s i k a w)
