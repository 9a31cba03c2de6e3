-- A term that is printed whole: which call prints it, from the tag, what that is asked, and that it prints the term.
-- Assumes nothing.
use Prim.Native.Nat.{ℕ}
use mathlib.Core.Path.{◌≡◌, ap}
use mathlib.Core.List.{List, [], ◌∷◌}
use lib.ListN.{get_or}
use types.Run.{OneOf}
use Rattle.rules.specs.Name.{Name}
use Rattle.rules.specs.Term.{Term, leaf, two, both, branch, Leaf, discard, let_a_pair, copy}
use Rattle.term.specs.Shape.{shape_of, a-leaf, a-discard, a-let, a_case}
use Rattle.term_text.specs.Task.{TermTask, TermDone, Whole}
use Rattle.term_text.proofs.walk.Inverts.{leaf-key, made_of, Last, made-copy}

module _ {s : List ℕ} {i : ℕ} {out : List ℕ} {o : ℕ} (t : Term) (w : TermTask s i out o t) where
  pub leaf-here : OneOf (2 ∷ 10 ∷ []) (get_or s i 0) → (k : Leaf) × TermTask s i out o (leaf k)
  leaf-here h = let v = made_of a-leaf t w (leaf-key h) in (v.0, rw v.1 at w)

  pub leaf-called : {o₁ : List ℕ} {r : ℕ} → OneOf (2 ∷ 10 ∷ []) (get_or s i 0) → ((k : Leaf) → TermTask s i out o (leaf k) → TermDone i out o (leaf k) o₁ r) → TermDone i out o t o₁ r
  leaf-called h f = let v = made_of a-leaf t w (leaf-key h) in rw v.1 (f v.0 (rw v.1 at w))

  pub let-here : get_or s i 0 ≡ 4 → (x : Name) × (y : Name) × (e : Term) × (b : Term) × TermTask s i out o (both let_a_pair x y e b)
  let-here h = let v = made_of a-let t w (ap (λ (k : ℕ). shape_of k) h) in (v.0, v.1, v.2, v.3, rw v.4 at w)

  pub let-called : {o₁ : List ℕ} {r : ℕ} → get_or s i 0 ≡ 4 → ((x : Name) → (y : Name) → (e : Term) → (b : Term) → TermTask s i out o (both let_a_pair x y e b) → TermDone i out o (both let_a_pair x y e b) o₁ r) → TermDone i out o t o₁ r
  let-called h f = let v = made_of a-let t w (ap (λ (k : ℕ). shape_of k) h) in rw v.4 (f v.0 v.1 v.2 v.3 (rw v.4 at w))

  pub case-here : get_or s i 0 ≡ 9 → (x : Name) × (y : Name) × (e : Term) × (l : Term) × (m : Term) × TermTask s i out o (branch x y e l m)
  case-here h = let v = made_of a_case t w (ap (λ (k : ℕ). shape_of k) h) in (v.0, v.1, v.2, v.3, v.4, rw v.5 at w)

  pub case-called : {o₁ : List ℕ} {r : ℕ} → get_or s i 0 ≡ 9 → ((x : Name) → (y : Name) → (e : Term) → (l : Term) → (m : Term) → TermTask s i out o (branch x y e l m) → TermDone i out o (branch x y e l m) o₁ r) → TermDone i out o t o₁ r
  case-called h f = let v = made_of a_case t w (ap (λ (k : ℕ). shape_of k) h) in rw v.5 (f v.0 v.1 v.2 v.3 v.4 (rw v.5 at w))

  pub discard-here : get_or s i 0 ≡ 16 → (a : Term) × (b : Term) × TermTask s i out o (two discard a b)
  discard-here h = let v = made_of a-discard t w (ap (λ (k : ℕ). shape_of k) h) in (v.0, v.1, rw v.2 at w)

  pub discard-called : {o₁ : List ℕ} {r : ℕ} → get_or s i 0 ≡ 16 → ((a : Term) → (b : Term) → TermTask s i out o (two discard a b) → TermDone i out o (two discard a b) o₁ r) → TermDone i out o t o₁ r
  discard-called h f = let v = made_of a-discard t w (ap (λ (k : ℕ). shape_of k) h) in rw v.2 (f v.0 v.1 (rw v.2 at w))

  module _ (z : Whole t) (h : Last (get_or s i 0)) where
    pub copy-here : (x : Name) × (y : Name) × (e : Term) × (b : Term) × TermTask s i out o (both copy x y e b)
    copy-here = let v = made-copy t w z h in (v.0, v.1, v.2, v.3, rw v.4 at w)

    pub copy-called : {o₁ : List ℕ} {r : ℕ} → ((x : Name) → (y : Name) → (e : Term) → (b : Term) → TermTask s i out o (both copy x y e b) → TermDone i out o (both copy x y e b) o₁ r) → TermDone i out o t o₁ r
    copy-called f = let v = made-copy t w z h in rw v.4 (f v.0 v.1 v.2 v.3 (rw v.4 at w))
