-- Entries that are set to zeros: the first of a row are, or all of them. By induction on how many.
-- Assumes nothing.
use mathlib.Core.Path.{◌≡◌, refl, ap}
use Prim.Native.Nat.{ℕ, zero, suc, ◌≤◌}
use native.Mathlib.Omega.{arith}
use mathlib.Core.List.{List, [], ◌∷◌, ◌++◌}
use lib.ListN.{length, drop, replicate}
use Rattle.rules.specs.Calls.{Entry, no_entry}
use Rattle.proof_draft.specs.declared.entry.CutEntry.{CutEntry}
use Rattle.proof_draft.specs.Entries.{none, zeroed, pairs}

-- the first n are set to one value, and the others are as they were
pub zeroed-fill : {B : Type 0} (z : B) (n : ℕ) (es : List B) → n ≤ length es → zeroed z n es ≡ replicate n z ++ drop n es
zeroed-fill z zero es h = refl
zeroed-fill z (suc n) [] h = absurd (omega (arith, h))
zeroed-fill z (suc n) (e ∷ es) h = ap (λ (l : List _). z ∷ l) (zeroed-fill z n es (omega (arith, h)))

pub zeroed-all : {B : Type 0} (z : B) (es : List B) → zeroed z (length es) es ≡ replicate (length es) z
zeroed-all z [] = refl
zeroed-all z (e ∷ es) = ap (λ (l : List _). z ∷ l) (zeroed-all z es)

pub length_pairs : (es : List CutEntry) → length (pairs es) ≡ length es
length_pairs [] = refl
length_pairs (e ∷ es) = ap suc (length_pairs es)

-- the entries that are set, as pairs
pub pairs-zeroed : (n : ℕ) (es : List CutEntry) → pairs (zeroed none n es) ≡ zeroed no_entry n (pairs es)
pairs-zeroed zero es = refl
pairs-zeroed (suc n) [] = refl
pairs-zeroed (suc n) (e ∷ es) = ap (λ (l : List Entry). no_entry ∷ l) (pairs-zeroed n es)
