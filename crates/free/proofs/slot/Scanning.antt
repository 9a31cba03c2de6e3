-- A search through the binders passed, from the nearest on: those that are left decide. Assumes nothing.
use Prim.Native.Nat.{ℕ, suc, ◌+◌, ◌-◌, ◌<◌, ◌≤◌}
use mathlib.Core.Path.{◌≡◌, sym, ap, ◌∙◌}
use mathlib.Core.Bool.{Bool, true, false, ◌||◌}
use mathlib.Core.List.{List, []}
use native.Mathlib.Omega.{arith}
use lib.ListN.{get_or, drop}
use lib.Seq.{drop-cons}
use Rattle.std.specs.Prelude.{Some}
use Rattle.rules.specs.Basic.{Bytes}
use Rattle.rules.specs.Name.{Name, same, among}
use Rattle.term.specs.Place.{NameAt}
use Rattle.free.specs.Search.{at}
use Rattle.free.specs.Rows.{binders, Passed, Scanned}

-- the binder at the entry i of the row
pub binder-at : (s : Bytes) (row : List ℕ) (low i : ℕ) (xs : List Name) → Passed s row low xs → low ≤ i → i < binders → NameAt s (get_or row i 0) (at xs (i - low))
binder-at s row low i xs h l m =
    let e : low + (i - low) ≡ i = omega arith in
    rw e at (h.each (i - low) (omega (arith, h.many)))

-- those from the entry i on are left
abbrev pub Left : Bytes → ℕ → List ℕ → ℕ → ℕ → Type 0
Left s p row low i = (x : Name) (xs : List Name) → NameAt s p x → Passed s row low xs → among x xs ≡ among x (drop (i - low) xs)

module _ (s : Bytes) (p : ℕ) (row : List ℕ) (low i : ℕ) (l : low ≤ i) (m : i < binders) where
  pub entry : ((x : Name) × (xs : List Name) × NameAt s p x × Passed s row low xs) → (x : Name) × (y : Name) × NameAt s p x × NameAt s (get_or row i 0) y
  entry (x, xs, w, h) = (x, at xs (i - low), w, binder-at s row low i xs h l m)

  module _ (f : Left s p row low i) (b : Bool) (says : (x y : Name) → NameAt s p x → NameAt s (get_or row i 0) y → b ≡ same x y) where
    said : (x : Name) (xs : List Name) → NameAt s p x → Passed s row low xs → among x xs ≡ (b || among x (drop (suc (i - low)) xs))
    said x xs w h =
        f x xs w h ∙ ap (λ (z : List Name). among x z) (drop-cons xs (i - low) [] (omega (arith, h.many)))
        ∙ ap (λ (z : Bool). z || among x (drop (suc (i - low)) xs)) (sym (says x (at xs (i - low)) w (binder-at s row low i xs h l m)))

    pub left-found : b ≡ true → (x : Name) (xs : List Name) → NameAt s p x → Passed s row low xs → Scanned x xs (Some i)
    left-found t x xs w h = (m, said x xs w h ∙ ap (λ (z : Bool). z || among x (drop (suc (i - low)) xs)) t)

    pub left_less : b ≡ false → Left s p row low (i + 1)
    left_less t x xs w h =
        let e : suc (i - low) ≡ i + 1 - low = omega arith in
        said x xs w h ∙ ap (λ (z : Bool). z || among x (drop (suc (i - low)) xs)) t ∙ ap (λ (k : ℕ). among x (drop k xs)) e
