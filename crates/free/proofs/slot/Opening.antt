-- The names that a row opened at a slot holds. Assumes nothing.
use Prim.Native.Nat.{ℕ, suc, ◌+◌, ◌-◌, ◌<◌, ◌≤◌}
use mathlib.Core.Path.{◌≡◌, refl, sym, ap, ◌∙◌}
use mathlib.Core.Logic.{⊎_elim}
use mathlib.Core.List.{List, [], ◌∷◌, ◌++◌}
use native.Mathlib.Nat.{eq-or-lt_of_le}
use native.Mathlib.Omega.{arith}
use lib.Dec.{ltb}
use borrow.Author.Tests.{ltb-true, ltb-false}
use mathlib.Core.Bool.{Bool, true, false}
use lib.ListN.{length, get_or, take, drop, length-append, length-drop, get_or-append}
use lib.Seq.{get_or-take, get_or-drop, get_or-append-add, length-take-le}
use Rattle.rules.specs.Basic.{Bytes}
use Rattle.rules.specs.Name.{Name}
use Rattle.term.specs.Place.{NameAt}
use Rattle.free.specs.Search.{at}
use Rattle.free.specs.Rows.{Held, Opened}

module _ (x : Name) (xs : List Name) (i : ℕ) (h : i ≤ length xs) where
  abbrev wider : List Name
  wider = take i xs ++ x ∷ drop i xs

  wider-long : length wider ≡ suc (length xs)
  wider-long = simp (length-append, length-drop, length-take-le i xs h) (omega arith)

  at-below : (j : ℕ) → j < i → at wider j ≡ at xs j
  at-below j l = get_or-append (take i xs) (x ∷ drop i xs) [] j (rw (length-take-le i xs h) l) ∙ get_or-take i xs j [] l

  at_slot : at wider i ≡ x
  at_slot = ap (λ k. at wider k) (sym (length-take-le i xs h) ∙ omega arith) ∙ get_or-append-add (take i xs) (x ∷ drop i xs) 0 []

  at_above : (j : ℕ) → i ≤ j → at wider (j + 1) ≡ at xs j
  at_above j l =
      let q : j + 1 ≡ length (take i xs) + suc (j - i) = omega (arith, length-take-le i xs h) in
      let r : i + (j - i) ≡ j = omega arith in
      ap (λ k. at wider k) q ∙ get_or-append-add (take i xs) (x ∷ drop i xs) (suc (j - i)) [] ∙ get_or-drop i xs (j - i) [] ∙ ap (λ k. at xs k) r

  pub held-opened : (s : Bytes) (row row' : List ℕ) (n p : ℕ) → Held s row n xs → NameAt s p x → n < length row → length row' ≡ length row → Opened row row' n i p → Held s row' (n + 1) wider
  held-opened s row row' n p w a l e o =
      record {
        many = wider-long ∙ omega (arith, w.many);
        room = omega arith;
        each = λ j b. go j b (ltb j i) refl;
      }
    where
      -- of the names at the same place in two lists, where the row's entries are the same
      moved : (j k : ℕ) → get_or row' j 0 ≡ get_or row k 0 → at wider j ≡ at xs k → k < n → NameAt s (get_or row' j 0) (at wider j)
      moved j k d q b = rw (d, q) (w.each k b)

      up : (j : ℕ) → i < j → j < n + 1 → NameAt s (get_or row' j 0) (at wider j)
      up j q b =
          let r : j - 1 + 1 ≡ j = omega arith in
          rw r at (moved (j - 1 + 1) (j - 1) (o.above (j - 1) (omega arith) (omega arith)) (at_above (j - 1) (omega arith)) (omega arith))

      go : (j : ℕ) → j < n + 1 → (t : Bool) → ltb j i ≡ t → NameAt s (get_or row' j 0) (at wider j)
      go j b true d = let q = ltb-true j i d in moved j j (o.below j q) (at-below j q) (omega (arith, w.many))
      go j b false d =
          let q : i ≤ j = ltb-false j i d in
          ⊎_elim (λ z. let r : get_or row' j 0 ≡ p = rw (← z) o.here in let t : at wider j ≡ x = rw (← z) at_slot in rw (r, t) a) (λ z. up j z b) (eq-or-lt_of_le q)
