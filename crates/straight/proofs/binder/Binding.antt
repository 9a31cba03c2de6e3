-- The test of one binder, by what is counted of its name in the whole term and in what it covers. Assumes nothing.
use Prim.Native.Nat.{ℕ}
use mathlib.Core.Path.{◌≡◌, sym, ap, ap₂, ◌∙◌}
use mathlib.Core.Bool.{Bool, true, false, ◌&&◌}
use mathlib.Core.List.{List}
use borrow.Author.Tests.{eq-eqb, ne_eqb}
use Rattle.std.specs.Prelude.{◌==◌}
use Rattle.rules.specs.Name.{Name}
use Rattle.rules.specs.Term.{Term}
use Rattle.rules.specs.Straight.{◌over◌, stands, uses, once}
use Rattle.term.specs.Place.{TermAt, NameAt}
use Rattle.straight.specs.declared.uses.TermUses.{TermUses}
use Rattle.straight.specs.Place.{Binds}
use Rattle.straight.specs.Counts.{InTerm}

-- what `name` and `uses_in` ensure
abbrev pub NameIs : List ℕ → ℕ → Name → Type 0
NameIs s i n = (x : Name) → NameAt s i x → n ≡ x

abbrev pub UsesInIs : List ℕ → ℕ → Name → TermUses → Type 0
UsesInIs s j x r = (t : Term) → TermAt s j t → InTerm x t r

module _ {s : List ℕ} {i j : ℕ} (n : Name) (named : NameIs s i n) where
  module _ (all : TermUses) (f : UsesInIs s 0 n all) {w : Term} {x : Name} {e : Term} (b : Binds s i j w x e) where
    in_whole : InTerm x w all
    in_whole = rw (named x b.named) at (f w b.whole)

    pub elsewhere : (all.stands ≡ 1 → ⊥) → false ≡ once w (x over e)
    unfolding once
    elsewhere h = ap (λ (z : Bool). z && ((uses x w == 1) && (uses x e == uses x w))) (sym (ne_eqb (stands x w) 1 (λ z. h (in_whole.stands ∙ z))))

    module _ (p : all.stands ≡ 1) where
      placed : (stands x w == 1) ≡ true
      placed = eq-eqb (stands x w) 1 (sym in_whole.stands ∙ p)

      pub not-once : (all.uses ≡ 1 → ⊥) → false ≡ once w (x over e)
      unfolding once
      not-once h =
          sym (ap₂ ◌&&◌ placed (ap (λ (z : Bool). z && (uses x e == uses x w)) (ne_eqb (uses x w) 1 (λ z. h (in_whole.uses ∙ z)))))

      pub inside : all.uses ≡ 1 → (there : TermUses) → UsesInIs s j n there → (there.uses == 1) ≡ once w (x over e)
      unfolding once
      inside q there g =
          let u : uses x w ≡ 1 = sym in_whole.uses ∙ q in
          let v : InTerm x e there = rw (named x b.named) at (g e b.covers) in
          ap₂ ◌==◌ v.uses (sym u) ∙ sym (ap₂ ◌&&◌ placed (ap (λ (z : Bool). z && (uses x e == uses x w)) (eq-eqb (uses x w) 1 u)))
