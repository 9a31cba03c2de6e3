-- What a look at a node is to tell, by how many names and parts the tag has: each count leaves one or two shapes of terms.
-- Assumes nothing.
use Prim.Native.Nat.{ℕ, suc, ◌+◌}
use mathlib.Core.Path.{◌≡◌, refl, sym, ap, ◌∙◌}
use mathlib.Core.Bool.{Bool, false, ◌||◌}
use mathlib.Core.List.{List, [], ◌∷◌}
use native.Mathlib.Omega.{arith}
use lib.ListN.{length, get_or, length-append}
use Rattle.std.specs.Prelude.{if◌then◌else◌, ◌==◌}
use Rattle.rules.specs.Name.{Name, same, encode_name, encode_names}
use Rattle.rules.specs.Term.{Term, var, leaf, one, two, abs, both, branch, parts}
use Rattle.term.specs.Node.{names, head, is_var, hides, names_after, parts_after}
use Rattle.term.specs.Place.{TermAt, NameAt, NamesAt}
use Rattle.term.specs.Seen.{Seen}
use Rattle.term.proofs.node.Names.{AfterIs, SameIs, first-name, other-names, some-name, name-end}
use Rattle.term.proofs.node.Terms.{at_names, at-count-names, at-count-parts, some-names}

-- a node without names
bare : (x : Name) (t : Term) → length (names t) ≡ 0 → (length (head t) ≡ 1) × (0 ≡ hides x t) × (false ≡ is_var x t)
bare x (var y) h = absurd (omega (arith, h))
bare x (leaf k) h = (refl, refl, refl)
bare x (one k e) h = (refl, refl, refl)
bare x (two k a b) h = (refl, refl, refl)
bare x (abs y e) h = absurd (omega (arith, h))
bare x (both k y z e b) h = absurd (omega (arith, h))
bare x (branch y z e l r) h = absurd (omega (arith, h))

module _ (s : List ℕ) (i q p : ℕ) (x : Name) (eq : q ≡ names_after (get_or s i 0)) (ep : p ≡ parts_after (get_or s i 0)) where
  many-names : (t : Term) → TermAt s i t → length (names t) ≡ q
  many-names t w = sym (eq ∙ at-count-names s i t w)

  many-parts : (t : Term) → TermAt s i t → p ≡ length (parts t)
  many-parts t w = ep ∙ at-count-parts s i t w

  pub seen-bare : q ≡ 0 → (t : Term) → TermAt s i t → Seen x i t (record { start = i + 1; parts = p; hides = 0; is = false })
  seen-bare z t w =
      let b = bare x t (many-names t w ∙ z) in
      record { start = omega (arith, b.0); parts = many-parts t w; hides = b.1; is = b.2 }

  module _ (ne : q ≡ 0 → ⊥) where
    pub one_name : ((t : Term) × TermAt s i t) → (y : Name) × NameAt s (i + 1) y
    one_name a = some-name s (i + 1) q ne (some-names s i a q eq)

    module _ (b : Bool) (j : ℕ) (f : SameIs s (i + 1) x b) (g : AfterIs s (i + 1) 1 j) where
      -- a node of one name
      named : (y : Name) → NamesAt s (i + 1) 1 (y ∷ []) → (j ≡ i + suc (length (encode_names (y ∷ [])))) × (b ≡ same x y)
      named y w =
          let n = first-name s (i + 1) 1 y [] w in
          (omega (arith, g (y ∷ []) w), f y n)

      pub seen-var : p ≡ 0 → (t : Term) → TermAt s i t → Seen x i t (record { start = j; parts = p; hides = 0; is = b })
      seen-var z (var y) w = let n = named y (at_names s i (var y) w) in record { start = n.0; parts = many-parts (var y) w; hides = refl; is = n.1 }
      seen-var z (leaf k) w = absurd (ne (sym (many-names (leaf k) w)))
      seen-var z (one k e) w = absurd (omega (arith, many-parts (one k e) w))
      seen-var z (two k c d) w = absurd (omega (arith, many-parts (two k c d) w))
      seen-var z (abs y e) w = absurd (omega (arith, many-parts (abs y e) w))
      seen-var z (both k y v e d) w = absurd (omega (arith, many-parts (both k y v e d) w))
      seen-var z (branch y v e l r) w = absurd (omega (arith, many-parts (branch y v e l r) w))

      module _ (np : p ≡ 0 → ⊥) where
        pub seen-abs : q ≡ 1 → (m : ℕ) → m ≡ (if b then 1 else 0) → (t : Term) → TermAt s i t → Seen x i t (record { start = j; parts = p; hides = m; is = false })
        seen-abs o m em (abs y e) w =
            let n = named y (at_names s i (abs y e) w) in
            record { start = n.0; parts = many-parts (abs y e) w; hides = em ∙ ap (λ (c : Bool). if c then 1 else 0) n.1; is = refl }
        seen-abs o m em (var y) w = absurd (np (many-parts (var y) w))
        seen-abs o m em (leaf k) w = absurd (np (many-parts (leaf k) w))
        seen-abs o m em (one k e) w = absurd (ne (sym (many-names (one k e) w)))
        seen-abs o m em (two k c d) w = absurd (ne (sym (many-names (two k c d) w)))
        seen-abs o m em (both k y v e d) w = absurd (omega (arith, many-names (both k y v e d) w))
        seen-abs o m em (branch y v e l r) w = absurd (omega (arith, many-names (branch y v e l r) w))

        module _ (no_one : q ≡ 1 → ⊥) where
          -- a node of two names
          second : (y z : Name) → NamesAt s (i + 1) 2 (y ∷ z ∷ []) → NamesAt s j 1 (z ∷ [])
          second y z w = other-names s (i + 1) 2 y (z ∷ []) w j (name-end s (i + 1) j g y (first-name s (i + 1) 2 y (z ∷ []) w))

          pub two-names : ((t : Term) × TermAt s i t) → (y : Name) × NameAt s j y
          two-names (both k y v e d, w) = (v, first-name s j 1 v [] (second y v (at_names s i (both k y v e d) w)))
          two-names (branch y v e l r, w) = (v, first-name s j 1 v [] (second y v (at_names s i (branch y v e l r) w)))
          two-names (abs y e, w) = absurd (no_one (sym (many-names (abs y e) w)))
          two-names (var y, w) = absurd (np (many-parts (var y) w))
          two-names (leaf k, w) = absurd (np (many-parts (leaf k) w))
          two-names (one k e, w) = absurd (ne (sym (many-names (one k e) w)))
          two-names (two k c d, w) = absurd (ne (sym (many-names (two k c d) w)))

          module _ (c : Bool) (h m : ℕ) (fc : SameIs s j x c) (gh : AfterIs s j 1 h)
              (em : m ≡ (if p == 2 then (if b || c then 2 else 0) else ((if b then 2 else 0) + (if c then 4 else 0)))) where
            record Pair (y z : Name) : Type 0 where
              start : h ≡ i + suc (length (encode_names (y ∷ z ∷ [])))
              first : b ≡ same x y
              second : c ≡ same x z

            pair : (y z : Name) → NamesAt s (i + 1) 2 (y ∷ z ∷ []) → Pair y z
            pair y z w =
                let n = first-name s (i + 1) 2 y (z ∷ []) w in
                let v = second y z w in
                record {
                  start = omega (arith, name-end s (i + 1) j g y n, gh (z ∷ []) v, length-append (encode_name y) (encode_names (z ∷ [])));
                  first = f y n;
                  second = fc z (first-name s j 1 z [] v);
                }

            pub seen-two : (t : Term) → TermAt s i t → Seen x i t (record { start = h; parts = p; hides = m; is = false })
            seen-two (both k y v e d) w =
                let n = pair y v (at_names s i (both k y v e d) w) in
                let o = many-parts (both k y v e d) w in
                record { start = n.start; parts = o; hides = em ∙ rw (o, n.first, n.second); is = refl }
            seen-two (branch y v e l r) w =
                let n = pair y v (at_names s i (branch y v e l r) w) in
                let o = many-parts (branch y v e l r) w in
                record { start = n.start; parts = o; hides = em ∙ rw (o, n.first, n.second); is = refl }
            seen-two (abs y e) w = absurd (no_one (sym (many-names (abs y e) w)))
            seen-two (var y) w = absurd (np (many-parts (var y) w))
            seen-two (leaf k) w = absurd (np (many-parts (leaf k) w))
            seen-two (one k e) w = absurd (ne (sym (many-names (one k e) w)))
            seen-two (two k a d) w = absurd (ne (sym (many-names (two k a d) w)))
