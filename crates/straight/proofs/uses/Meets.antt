-- What a node has by itself, by its tag: the name of a variable is used, the names of any other node stand at its binders. Assumes nothing.
use Prim.Native.Nat.{ℕ, ◌+◌}
use mathlib.Core.Path.{◌≡◌, refl, sym, ap, ◌∙◌}
use mathlib.Core.List.{List, [], map}
use native.Mathlib.Omega.{arith}
use lib.ListN.{length, get_or}
use Rattle.rules.specs.Name.{Name}
use Rattle.rules.specs.Term.{Term, var, leaf, one, two, abs, both, branch, parts}
use Rattle.rules.specs.Straight.{count}
use Rattle.term.specs.Node.{names, names_after, parts_after}
use Rattle.term.specs.Place.{TermAt}
use Rattle.term.proofs.node.Terms.{at_tag, at_names, at-count-names, at-count-parts}
use Rattle.straight.specs.Node.{own_variables, own_binders}
use Rattle.straight.specs.Counts.{PastNames, AtNode}
use Rattle.straight.proofs.uses.NameRows.{SameNamesIs}

abbrev own_names : Term → List Name
own_names t = map (λ b. b.name) (own_binders t)

-- a node with a name and no part is a variable
of-variable : (t : Term) → length (names t) ≡ 1 → length (parts t) ≡ 0 → (names t ≡ own_variables t) × (own_names t ≡ [])
of-variable (var x) n p = (refl, refl)
of-variable (leaf k) n p = absurd (omega (arith, n))
of-variable (one k e) n p = absurd (omega (arith, p))
of-variable (two k a b) n p = absurd (omega (arith, p))
of-variable (abs x e) n p = absurd (omega (arith, p))
of-variable (both k x y e b) n p = absurd (omega (arith, p))
of-variable (branch x y e l r) n p = absurd (omega (arith, p))

module _ {s : List ℕ} {i q p : ℕ} {x : Name} (eq : q ≡ names_after (get_or s i 0)) (ep : p ≡ parts_after (get_or s i 0)) (next same : ℕ) (f : SameNamesIs s (i + 1) q x next same) where
  past : (t : Term) → TermAt s i t → PastNames x (i + 1) (names t) (record { next = next; same = same })
  past t w = f (names t) (rw (eq ∙ at-count-names s i t w) (at_names s i t w))

  pub met-variable : get_or s i 0 ≡ 1 → (t : Term) → TermAt s i t → AtNode x i t (record { start = next; parts = p; uses = same; stands = 0 })
  unfolding count
  met-variable z t w =
      let d = past t w in
      let o = of-variable t (sym (at-count-names s i t w) ∙ ap (λ (k : ℕ). names_after k) z) (sym (at-count-parts s i t w) ∙ ap (λ (k : ℕ). parts_after k) z) in
      record {
        start = omega (arith, d.next);
        parts = ep ∙ at-count-parts s i t w;
        uses = d.same ∙ ap (λ (l : List Name). count x l) o.0;
        stands = sym (ap (λ (l : List Name). count x l) o.1);
      }

  -- a node that is no variable
  of_other : (t : Term) → TermAt s i t → (get_or s i 0 ≡ 1 → ⊥) → (own_variables t ≡ []) × (names t ≡ own_names t)
  of_other (var y) w z = absurd (z (at_tag s i (var y) w))
  of_other (leaf k) w z = (refl, refl)
  of_other (one k e) w z = (refl, refl)
  of_other (two k a b) w z = (refl, refl)
  of_other (abs y e) w z = (refl, refl)
  of_other (both k y v e b) w z = (refl, refl)
  of_other (branch y v e l r) w z = (refl, refl)

  pub met-other : (get_or s i 0 ≡ 1 → ⊥) → (t : Term) → TermAt s i t → AtNode x i t (record { start = next; parts = p; uses = 0; stands = same })
  unfolding count
  met-other z t w =
      let d = past t w in
      let o = of_other t w z in
      record {
        start = omega (arith, d.next);
        parts = ep ∙ at-count-parts s i t w;
        uses = sym (ap (λ (l : List Name). count x l) o.0);
        stands = d.same ∙ ap (λ (l : List Name). count x l) o.1;
      }
