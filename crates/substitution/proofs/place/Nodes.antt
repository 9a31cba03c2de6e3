-- What one look at a node tells: where it or its parts end, and the places in it by those in its parts. Assumes nothing.
use Prim.Native.Nat.{ℕ, ◌+◌, ◌<◌, ◌≤◌}
use mathlib.Core.Path.{◌≡◌, sym, ap, ◌∙◌}
use mathlib.Core.Bool.{true, false}
use mathlib.Core.List.{List}
use native.Mathlib.Omega.{arith}
use lib.ListN.{length}
use Rattle.rules.specs.Basic.{Bytes}
use Rattle.rules.specs.Name.{Name}
use Rattle.rules.specs.Term.{Term, size, parts}
use Rattle.term.specs.Node.{head, encode_all}
use Rattle.term.specs.Place.{TermAt, TermsAt}
use Rattle.term.specs.Seen.{Seen}
use Rattle.term.specs.declared.node.Node.{Node}
use Rattle.term.proofs.node.Terms.{apart-size, at-end, at-parts}
use Rattle.substitution.specs.Places.{places, places_all}
use Rattle.substitution.proofs.place.Shapes.{var-parts, node-places}

module _ (s : Bytes) (x : Name) (i : ℕ) (node : Node) (t : Term) (w : TermAt s i t) (f : Seen x i t node) where
  pub start-far : (i < node.start) × (node.start ≤ length s)
  start-far = (omega (arith, f.start), omega (arith, f.start, apart-size t, at-end s i t w))

  pub hit-end : node.is ≡ true → node.start ≡ i + size t
  hit-end hit = omega (arith, f.start, apart-size t, ap (λ (z : List Term). length (encode_all z)) (var-parts x t (sym f.is ∙ hit)))

  module _ (miss : node.is ≡ false) where
    pub seen-places : places x t i ≡ places_all x node.hides (parts t) node.start
    seen-places =
        node-places x t i (sym f.is ∙ miss)
        ∙ ap (λ (m : ℕ). places_all x m (parts t) (i + length (head t))) (sym f.hides)
        ∙ ap (λ (j : ℕ). places_all x node.hides (parts t) j) (sym f.start)

    pub seen_parts : TermsAt s node.start node.parts (parts t)
    seen_parts = at-parts s i t w node.start node.parts f.start f.parts
