-- A name is found in a part of the redex: the part stands at the start of what is left of the bytes. Assumes nothing.
use Prim.Native.Nat.{ℕ, ◌+◌, ◌-◌, ◌≤◌}
use mathlib.Core.Path.{◌≡◌, refl, ap, ◌∙◌}
use mathlib.Core.List.{List}
use native.Mathlib.Omega.{arith}
use lib.ListN.{length, take, drop, length-drop}
use lib.Seq.{take_all}
use Rattle.rules.specs.Basic.{Bytes}
use Rattle.rules.specs.Limits.{limits}
use Rattle.rules.specs.Name.{Name}
use Rattle.rules.specs.Term.{Term, size}
use Rattle.buffer.specs.Wrote.{Wrote}
use Rattle.term.specs.Place.{TermAt}
use Rattle.term.proofs.node.Terms.{at-end}
use Rattle.substitution.specs.Places.{places}
use Rattle.substitution.specs.declared.place.KeptPlaces.{KeptPlaces}
use Rattle.substitution.proofs.place.Writes.{held}
use Rattle.contraction.specs.Parts.{Kept}

module _ (s : Bytes) (i : ℕ) (short : length s ≤ i + limits.bytes) where
  left_is : take (length s - i) (drop i s) ≡ drop i s
  left_is = take_all (length s - i) (drop i s) (omega (arith, length-drop i s))

  module _ {e : Term} (w : TermAt s i e) where
    pub at-start : TermAt (take (length s - i) (drop i s)) 0 e
    at-start = record { rest = w.rest; bytes = left_is ∙ w.bytes }

    pub left-short : length (take (length s - i) (drop i s)) ≤ limits.bytes
    left-short = let e : length (take (length s - i) (drop i s)) ≡ length s - i = ap (λ (z : Bytes). length z) left_is ∙ length-drop i s in omega arith

    pub found-room : (i ≤ length s) × (i + size e ≤ length s)
    found-room = let a = at-end s i e w in (omega arith, a)

    pub is-kept : {x : Name} {row row₁ : List ℕ} {f : KeptPlaces} → f.count ≤ length row
        → (f.next ≡ size e) × Wrote row 0 (places x e 0) row₁ f.count × (f.gap ≡ 2 + length x)
        → Kept i x e row₁ (record { from = i; end = i + f.next; kept = f })
    is-kept within (n, o, g) =
        record {
          from = refl;
          next = ap (λ (k : ℕ). i + k) n;
          held = held o within;
          gap_is = g;
        }
