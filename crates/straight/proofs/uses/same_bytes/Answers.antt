-- `uses::same_bytes` meets its contract: lists of two lengths are not the same. Assumes nothing.
use mathlib.Core.Path.{◌≡◌, refl, sym, ap}
use mathlib.Core.Bool.{false, and-false}
use mathlib.Core.List.{List, [], ◌∷◌}
use Prim.Native.Nat.{ℕ, suc}
use lib.Dec.{eqb}
use lib.ListN.{length}
use Rattle.rules.specs.Name.{same}
use Rattle.straight.proofs.uses.same_bytes.Goals as goal

same_len : (a b : List ℕ) → (length a ≡ length b → ⊥) → same a b ≡ false
same_len [] [] h = absurd (h refl)
same_len [] (y ∷ b) h = refl
same_len (x ∷ a) [] h = refl
same_len (x ∷ a) (y ∷ b) h = rw (same_len a b (λ e. h (ap suc e))) (and-false (eqb x y))

pub returns-then-a-b : goal.returns-then-a-b
returns-then-a-b c = sym (same_len c.args.a.now c.args.b.now c.if-a-b.true)
