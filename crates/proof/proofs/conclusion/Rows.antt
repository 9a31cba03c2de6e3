-- Formulas in a row, counted apart from the rules, are nodes in a row: by induction on how many there are.
-- Assumes nothing.
use Prim.Native.Nat.{ℕ, zero, suc}
use mathlib.Core.Path.{◌≡◌, refl, sym, ap, ◌∙◌}
use mathlib.Core.List.{◌∷◌}
use lib.ListN.{drop}
use Rattle.std.specs.Prelude.{Ok, Err}
use Rattle.rules.specs.Basic.{Bytes}
use Rattle.rules.specs.Layout.{Tuple}
use Rattle.rules.specs.Formula.{formulas}
use Rattle.rules.specs.Reading.{Got, got, bad, Reader, and_then, pure, times, many, node, formula_got, counting_formulas}
use Rattle.reader.specs.View.{view, Read}
use Rattle.reader.proofs.class.Views.{view_made}
use Rattle.proof.specs.Seen.{Reached, Most, Reading, seen, found, within}
use Rattle.proof.specs.Stages.{row_of}
use Rattle.proof.proofs.conclusion.Views.{seen-made}

-- what a row of nodes says, where k rules were met
abbrev pub after_rules : ℕ → Read → Reading
after_rules k (Ok q) = Ok (record { next = q.next; rules = k; formulas = q.met })
after_rules k (Err f) = Err f

abbrev pair : {A : Type 0} (n : ℕ) → A → Tuple A n → Tuple A (suc n)
pair n x xs = (x, xs)

module _ {A : Type 0} (m : Reader ℕ A) (k : ℕ) where
  pub rows : (n u at : ℕ) (r : Bytes) → seen (many (counting_formulas m) n (record { rules = k; formulas = u }) at r) ≡ after_rules k (view (times m n u at r))
  unfolding many times
  rows zero u at r = refl
  rows (suc n) u at r = go (m u at r) (rows n)
    where
      go : (g : Got ℕ A) → ((u at : ℕ) (r : Bytes) → seen (many (counting_formulas m) n (record { rules = k; formulas = u }) at r) ≡ after_rules k (view (times m n u at r)))
          → seen (and_then (formula_got k g) (λ x u p r. and_then (many (counting_formulas m) n u p r) (λ xs. pure (x ∷ xs))))
          ≡ after_rules k (view (and_then g (λ x u p r. and_then (times m n u p r) (λ xs. pure (pair n x xs)))))
      go (got x v p q) h = seen-made (many (counting_formulas m) n (record { rules = k; formulas = v }) p q) (λ xs. x ∷ xs) ∙ h v p q ∙ ap (after_rules k) (sym (view_made (times m n v p q) (pair n x)))
      go (bad i p) h = refl

pub row_seen : (s : Bytes) (most : Most) (from : Reached) (n : ℕ)
    → seen (found (row_of (within most) n) s from) ≡ after_rules from.rules (view (times (node formulas most.formulas most.formulas) n from.formulas from.next (drop from.next s)))
unfolding row_of
row_seen s most from n = rows (node formulas most.formulas most.formulas) from.rules n from.formulas from.next (drop from.next s)
