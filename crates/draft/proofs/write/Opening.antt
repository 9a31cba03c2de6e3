-- A part opened: its row, its two parts, and what they have to do with its bytes and its size. Assumes nothing.
use Prim.Native.Nat.{ℕ, suc, ◌+◌, ◌-◌, ◌<◌}
use mathlib.Core.Path.{◌≡◌, sym}
use mathlib.Core.List.{List}
use native.Mathlib.Omega.{arith}
use Rattle.rules.specs.Basic.{Bytes}
use Rattle.rules.specs.Term.{Term}
use Rattle.draft.specs.declared.row.Row.{Row}
use Rattle.draft.specs.Draft.{row_at, shape_of, shaped, drafted, Drafts}
use Rattle.draft.specs.Steady.{drafted-enough}

-- t is what the row r makes of its parts
pub record Opened (s : Bytes) (ws : List Row) (n : ℕ) (r : Row) (t : Term) : Type 0 where
  pub part : ℕ → Term
  pub is : t ≡ shaped s r part (shape_of r.kind)
  pub first : Drafts s ws n r.first (part r.first)
  pub second : Drafts s ws n r.second (part r.second)

module _ {s : Bytes} {ws : List Row} {n : ℕ} {t : Term} where
  -- its parts are the terms of the parts that it names
  from_row : (i : ℕ) → Drafts s ws n (suc (suc i)) t → Opened s ws n (row_at ws i) t
  unfolding drafted
  from_row i x =
      let w = x.rows in
      let h : i < n = omega (arith, x.among) in
      let a = w.firsts i h in
      let b = w.seconds i h in
      record {
        part = drafted (suc (suc i)) s ws;
        is = sym (x.is (suc (suc (suc i))) (omega arith));
        first = record { rows = w; among = omega arith; is = λ d k. drafted-enough d (suc (suc i)) s ws n w (row_at ws i).first (omega arith) k (omega arith) };
        second = record { rows = w; among = omega arith; is = λ d k. drafted-enough d (suc (suc i)) s ws n w (row_at ws i).second (omega arith) k (omega arith) };
      }

  pub opened : (p : ℕ) → (p ≡ 0 → ⊥) → (p ≡ 1 → ⊥) → Drafts s ws n p t → Opened s ws n (row_at ws (p - 2)) t
  opened p a b x = let e : p ≡ suc (suc (p - 2)) = omega (arith, a, b) in from_row (p - 2) (rw e at x)

  pub first-before : (p : ℕ) → (p ≡ 0 → ⊥) → (p ≡ 1 → ⊥) → Drafts s ws n p t → (row_at ws (p - 2)).first < p
  first-before p a b x = omega (arith, x.rows.firsts (p - 2) (omega (arith, x.among, a, b)), a, b)

  pub second-before : (p : ℕ) → (p ≡ 0 → ⊥) → (p ≡ 1 → ⊥) → Drafts s ws n p t → (row_at ws (p - 2)).second < p
  second-before p a b x = omega (arith, x.rows.seconds (p - 2) (omega (arith, x.among, a, b)), a, b)

  pub row_opened : (i : ℕ) → Drafts s ws n (i + 2) t → Opened s ws n (row_at ws i) t
  row_opened i x = let e : i + 2 ≡ suc (suc i) = omega arith in from_row i (rw e at x)
