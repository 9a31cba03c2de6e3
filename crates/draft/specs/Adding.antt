-- A row added to a draft: the parts that were there keep their terms, and the new part is what its row makes of two of them. Assumes nothing.
use Prim.Native.Nat.{ℕ, zero, suc, ◌+◌, ◌<◌}
use Rattle.std.specs.Prelude.{◌≡◌, refl, Bool, true, false, List, ltb, length}
use Rattle.std.proofs.Math.Path.{ap}
use Rattle.std.proofs.Common.{◌∙◌, arith, ltb-true, ltb-false}
use Rattle.rules.specs.Basic.{Bytes}
use Rattle.rules.specs.Term.{Term}
use Rattle.draft.specs.declared.row.Row.{Row}
use Rattle.draft.specs.Draft.{row_at, Rows, Drafts, drafted, Shape, shape_of, shaped, named, identity, wrapping, joining, discarding, letting, branching, copying}
use Rattle.draft.specs.Made.{Same, made, either, most_number, Added}
use Rattle.draft.specs.Steady.{drafted-same, drafts-still}

module _ (ws ws' : List Row) (n : ℕ) (r : Row) (w : Rows ws n) (q : Same n ws ws') (e : length ws' ≡ length ws) (room : n < length ws)
    (p : row_at ws' n ≡ r) (f : r.first < n + 2) (g : r.second < n + 2) where
  -- each of the n + 1 rows is one that was there, or the new one
  each : (P : ℕ → Row → Type 0) → ((i : ℕ) → i < n → P i (row_at ws i)) → P n r → (i : ℕ) → i < n + 1 → P i (row_at ws' i)
  each P old new i h = case (ltb i n) refl
    where
      case : (t : Bool) → ltb i n ≡ t → P i (row_at ws' i)
      case true c = let l = ltb-true i n c in rw (q i l) (old i l)
      case false c =
          let l : i ≡ n = omega (arith, ltb-false i n c) in
          rw (l, p) new

  rows_more : Rows ws' (n + 1)
  rows_more =
      record {
        room = omega arith;
        firsts = each (λ i x. x.first < i + 2) w.firsts f;
        seconds = each (λ i x. x.second < i + 2) w.seconds g;
      }

  -- a row says what `made` makes, when its parts are given
  pick : (s : Bytes) (part : ℕ → Term) (k : Shape) → shaped s r part k
      ≡ shaped s (record { kind = r.kind; first = 0; second = 1; number = r.number; stem = r.stem }) (either (part r.first) (part r.second)) k
  pick s part named = refl
  pick s part identity = refl
  pick s part discarding = refl
  pick s part letting = refl
  pick s part branching = refl
  pick s part copying = refl
  pick s part (wrapping k) = refl
  pick s part (joining k) = refl

  new_is : (s : Bytes) (a b : Term) → Drafts s ws n r.first a → Drafts s ws n r.second b → (d : ℕ) → suc (suc n) < d
      → drafted d s ws' (suc (suc n)) ≡ made s r.kind a b r.number r.stem
  unfolding drafted
  new_is s a b x y zero h = absurd (omega arith)
  new_is s a b x y (suc d) h =
      let l = drafted-same d d s ws ws' n w q r.first f (omega arith) (omega arith) ∙ x.is d (omega arith) in
      let m = drafted-same d d s ws ws' n w q r.second g (omega arith) (omega arith) ∙ y.is d (omega arith) in
      ap (λ z. shaped s z (drafted d s ws') (shape_of z.kind)) p ∙ pick s (drafted d s ws') (shape_of r.kind)
      ∙ ap (λ t. made s r.kind t (drafted d s ws' r.second) r.number r.stem) l ∙ ap (λ t. made s r.kind a t r.number r.stem) m

  pub added : Added ws n r ws'
  added =
      record {
        long = e;
        rows = rows_more;
        small = λ m k. record { each = each (λ i x. x.number < most_number) m.each k };
        still = λ s i t x. drafts-still q rows_more (omega arith) x;
        new = λ s a b x y.
            let two-more : n + 2 ≡ suc (suc n) = omega arith in
            record { rows = rows_more; among = omega arith; is = λ d k. rw two-more (new_is s a b x y d (omega arith)) };
      }
