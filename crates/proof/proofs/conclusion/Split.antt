-- A rule is what stands before its premises, and then the premises: by regrouping the stages of its reading. Assumes nothing.
use Prim.Native.Nat.{ℕ, zero, suc, ◌+◌, ◌≤◌}
use native.Mathlib.Omega.{arith}
use mathlib.Core.Path.{◌≡◌, refl, sym, ap, ◌∙◌}
use mathlib.Core.List.{[], ◌∷◌}
use lib.ListN.{length, drop}
use borrow.Author.Tests.{le-ltb}
use Rattle.std.specs.Prelude.{Err}
use Rattle.rules.specs.declared.Fault.{Fault}
use Rattle.rules.specs.Basic.{Bytes}
use Rattle.rules.specs.Limits.{Limits}
use Rattle.rules.specs.Proof.{Proof, proof, row}
use Rattle.rules.specs.Reading.{Got, got, bad, Reader, Met, and_then, pure, many, byte, tag, too_many, rule_of, proof_at}
use Rattle.laws.specs.reading.Holds.{told}
use Rattle.laws.specs.reading.Steady.{steady-got}
use Rattle.proof.specs.Seen.{Reached, Conclusion, met_by, reached, found, count_seen, before}
use Rattle.proof.specs.Stages.{formula_of, row_of, tag_of, own_of, linear_of, count_of, Top, top_of}
use Rattle.proof.proofs.conclusion.Ways.{steady-top, Ruled, top-ruled}

module _ {A B C : Type 0} where
  regroup : (g : Got Met A) (f : A → Reader Met B) (k : B → Reader Met C) → and_then (and_then g f) k ≡ and_then g (λ x u p r. and_then (f x u p r) k)
  regroup (got x u p r) f k = refl
  regroup (bad n p) f k = refl

module _ {A B : Type 0} where
  then_same : (g : Got Met A) (k l : A → Reader Met B) → ((x : A) (u : Met) (p : ℕ) (r : Bytes) → k x u p r ≡ l x u p r) → and_then g k ≡ and_then g l
  then_same (got x u p r) k l h = h x u p r
  then_same (bad n p) k l h = refl

module _ (L : Limits) where
  -- the premises of what was read before them
  abbrev pub above : ℕ → Top → Reader Met Proof
  above d x u p r = and_then (many (proof_at L d) x.premises u p r) (λ ps. pure (proof x.rule x.linear (row ps)))

  pub in-stages : (d : ℕ) (u : Met) (at : ℕ) (r : Bytes) → and_then (top_of L u at r) (above d) ≡ proof_at L (suc d) u at r
  unfolding proof_at top_of own_of linear_of row_of count_of
  in-stages d u at r =
      regroup (own_of L u at r) _ (above d)
      ∙ regroup (tag_of L u at r) (rule_of (formula_of L)) _
      ∙ then_same (tag_of L u at r) _ _ (λ h u p r. then_same (rule_of (formula_of L) h u p r) _ _ (λ x u p r.
      regroup (linear_of L u p r) _ (above d)
      ∙ regroup (byte u p r) (row_of L) _
      ∙ then_same (byte u p r) _ _ (λ n u p r. then_same (row_of L n u p r) _ _ (λ l u p r.
      regroup (count_of u p r) (λ m. pure (record { rule = x; linear = l; premises = m })) (above d)))))

  -- where no rule may follow
  pub full : (d : ℕ) (u : Met) (at : ℕ) (r : Bytes) → L.rules ≤ u.rules → proof_at L zero u at r ≡ proof_at L (suc d) u at r
  unfolding proof_at tag too_many byte
  full d u at [] h = refl
  full d u at (b ∷ r) h = simp (le-ltb u.rules L.rules h)

  -- A depth that suffices for a rule leaves one that suffices for its premises.
  pub record Split (d : ℕ) (u : Met) (at : ℕ) (r : Bytes) : Type 0 where
    pub depth : ℕ
    pub enough : L.rules ≤ u.rules + 1 + depth
    pub is : proof_at L d u at r ≡ and_then (top_of L u at r) (above depth)

  pub split : (d : ℕ) (u : Met) (at : ℕ) (r : Bytes) → L.rules ≤ u.rules + d → Split d u at r
  split zero u at r h = record { depth = 0; enough = omega arith; is = full 0 u at r (omega arith) ∙ sym (in-stages 0 u at r) }
  split (suc d) u at r h = record { depth = d; enough = omega arith; is = sym (in-stages d u at r) }

-- What was read before the premises: one rule, further on, and a count.
pub record Topped (L : Limits) (s : Bytes) (from q : Reached) (n : ℕ) : Type 0 where
  pub value : Top
  pub is : found (top_of L) s from ≡ got value (met_by q) q.next (drop q.next s)
  pub count : value.premises ≡ n
  pub inside : q.next ≤ length s
  pub ruled : Ruled L (met_by from) from.next (met_by q) q.next

count-got : {A : Type 0} (i : A → ℕ) (g : Got Met A) {q : Reached} {n : ℕ} → count_seen i g ≡ before q n → (x : A) × (r : Bytes) × (g ≡ got x (met_by q) q.next r) × (i x ≡ n)
count-got i (got x u p r) {q} {n} e =
    let z : ◌≡◌ {A = Conclusion} (record { reached = reached u p; premises = i x }) (record { reached = q; premises = n }) = cc in
    (x, r, ap (λ (c : Conclusion). got x (met_by c.reached) c.reached.next r) z, ap (λ (c : Conclusion). c.premises) z)
count-got i (bad n' p) e = absurd (let z : ◌≡◌ {A = ℕ} 0 1 = cc in omega arith)

pub count-bad : {A : Type 0} (i : A → ℕ) (g : Got Met A) {f : Fault} → count_seen i g ≡ Err f → g ≡ bad f.reason f.place
count-bad i (got x u p r) e = absurd (let z : ◌≡◌ {A = ℕ} 0 1 = cc in omega arith)
count-bad i (bad n' p') {f} e =
    let z : ◌≡◌ {A = Fault} (record { reason = n'; place = p' }) f = cc in
    ap (λ (g : Fault). bad g.reason g.place) z

module _ (L : Limits) (s : Bytes) (from : Reached) where
  pub topped : from.next ≤ length s → {q : Reached} {n : ℕ} → count_seen (λ x. x.premises) (found (top_of L) s from) ≡ before q n → Topped L s from q n
  topped h {q} {n} e =
      let g = found (top_of L) s from in
      let w = count-got (λ x. x.premises) g e in
      let d = steady-got (top_of L) (steady-top L) s (met_by from) from.next h w.2 in
      record {
        value = w.0;
        is = w.2 ∙ ap (λ r. got w.0 (met_by q) q.next r) d.rest;
        count = w.3;
        inside = d.within;
        ruled = told (λ x v p r. Ruled L (met_by from) from.next v p) g (top-ruled L (met_by from) from.next (drop from.next s)) w.2;
      }
