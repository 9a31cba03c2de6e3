-- A rule comes to what its premises come to; premises in a row are one and then the others. All stays so small that one number tells it.
-- Assumes nothing.
use Prim.Native.Nat.{ℕ, ◌+◌, ◌-◌, ◌<◌, ◌≤◌}
use native.Mathlib.Omega.{arith}
use mathlib.Core.Path.{◌≡◌, sym, ap, ◌∙◌}
use lib.ListN.{drop}
use Rattle.std.specs.Prelude.{Result, Ok, Err}
use Rattle.rules.specs.declared.Fault.{Fault}
use Rattle.rules.specs.Basic.{Bytes}
use Rattle.rules.specs.Limits.{limits}
use Rattle.rules.specs.Proof.{proof, row}
use Rattle.rules.specs.Reading.{many, proof_at}
use Rattle.laws.specs.reading.Holds.{told as holding}
use Rattle.laws.specs.reading.SteadyProof.{steady-proof}
use Rattle.proof.specs.Seen.{Reached, Reading, Conclusion, met_by, seen, found, count_seen, within, before}
use Rattle.proof.specs.Stages.{top_of, own_of, linear_of, row_of}
use Rattle.proof.proofs.conclusion.Views.{seen-made, seen-bad, Came, came, many-none, many-one, many-off, many-on}
use Rattle.proof.proofs.conclusion.Ways.{Few, top-few, proof-few, proof-onward}
use Rattle.proof.proofs.conclusion.Split.{split, Topped, topped, count-bad}
use Rattle.proof.proofs.conclusion.Faults.{top-fault}
use Rattle.proof.specs.OneNumber.{Far}

-- What stands before a rule's premises, as `read_conclusion` tells it.
module _ (s : Bytes) (from : Reached) (far : Far s from) (r : Result Conclusion Fault)
    (says : r ≡ count_seen (λ x. x.premises) (found (top_of (within (record { rules = limits.rules; formulas = limits.formulas }))) s from)) where
  abbrev top : Result Conclusion Fault
  top = count_seen (λ x. x.premises) (found (top_of limits) s from)

  -- the limits on bytes and on nodes of a term are not asked for
  is-top : r ≡ top
  unfolding top_of own_of linear_of row_of
  is-top = says

  module _ {f : Fault} (e : r ≡ Err f) where
    pub fault-near : f.place < 65536
    fault-near = omega (arith, top-fault limits s from far.inside (sym is-top ∙ e), far.short)

    pub rule-off : (d : ℕ) → limits.rules ≤ from.rules + d → Err f ≡ seen (found (proof_at limits d) s from)
    rule-off d enough =
        let b = split limits d (met_by from) from.next (drop from.next s) enough in
        sym (rw (b.is, count-bad (λ x. x.premises) (found (top_of limits) s from) (sym is-top ∙ e)))

  module _ {q : Reached} {n : ℕ} (e : r ≡ before q n) where
    w : Topped limits s from q n
    w = topped limits s from far.inside (sym is-top ∙ e)

    pub rule-further : from.next < q.next
    rule-further = w.ruled.further

    pub rule-far : Far s q
    rule-far =
        let few = holding (λ x v p r. Few limits (met_by from) → Few limits v) (found (top_of limits) s from) (top-few limits (met_by from) from.next (drop from.next s)) w.is (far.ruled, far.formed) in
        record { short = far.short; inside = w.inside; ruled = few.0; formed = few.1 }

    -- what the premises come to, the rule comes to
    pub rule-on : (a : Reading) → ((d : ℕ) → limits.rules ≤ q.rules + d → a ≡ seen (found (many (proof_at limits d) n) s q))
        → (d : ℕ) → limits.rules ≤ from.rules + d → a ≡ seen (found (proof_at limits d) s from)
    rule-on a come d enough =
        let b = split limits d (met_by from) from.next (drop from.next s) enough in
        come b.depth (omega (arith, b.enough, w.ruled.counted))
        ∙ ap (λ k. seen (found (many (proof_at limits b.depth) k) s q)) (sym w.count)
        ∙ sym (seen-made (found (many (proof_at limits b.depth) w.value.premises) s q) (λ ps. proof w.value.rule w.value.linear (row ps)))
        ∙ rw (b.is, w.is)

-- Premises in a row, of which some are still to be read.
pub record Going (s : Bytes) (n : ℕ) (from q : Reached) (left : ℕ) : Type 0 where
  pub far : Far s q
  pub onward : from.next ≤ q.next
  pub counted : from.rules ≤ q.rules
  pub waits : 0 < left
  pub same : (d : ℕ) → limits.rules ≤ from.rules + d → seen (found (many (proof_at limits d) left) s q) ≡ seen (found (many (proof_at limits d) n) s from)

module _ (s : Bytes) (n : ℕ) (from : Reached) where
  abbrev Row : Reading → Type 0
  Row a = (d : ℕ) → limits.rules ≤ from.rules + d → a ≡ seen (found (many (proof_at limits d) n) s from)

  pub going-none : n ≡ 0 → Row (Ok from)
  going-none z d e = sym (many-none (proof_at limits d) s from n z)

  -- the next premise
  module _ {q : Reached} {left : ℕ} (g : Going s n from q left) (a : Reading) (says : (d : ℕ) → limits.rules ≤ q.rules + d → a ≡ seen (found (proof_at limits d) s q)) where
    pub going-last : left ≤ 1 → Row a
    going-last z d h =
        let one : left ≡ 1 = omega (arith, g.waits) in
        says d (omega (arith, g.counted)) ∙ sym (many-one (proof_at limits d) s q left one) ∙ g.same d h

    pub going-off : {f : Fault} → a ≡ Err f → Row a
    going-off {f} e d h =
        let g' = seen-bad (found (proof_at limits d) s q) (sym (says d (omega (arith, g.counted))) ∙ e) in
        e ∙ sym (many-off (proof_at limits d) s q left (left - 1) (omega (arith, g.waits)) f.reason f.place g') ∙ g.same d h

    pub going_on : {q' : Reached} → a ≡ Ok q' → 1 < left → Going s n from q' (left - 1)
    going_on {q'} e more =
        let w : (d : ℕ) → limits.rules ≤ q.rules + d → Came s (found (proof_at limits d) s q) q' =
        λ d h. came (proof_at limits d) (steady-proof limits d) s q g.far.inside (sym (says d h) ∙ e) in
        let m = limits.rules in
        let c = w m (omega arith) in
        let o = holding (λ x v p r. (q.rules ≤ v.rules) × (q.next ≤ p)) (found (proof_at limits m) s q) (proof-onward limits m (met_by q) q.next (drop q.next s)) c.is in
        let few = holding (λ x v p r. Few limits (met_by q) → Few limits v) (found (proof_at limits m) s q) (proof-few limits m (met_by q) q.next (drop q.next s)) c.is (g.far.ruled, g.far.formed) in
        record {
          far = record { short = g.far.short; inside = c.inside; ruled = few.0; formed = few.1 };
          onward = omega (arith, g.onward, o.1);
          counted = omega (arith, g.counted, o.0);
          waits = omega arith;
          same = λ d h. sym (many-on (proof_at limits d) s q left (left - 1) (omega arith) (w d (omega (arith, g.counted)))) ∙ g.same d h;
        }
