-- What was read, from the view of it: for whoever calls `read_from`.
-- Assumes nothing.
use Rattle.std.specs.Prelude.{ℕ, ◌≤◌, ◌≡◌, length, drop}
use Rattle.std.proofs.Common.{arith, ap, ◌∙◌}
use Rattle.rules.specs.declared.Reason.{Reason}
use Rattle.rules.specs.declared.Fault.{Fault}
use Rattle.rules.specs.Basic.{Bytes}
use Rattle.rules.specs.Reading.{Got, got, bad, Reader}
use Rattle.laws.specs.reading.Steady.{Steady, steady-got}
use Rattle.reader.specs.declared.class.Past.{Past}
use Rattle.reader.specs.View.{view, past, fault}

module _ {A : Type 0} where
  pub view-got : (g : Got ℕ A) {p u : ℕ} → view g ≡ past p u → (x : A) × (r : Bytes) × (g ≡ got x u p r)
  view-got (got x u' p' r) {p} {u} e =
      let z : ◌≡◌ {A = Past} (record { next = p'; met = u' }) (record { next = p; met = u }) = cc in
      (x, r, ap (λ (q : Past). got x q.met q.next r) z)
  view-got (bad n p') e = absurd (let z : ◌≡◌ {A = ℕ} 0 1 = cc in omega arith)

  pub view-bad : (g : Got ℕ A) {n : Reason} {p : ℕ} → view g ≡ fault n p → g ≡ bad n p
  view-bad (got x u p r) e = absurd (let z : ◌≡◌ {A = ℕ} 0 1 = cc in omega arith)
  view-bad (bad n' p') {n} {p} e =
      let z : ◌≡◌ {A = Fault} (record { reason = n'; place = p' }) (record { reason = n; place = p }) = cc in
      ap (λ (f : Fault). bad f.reason f.place) z

-- A reading of s at a place, from the view of it: it leaves s from the next place on.
pub record Passed {A : Type 0} (s : Bytes) (g : Got ℕ A) (p u : ℕ) : Type 0 where
  pub value : A
  pub is : g ≡ got value u p (drop p s)
  pub within : p ≤ length s

pub passed : {A : Type 0} (m : Reader ℕ A) → Steady m → (s : Bytes) (u at : ℕ) → at ≤ length s → {p v : ℕ} → view (m u at (drop at s)) ≡ past p v → Passed s (m u at (drop at s)) p v
passed m k s u at h {p} {v} e =
    let w = view-got (m u at (drop at s)) e in
    let i = steady-got m k s u at h w.2 in
    record { value = w.0; is = w.2 ∙ ap (λ r. got w.0 v p r) i.rest; within = i.within }
