-- From a term that was read to the loop's start: it is put at the end of the scratch, and the search begins there. Assumes nothing.
use Prim.Native.Nat.{ℕ, ◌+◌, ◌-◌, ◌≤◌}
use mathlib.Core.Path.{◌≡◌, ap, ◌∙◌}
use mathlib.Core.Bool.{true}
use native.Mathlib.Omega.{arith}
use lib.ListN.{length, replicate, length-replicate}
use lib.Seq.{slice, take-length}
use Rattle.std.specs.Prelude.{Option, None}
use Rattle.rules.specs.Basic.{Bytes}
use Rattle.rules.specs.Limits.{limits, scratch_room}
use Rattle.rules.specs.Term.{Term, encode}
use Rattle.laws.specs.reading.Fits.{within}
use Rattle.rules.specs.declared.Counts.{Counts}
use Rattle.rules.specs.Reduction.{zero_counts, reduce}
use Rattle.buffer.specs.Wrote.{Wrote}
use Rattle.term.specs.Given.{Reads}
use Rattle.reduction.proofs.moves.Places.{place}
use Rattle.reduction.specs.Standing.{Marks, Standing, Ended, Reducing}
use Rattle.reduction.specs.declared.place.Place.{Place}
use Rattle.reduction.proofs.moves.Wholes.{stands-first}
use Rattle.reduction.specs.Told.{stopped_at}
use Rattle.reduction.specs.Turning.{Carried, Stands, Repeats}
use Rattle.reduction.proofs.repeat.Turns.{rests}

-- a term that was read, put at the end of the scratch
module _ {term : Bytes} {n : ℕ} {out : Bytes} {t : Term} (d : Reads term n out t) (scratch : Bytes) (h : scratch_room limits ≤ length scratch) where
  pub begin-room : (length term ≤ length scratch) × (length scratch - length term + (length term - 0) ≤ length scratch)
  begin-room =
      let l : length term ≤ limits.bytes = omega (arith, ap (λ (z : Bytes). length z) d.whole, within limits t d.fits) in
      (omega arith, omega arith)

  pub begins : {scratch₁ : Bytes} {p : ℕ} → Wrote scratch (length scratch - length term) (slice 0 (length term) term) scratch₁ p
      → Standing t out scratch₁ (replicate limits.nodes None) (place 0 (length scratch - length term) 0)
  begins {scratch₁} {p = p} w =
      let q : slice 0 (length term) term ≡ encode t = take-length term ∙ d.whole in
      let v : Wrote scratch (length scratch - length term) (encode t) scratch₁ p = rw q at w in
      stands-first t d.fits v (omega (arith, ap (λ (z : Bytes). length z) d.whole, begin-room)) d.room h
      (omega (arith, length-replicate {A = Option ℕ} limits.nodes None))

  module _ (limit : ℕ) (c : Counts) (q : c ≡ zero_counts) where
    none_done : (p : Place) → Carried limit t t (record { at = p; nodes = n; steps = 0; counts = c })
    none_done p = let z : limit - 0 ≡ limit = omega arith in record { count = d.count; within = omega arith; added = rw q; carries = rw (z, q) }

    pub first : {out₁ scratch₁ : Bytes} {stack₁ : Marks} {p : Place} → Reducing t out₁ scratch₁ stack₁ p → Stands limit t out₁ scratch₁ stack₁ (record { at = p; nodes = n; steps = 0; counts = c })
    first {p = p} r = record { whole = t; carried = none_done p; stands = r.stands }

    -- there is no redex
    pub settled : (p : Place) {out₁ : Bytes} {l : ℕ} → Ended t out₁ l → Repeats (reduce limits limit t) out₁ (stopped_at 0 c true l)
    settled p e = rests (none_done p) e
