-- The public call on a straight term: what it reads is that term, and reduction is not refused; and so where is_straight says yes.
-- Assumes nothing.
use Rattle.std.specs.Prelude.{ℕ, ◌≤◌, ◌≡◌, true, ◌&&◌, length, Ok}
use Rattle.std.proofs.Common.{ap, ap₂, le-leb}
use Rattle.rules.specs.Basic.{Bytes}
use Rattle.rules.specs.Limits.{Limits, output_room, scratch_room}
use Rattle.rules.specs.Term.{Term, encode, fits}
use Rattle.rules.specs.Legal.{Legal}
use Rattle.rules.specs.Reading.{read_term}
use Rattle.rules.specs.Reduction.{Reduced, reduce}
use Rattle.rules.specs.Straight.{Straight, straight}
use Rattle.rules.specs.Calls.{work_room, reduce_ending, reduce_with, reduce_call, ReduceCall, is_straight_call}
use Rattle.laws.specs.Outcome.{good-mapped}
use Rattle.laws.specs.reading.Fits.{fits-accepted, accepted-fits}
use Rattle.laws.specs.reading.Decoding.{term-sound, term-complete}
use Rattle.laws.specs.straight.Decides.{straight-decides}
use Rattle.laws.specs.straight.Promise.{StraightCall}
use Rattle.laws.proofs.straight.Reducing.{straight-reduction}

called : (L : Limits) (t : Term) (limit : ℕ) (i o s : Bytes) (r : Reduced) → work_room L o s ≡ true → read_term L 1 i ≡ Ok t → reduce L limit t ≡ r
    → reduce_call L i limit o s ≡ reduce_with o s (reduce_ending r)
unfolding reduce_call
called L t limit i o s r w e f = rw (w, e, f)

module _ (L : Limits) (t : Term) (limit : ℕ) (i o s : Bytes) where
  -- THE PUBLIC CALL ON A STRAIGHT TERM (demand 3)
  pub straight-call : read_term L 1 i ≡ Ok t → Straight t → output_room L ≤ length o → scratch_room L ≤ length s → StraightCall L t limit i o s
  straight-call e w p q =
      let a = term-sound L 1 i t e in
      let r = straight-reduction L limit t w (accepted-fits L i t a) in
      let c = called L t limit i o s _ (ap₂ ◌&&◌ (le-leb (output_room L) (length o) p) (le-leb (scratch_room L) (length s) q)) e r.stops in
      record {
        reduction = r;
        answer = ap (λ (z : ReduceCall). z.answer) c;
        output_length = ap (λ (z : ReduceCall). z.output_length) c;
        output = ap (λ (z : ReduceCall). z.output) c;
        reads = term-complete L 1 (encode r.result) r.result (fits-accepted L r.result (r.legal a.legal) r.fits);
      }

-- and so on the bytes of any straight legal term that fits the limits
pub straight-legal-call : (L : Limits) (t : Term) (limit : ℕ) (o s : Bytes) → Legal t → fits L t ≡ true → Straight t → output_room L ≤ length o → scratch_room L ≤ length s
    → StraightCall L t limit (encode t) o s
straight-legal-call L t limit o s l f = straight-call L t limit (encode t) o s (term-complete L 1 (encode t) t (fits-accepted L t l f))

-- where is_straight says yes, a straight term is read
pub straight-told : (L : Limits) (i : Bytes) → is_straight_call L i ≡ Ok true → (t : Term) × (read_term L 1 i ≡ Ok t) × Straight t
unfolding is_straight_call
straight-told L i h = let (t, e, f) = good-mapped straight (read_term L 1 i) true h in (t, e, (straight-decides t).0 f)

-- and bounded reduction of it is as promised
pub told-call : (L : Limits) (limit : ℕ) (i o s : Bytes) → is_straight_call L i ≡ Ok true → output_room L ≤ length o → scratch_room L ≤ length s
    → (t : Term) × StraightCall L t limit i o s
told-call L limit i o s h p q = let (t, e, w) = straight-told L i h in (t, straight-call L t limit i o s e w p q)
