-- The call by its tests: short buffers, the reader, then the reduction. Assumes nothing.
use Rattle.std.specs.Prelude.{Result, Ok, Err}
use Prim.Native.Nat.{ℕ, ◌≤◌}
use mathlib.Core.Path.{◌≡◌, refl, sym, ◌∙◌}
use mathlib.Core.Bool.{false}
use lib.ListN.{length, replicate}
use borrow.Author.Tests.{le-leb}
use Rattle.rules.specs.Basic.{Bytes}
use Rattle.rules.specs.Limits.{limits, output_room, scratch_room}
use Rattle.rules.specs.declared.Refusal.{Refusal}
use Rattle.rules.specs.Refusal.{refuse, mapped}
use Rattle.rules.specs.declared.Reason.TheVariants.{ShortBuffer}
use Rattle.rules.specs.Term.{Term, nodes}
use Rattle.rules.specs.Reading.{read_term}
use Rattle.rules.specs.Reduction as rules
use Rattle.rules.specs.Buffers.{cleared}
use Rattle.rules.specs.Calls.{work_room, reduce_ending, reduce_call}
use Rattle.laws.specs.reading.Decoding.{term-sound}
use Rattle.laws.specs.reading.Fits.{accepted-fits}
use Rattle.laws.specs.reading.Numbers.{term-spares}
use Rattle.reader.specs.Accepted.{Accepts, accepts, refuses}
use Rattle.term.specs.Given.{Reads}
use Rattle.reduction.specs.Answers.{reduced_by, Reducing}
use Rattle.reduction.specs.declared.Reduction.{Reduction}
use Rattle.reduction.specs.declared.Unreduced.{Unreduced}

module _ (term : Bytes) (limit : ℕ) (out scratch : Bytes) where
  -- what the call ensures of its answer, its output and its scratch
  abbrev pub Is : Result Reduction Unreduced → Bytes → Bytes → Type 0
  Is a out' scratch' =
      (a ≡ reduced_by (reduce_call limits term limit out scratch).answer (reduce_call limits term limit out scratch).output_length)
      × ((out' ≡ (reduce_call limits term limit out scratch).output)
      × (scratch' ≡ (reduce_call limits term limit out scratch).scratch))

  pub too_short : (a : Result Reduction Unreduced) → work_room limits out scratch ≡ false → a ≡ reduced_by (refuse ShortBuffer 0 0) 0 → Is a out scratch
  unfolding reduce_call
  too_short a h e = (rw h e, (rw h, rw h))

  module _ (h : output_room limits ≤ length out) where
    module _ (k : scratch_room limits ≤ length scratch) where
      pub not-read : (r : Refusal) → mapped nodes (read_term limits 1 term) ≡ Err r → Is (Err (record { refusal = r; length = 0 })) out scratch
      unfolding reduce_call
      not-read r e =
          let p = le-leb (output_room limits) (length out) h in
          let q = le-leb (scratch_room limits) (length scratch) k in
          let f = refuses nodes (read_term limits 1 term) e in
          (rw (p, q, f), (rw (p, q, f), rw (p, q, f, term-spares limits 1 term r f)))

      module _ (n : ℕ) (e : mapped nodes (read_term limits 1 term) ≡ Ok n) where
        a : Accepts nodes (read_term limits 1 term) n
        a = accepts nodes (read_term limits 1 term) e

        pub read : (t : Term) × Reads term n out t
        read =
            let w = term-sound limits 1 term a.value a.is in
            (a.value, record { whole = w.bytes; count = sym a.counts; fits = accepted-fits limits term a.value w; room = h })

        pub reduced : (r : Result Reduction Unreduced) (out' scratch' : Bytes) → Reducing (rules.reduce limits limit read.0) out scratch r out' scratch' → Is r out' scratch'
        unfolding reduce_call a read
        reduced r out' scratch' w =
            let p = le-leb (output_room limits) (length out) h in
            let q = le-leb (scratch_room limits) (length scratch) k in
            (rw (p, q, a.is) w.says, (rw (p, q, a.is) w.leaves, rw (p, q, a.is) (w.clears ∙ either (rules.reduce limits limit a.value))))
          where
            either : (d : rules.Reduced) → replicate (length scratch) 0 ≡ cleared 0 scratch (reduce_ending d).says
            either (rules.stopped m c b u) = refl
            either (rules.outgrew m u) = refl
