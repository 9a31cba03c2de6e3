-- The work of `substitute` on legal inputs: nothing stands beside the term, so the result is written if it fits by itself, and zeros go behind it.
-- Assumes nothing.
use Rattle.rules.specs.declared.Reason.TheVariants.{Outgrows}
use Rattle.std.specs.Prelude.{Ok, Err}
use Prim.Native.Nat.{ℕ, ◌+◌, ◌-◌, ◌≤◌}
use mathlib.Core.Path.{◌≡◌, refl, sym, ap, ◌∙◌}
use mathlib.Core.Bool.{true, false}
use mathlib.Core.Option.{none}
use Rattle.std.specs.Prelude.{Option, Some, None}
use mathlib.Core.List.{List}
use native.Mathlib.Nat.{zero-add}
use native.Mathlib.Omega.{arith}
use lib.ListN.{length, take, replicate}
use lib.Seq.{sets, length-take-le}
use Rattle.rules.specs.Basic.{Bytes}
use Rattle.rules.specs.Limits.{limits}
use Rattle.rules.specs.declared.Refusal.{Refusal}
use Rattle.rules.specs.Term.{Term, encode, nodes, size, fits}
use Rattle.rules.specs.Substitution.{subst}
use Rattle.laws.specs.reading.Fits.{fits-yes, accepted-fits}
use Rattle.buffer.specs.Wrote.{Wrote}
use Rattle.buffer.specs.Writing.{wrote-length, filled-up}
use Rattle.substitution.specs.Places.{places, Row}
use Rattle.substitution.specs.Beside.{fits_beside}
use Rattle.substitution.specs.Tally.{moved}
use Rattle.substitution.specs.Put.{Putting, Puts}
use Rattle.substitution.specs.Work.{Job, Done}
use Rattle.substitution.specs.declared.tally.Tally.{Tally}
use Rattle.substitution.specs.declared.put.Written.{Written}
use Rattle.substitution.proofs.place.Writes.{wrote-part, zeros}
use Rattle.substitution.proofs.place.Finds.{count-within}
use Rattle.substitution.proofs.put.Puts.{Went, went, stuck}

by_itself : (u : Term) → fits_beside 0 0 u ≡ fits limits u
unfolding fits_beside fits
by_itself u = rw (zero-add (nodes u), zero-add (size u))

module _ {term name value out : Bytes} {n m : ℕ} {t v : Term} (j : Job term name value out n m t v) where
  term-long : length term ≡ size t
  term-long = ap (λ (z : Bytes). length z) j.term_in.bytes

  module _ {row row₁ : List ℕ} {count : ℕ} (long : Row row) (are : Wrote row 0 (places name t 0) row₁ count) where
    places-within : count ≤ length row
    places-within = count-within name t j.term_in.few long are

    pub cut : (count ≤ length row₁) × (count ≡ length (take count row₁))
    cut = let h : count ≤ length row₁ = omega (arith, places-within, wrote-length are) in (h, sym (length-take-le count row₁ h))

    pub putting : {gap : ℕ} → gap ≡ 2 + length name → Putting term (take count row₁) gap value m n (length term) name t v
    putting gap_is =
        record {
          body_is = j.term_in.bytes;
          places-are = wrote-part are places-within;
          gap_is = gap_is;
          value-is = record { bytes = j.value_in.bytes; count = j.value-count; fits = accepted-fits limits value v j.value_in };
          nodes-in = omega (arith, j.count);
          bytes-in = omega (arith, term-long);
          few = omega (arith, j.count, j.term_in.few);
          short = omega (arith, j.term_in.short);
        }

  module _ {out₁ : Bytes} {r : Option Written} (p : Puts (n - nodes t) (length term - size t) none (moved name v t) (subst name v t) out out₁ r) where
    alone : Puts 0 0 none (moved name v t) (subst name v t) out out₁ r
    alone =
        let a : n - nodes t ≡ 0 = omega (arith, j.count) in
        let b : length term - size t ≡ 0 = omega (arith, term-long) in
        rw (a, b) at p

    module _ {z : Written} (is : r ≡ Some z) {l : ℕ} (il : l ≡ z.tally.past) where
      made : Went 0 (moved name v t) (subst name v t) out out₁ z.tally z.nodes
      made = went 0 (moved name v t) (subst name v t) out out₁ r alone z is

      long : l ≡ size (subst name v t)
      long = il ∙ ap (λ (z : Tally). z.past) made.moved

      fit : fits limits (subst name v t) ≡ true
      fit = fits-yes limits (subst name v t) (omega (arith, made.fit)) (omega (arith, made.fit))

      written : Wrote out 0 (encode (subst name v t)) out₁ l
      written = record { holds = made.leaves; ends = long ∙ omega arith }

      pub end-within : l ≤ length out₁
      end-within = omega (arith, long, made.fit, wrote-length written, j.out-room)

      pub done : (out₂ scratch scratch₁ : Bytes) → out₂ ≡ sets out₁ l (replicate (length out₁ - l) 0) → scratch₁ ≡ sets scratch 0 (replicate (length scratch - 0) 0)
          → Done name t v out scratch (Ok l) out₂ scratch₁
      done out₂ scratch scratch₁ e q =
          record {
            says = rw fit (ap Ok long);
            leaves = rw fit (filled-up written e (omega (arith, made.fit, j.out-room)));
            clears = q ∙ zeros scratch (length scratch) refl;
          }

    pub outgrown : r ≡ None → (a : Refusal) → a ≡ record { reason = Outgrows; place = 0; input = 0 } → (scratch scratch₁ : Bytes) → scratch₁ ≡ sets scratch 0 (replicate (length scratch - 0) 0)
        → Done name t v out scratch (Err a) out₁ scratch₁
    outgrown is a d scratch scratch₁ q =
        let s = stuck 0 (moved name v t) (subst name v t) out out₁ r alone is in
        let over : fits limits (subst name v t) ≡ false = sym (by_itself (subst name v t)) ∙ s.0 in
        record { says = rw over (ap Err d); leaves = rw over s.1; clears = q ∙ zeros scratch (length scratch) refl }
