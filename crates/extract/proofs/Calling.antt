-- What the rules say of the call, by what its buffers' lengths and the reader's answer are. Assumes nothing.
use Prim.Native.Nat.{ℕ, ◌≤◌}
use mathlib.Core.Path.{◌≡◌, refl, sym, ap, ◌∙◌}
use mathlib.Core.Bool.{Bool, true, false, ◌&&◌}
use mathlib.Core.List.{List, []}
use native.Mathlib.Omega.{arith}
use lib.ListN.{length, replicate}
use borrow.Author.Tests.{le-leb}
use Rattle.std.specs.Prelude.{if◌then◌else◌, Ok, Err}
use Rattle.rules.specs.Basic.{Bytes, ◌≤?◌, ◌<?◌}
use Rattle.rules.specs.Limits.{limits, output_room, scratch_room, entry_room, most_counter}
use Rattle.rules.specs.declared.Refusal.{Refusal}
use Rattle.rules.specs.Refusal.{Outcome, mapped, refuse}
use Rattle.rules.specs.declared.Reason.TheVariants.{ShortBuffer, Outgrows, CounterOver}
use Rattle.rules.specs.Term.{Term, fits}
use Rattle.rules.specs.Proof.{Proof, rules}
use Rattle.rules.specs.Reading.{read_proof}
use Rattle.rules.specs.Extraction.{terms, sizes, extract, extract_from, size_fits, Size}
use Rattle.rules.specs.Buffers.{lent, filled, cleared}
use Rattle.rules.specs.Calls.{Entry, work_room, counter_after, extract_ending, proof_outcome, extract_call}
use Rattle.laws.specs.reading.Octets.{Octets}
use Rattle.laws.specs.reading.Numbers.{proof-spares}
use Rattle.buffer.specs.Rooms.{Rooms}
use Rattle.proof.specs.Accepted.{accepts-proof, refuses-proof}
use Rattle.extract.specs.Sizes.{extract-sizes}
use Rattle.extract.specs.Whole.{decided, outcome, extraction, told, Finished, Checked}
use Rattle.extract.specs.Ending.{Alone}
use Rattle.extract.specs.declared.Extraction.{Extraction}

-- extraction decides by sizes, and these are the term's
agree : (a b : Bool) (e : Term × ℕ)
    → ◌≡◌ {A = Outcome (Term × ℕ)} (elim a [ true ↦ refuse CounterOver 0 0 | false ↦ elim b [ true ↦ Ok e | false ↦ refuse Outgrows 0 0 ] ]) (decided a b e)
agree true b e = refl
agree false true e = refl
agree false false e = refl

pub from_is : (n : ℕ) (p : Proof) → extract_from limits n p ≡ outcome (extract terms p [] n)
unfolding extract_from fits
from_is n p =
    agree (most_counter <? (extract sizes p [] n).1) (size_fits limits (extract sizes p [] n).0) (extract terms p [] n)
    ∙ ap (λ (z : Size × ℕ). decided (most_counter <? z.1) (size_fits limits z.0) (extract terms p [] n)) (extract-sizes p [] n)

told_is : (n : ℕ) (o : Outcome (Term × ℕ)) → told o ≡ extraction (extract_ending o).says (counter_after n (extract_ending o).says o)
told_is n (Ok e) = refl
told_is n (Err q) = refl

module _ (n : ℕ) (p out scratch : Bytes) where
  -- with that much room, what the proof comes to
  call-is : (b : Bool) → work_room limits out scratch ≡ b → (o : Outcome (Term × ℕ)) → proof_outcome limits n p ≡ o → {r : Outcome Extraction} {out' scratch' : Bytes}
      → r ≡ extraction (lent b (extract_ending o)).says (counter_after n (lent b (extract_ending o)).says o)
      → out' ≡ filled out (lent b (extract_ending o)).writes → scratch' ≡ cleared 0 scratch (lent b (extract_ending o)).says → Alone n p out scratch r out' scratch'
  unfolding extract_call
  call-is b e o q {r} {out'} {scratch'} x y z =
      ((λ es h. let k = room es h in rw (k, q) x), ((λ es h. let k = room es h in rw (k, q) y), (λ es h. let k = room es h in rw (k, q) z)))
    where
      both : (c : Bool) → c ≡ true → (work_room limits out scratch && c) ≡ b
      both c i = ap (λ (a : Bool). work_room limits out scratch && a) i ∙ right (work_room limits out scratch) ∙ e
        where
          right : (a : Bool) → (a && true) ≡ a
          right true = refl
          right false = refl

      room : (es : List Entry) → entry_room limits ≤ length es → (work_room limits out scratch && (entry_room limits ≤? length es)) ≡ b
      room es h = both (entry_room limits ≤? length es) (le-leb (entry_room limits) (length es) h)

  module _ {b : Bool} (w : Rooms (length out) (length scratch) b) where
    pub no_room : b ≡ true → {r : Outcome Extraction} → r ≡ told (refuse ShortBuffer 0 0) → Alone n p out scratch r out scratch
    no_room e q = call-is false (w.few e) (proof_outcome limits n p) refl q refl refl

    module _ (h : b ≡ false) where
      enough : work_room limits out scratch ≡ true
      enough = rw (le-leb (output_room limits) (length out) (w.many h).0, le-leb (scratch_room limits) (length scratch) (w.many h).1)

      pub bad-proof : (q : Refusal) → mapped rules (read_proof limits 1 p) ≡ Err q → Alone n p out scratch (Err q) out scratch
      bad-proof q e =
          let r = refuses-proof limits 1 p e in
          call-is true enough (Err q) (rw r) refl refl (sym (ap (λ (b : Bool). if b then scratch else replicate (length scratch) 0) (proof-spares limits 1 p q r)))

      module _ (m : ℕ) (o : Octets p) (e : mapped rules (read_proof limits 1 p) ≡ Ok m) where
        pub value : Proof
        value = (accepts-proof limits 1 p o e).value

        pub read : Checked p out m value
        unfolding value
        read = let a = accepts-proof limits 1 p o e in record { holds = a.holds; few = omega (arith, a.counts); room = (w.many h).0 }

        outcome-is : proof_outcome limits n p ≡ outcome (extract terms value [] n)
        unfolding value
        outcome-is = let a = accepts-proof limits 1 p o e in rw a.is (from_is n a.value)

        pub good-proof : {r : Outcome Extraction} {out' scratch' : Bytes} → Finished (extract terms value [] n) out scratch r out' scratch' → Alone n p out scratch r out' scratch'
        good-proof f =
            let z = outcome (extract terms value [] n) in
            call-is true enough z outcome-is (f.says ∙ told_is n z) f.leaves f.clears
