-- What reduction tells, and what is printed for it: by cases of what was read and of how the reduction stopped. Assumes nothing.
use Rattle.std.specs.Prelude.{Result, Ok, Err}
use Prim.Native.Nat.{ℕ, ◌≤◌, ◌-◌}
use mathlib.Core.Path.{◌≡◌, refl, sym, ap, ◌∙◌}
use mathlib.Core.List.{◌∷◌}
use native.Mathlib.Omega.{arith}
use lib.ListN.{length, take, replicate}
use borrow.Author.Tests.{le-leb}
use Rattle.rules.specs.Basic.{Bytes, ◌‥◌}
use Rattle.rules.specs.Limits.{limits, output_room, scratch_room}
use Rattle.rules.specs.declared.Refusal.{Refusal}
use Rattle.rules.specs.Refusal.{Outcome}
use Rattle.rules.specs.declared.Reason.TheVariants.{Outgrows}
use Rattle.rules.specs.Term.{Term, encode}
use Rattle.rules.specs.Text.{text}
use Rattle.rules.specs.Reading.{read_term}
use Rattle.rules.specs.Reduction as rules
use Rattle.rules.specs.Buffers.{written}
use Rattle.rules.specs.Calls.{ReduceCall, reduce_ending, read_ending, reduce_with, reduce_call}
use Rattle.rules.specs.Program.{program_steps, counts_line, refusal_line, report, reduced_report}
use Rattle.laws.specs.reading.Decoding.{TermIn, term-sound}
use Rattle.laws.specs.reading.Fits.{fits-accepted, accepted-fits}
use Rattle.reduction.specs.Answers.{reduced_by}
use Rattle.reduction.specs.declared.Reduction.{Reduction}
use Rattle.reduction.specs.declared.Unreduced.{Unreduced}
use Rattle.program.specs.Printing.{printed_for}
use Rattle.program.proofs.run.Reduct.{Sound, reduced-sound}
use Rattle.program.proofs.run.Starting.{starts-append, starts-inside}

-- the first bytes of the output are a term, and it and what is told are what is printed
pub record Told (content out : Bytes) (a : Reduction) (t : Term) : Type 0 where
  pub reads : TermIn limits (take a.length out) t
  pub inside : a.length ≤ length out
  pub prints : printed_for limits content ≡ text t ‥ 10 ∷ counts_line a.steps a.counts a.normal

-- the steps and the counts, and the term that they lead to
stops : (d : rules.Reduced) (a : Reduction) → reduced_by (reduce_ending d).says (written (reduce_ending d).writes) ≡ Ok a
    → (t : Term) × (d ≡ rules.stopped a.steps a.counts a.normal t) × (a.length ≡ length (encode t))
stops (rules.stopped n c b t) a e =
    let f : record { steps = n; counts = c; normal = b; length = length (encode t) } ≡ a = cc in
    (t, ap (λ (x : Reduction). rules.stopped x.steps x.counts x.normal t) f, sym (ap (λ (x : Reduction). x.length) f))
stops (rules.outgrew n t) a e = absurd (let z : ◌≡◌ {A = ℕ} 0 1 = cc in omega arith)

refuses : (d : rules.Reduced) (q : Refusal) (l : ℕ) → reduced_by (reduce_ending d).says (written (reduce_ending d).writes) ≡ Err (record { refusal = q; length = l })
    → report (reduced_report d) ≡ refusal_line q
refuses (rules.stopped n c b t) q l e = absurd (let z : ◌≡◌ {A = ℕ} 0 1 = cc in omega arith)
refuses (rules.outgrew n t) q l e =
    let z : ◌≡◌ {A = Unreduced} (record { refusal = record { reason = Outgrows; place = n; input = 0 }; length = length (encode t) }) (record { refusal = q; length = l }) = cc in
    ap (λ (u : Unreduced). refusal_line u.refusal) z

module _ (s out scratch : Bytes) (room : output_room limits ≤ length out) (scratch-room : scratch_room limits ≤ length scratch) where
  abbrev ends : Outcome Term → ReduceCall
  ends o = reduce_with out scratch (read_ending o (λ u. reduce_ending (rules.reduce limits program_steps u)))

  calls : reduce_call limits s program_steps out scratch ≡ ends (read_term limits 1 s)
  unfolding reduce_call
  calls = rw (le-leb (output_room limits) (length out) room, le-leb (scratch_room limits) (length scratch) scratch-room)

  told-from : (o : Outcome Term) → read_term limits 1 s ≡ o → (a : Reduction) → reduced_by (ends o).answer (ends o).output_length ≡ Ok a → (out₁ : Bytes) → out₁ ≡ (ends o).output
      → (t : Term) × Told s out₁ a t
  unfolding printed_for
  told-from (Err q) e a q' out₁ l = absurd (let z : ◌≡◌ {A = ℕ} 0 1 = cc in omega arith)
  told-from (Ok u) e a h out₁ l =
      let r = term-sound limits 1 s u e in
      let d = stops (rules.reduce limits program_steps u) a h in
      let t = d.0 in
      let v : Sound limits t = rw d.1 at (reduced-sound limits program_steps 0 rules.zero_counts u (r.legal, accepted-fits limits s u r)) in
      let b = starts-append (encode t) (replicate (length out - length (encode t)) 0) (rw d.1 at l) d.2 in (
        t,
        record {
          reads = rw b.holds (fits-accepted limits t v.0 v.1);
          inside = starts-inside b;
          prints = rw e (ap (λ (x : rules.Reduced). report (reduced_report x)) d.1);
        },
      )

  refused-from : (o : Outcome Term) → read_term limits 1 s ≡ o → (q : Refusal) (l : ℕ) → reduced_by (ends o).answer (ends o).output_length ≡ Err (record { refusal = q; length = l }) → printed_for limits s ≡ refusal_line q
  unfolding printed_for
  refused-from (Err q') e q l h =
      let z : ◌≡◌ {A = Unreduced} (record { refusal = q'; length = 0 }) (record { refusal = q; length = l }) = cc in
      rw e (ap (λ (u : Unreduced). refusal_line u.refusal) z)
  refused-from (Ok u) e q l h = rw e (refuses (rules.reduce limits program_steps u) q l h)

  -- what the call answers and leaves
  abbrev call : ReduceCall
  call = reduce_call limits s program_steps out scratch

  module _ {r : Result Reduction Unreduced} (says : r ≡ reduced_by call.answer call.output_length) where
    pub told : (a : Reduction) → r ≡ Ok a → (out₁ : Bytes) → out₁ ≡ call.output → (t : Term) × Told s out₁ a t
    told a h out₁ l = told-from (read_term limits 1 s) refl a (rw calls at (sym says ∙ h)) out₁ (rw calls at l)

    pub refused-told : (q : Refusal) (l : ℕ) → r ≡ Err (record { refusal = q; length = l }) → printed_for limits s ≡ refusal_line q
    refused-told q l h = refused-from (read_term limits 1 s) refl q l (rw calls at (sym says ∙ h))
