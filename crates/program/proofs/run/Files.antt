-- What is printed for a file, by what opening it comes to: its content, or the refusal. Assumes nothing.
use Rattle.std.specs.Prelude.{Ok, Err}
use Prim.Native.Nat.{ℕ, ◌-◌, ◌≤◌}
use mathlib.Core.Path.{◌≡◌, refl, sym, ap, ◌∙◌}
use native.Mathlib.Omega.{arith}
use lib.ListN.{length, take, replicate}
use borrow.Author.Tests.{le-leb}
use Rattle.rules.specs.Basic.{Bytes}
use Rattle.rules.specs.Limits.{limits, output_room}
use Rattle.rules.specs.declared.Refusal.{Refusal}
use Rattle.rules.specs.Refusal.{Outcome}
use Rattle.rules.specs.declared.Kind.TheVariants.{Term as a_term}
use Rattle.rules.specs.Stored.{opened}
use Rattle.rules.specs.Buffers.{Wrote, bytes_or, wrote}
use Rattle.rules.specs.Calls.{load_call, reduce_call}
use Rattle.rules.specs.Program.{program_steps, refusal_line, patchrun}
use Rattle.program.specs.Printing.{printed_for, term_left, scratch_left}
use Rattle.program.proofs.run.Starting.{starts-append, starts-inside}

-- a file that opens: its content stands at the start of the output, and is all that what follows depends on
pub record Opened (file term scratch out₁ : Bytes) (n : ℕ) : Type 0 where
  pub prints : patchrun limits file ≡ printed_for limits (take n out₁)
  pub terms : term_left limits file term scratch ≡ (reduce_call limits (take n out₁) program_steps term scratch).output
  pub scratches : scratch_left limits file term scratch ≡ (reduce_call limits (take n out₁) program_steps term scratch).scratch
  pub inside : n ≤ length out₁

-- a file that does not: the refusal, and nothing else is touched
pub record Unopened (file term scratch : Bytes) (q : Refusal) : Type 0 where
  pub prints : patchrun limits file ≡ refusal_line q
  pub terms : term_left limits file term scratch ≡ term
  pub scratches : scratch_left limits file term scratch ≡ scratch

module _ (file term scratch out : Bytes) (room : output_room limits ≤ length out) where
  abbrev ends : Outcome Bytes → Wrote ℕ
  ends o = wrote out (bytes_or o)

  calls : load_call limits a_term file out ≡ ends (opened limits a_term file)
  unfolding load_call
  calls = rw (le-leb (output_room limits) (length out) room)

  opened-from : (o : Outcome Bytes) → opened limits a_term file ≡ o → (n : ℕ) → (ends o).answer ≡ Ok n → (out₁ : Bytes) → out₁ ≡ (ends o).output → Opened file term scratch out₁ n
  unfolding patchrun printed_for term_left scratch_left
  opened-from (Err q) e n h out₁ l = absurd (let z : ◌≡◌ {A = ℕ} 0 1 = cc in omega arith)
  opened-from (Ok s) e n h out₁ l =
      let f : n ≡ length s = cc in
      let a = starts-append s (replicate (length out - length s) 0) l f in
      record {
        prints = rw (e, a.holds);
        terms = rw (e, term_left, a.holds);
        scratches = rw (e, scratch_left, a.holds);
        inside = starts-inside a;
      }

  unopened-from : (o : Outcome Bytes) → opened limits a_term file ≡ o → (q : Refusal) → (ends o).answer ≡ Err q → Unopened file term scratch q
  unfolding patchrun term_left scratch_left
  unopened-from (Ok s) e q h = absurd (let z : ◌≡◌ {A = ℕ} 0 1 = cc in omega arith)
  unopened-from (Err q') e q h =
      let f : q' ≡ q = cc in
      record { prints = rw e (ap refusal_line f); terms = rw (e, term_left); scratches = rw (e, scratch_left) }

  module _ {r : Outcome ℕ} (says : r ≡ (load_call limits a_term file out).answer) where
    pub opens : (n : ℕ) → r ≡ Ok n → (out₁ : Bytes) → out₁ ≡ (load_call limits a_term file out).output → Opened file term scratch out₁ n
    opens n h out₁ l = opened-from (opened limits a_term file) refl n (rw calls at (sym says ∙ h)) out₁ (rw calls at l)

    pub unopened : (q : Refusal) → r ≡ Err q → Unopened file term scratch q
    unopened q h = unopened-from (opened limits a_term file) refl q (rw calls at (sym says ∙ h))
