-- The calls by their tests: short buffers, the reader, then the step. Assumes nothing.
use Rattle.std.specs.Prelude.{Ok, Err}
use Prim.Native.Nat.{ℕ, ◌-◌, ◌≤◌}
use mathlib.Core.Path.{◌≡◌, refl, sym, ap, ◌∙◌}
use mathlib.Core.Bool.{Bool, true, false}
use native.Mathlib.Omega.{arith}
use lib.ListN.{length, replicate}
use lib.Seq.{sets, length-sets}
use borrow.Author.Tests.{le-leb}
use Rattle.rules.specs.Basic.{Bytes}
use Rattle.rules.specs.Limits.{limits, output_room, scratch_room}
use Rattle.rules.specs.declared.Refusal.{Refusal}
use Rattle.rules.specs.Refusal.{Outcome, mapped}
use Rattle.rules.specs.declared.Reason.TheVariants.{ShortBuffer, Outgrows}
use Rattle.rules.specs.Term.{Term, encode, nodes}
use Rattle.rules.specs.Reading.{read_term}
use Rattle.rules.specs.Step as rules
use Rattle.rules.specs.Buffers.{cleared, filled}
use Rattle.rules.specs.Calls.{work_room, step_ending, step_call, is_normal_call}
use Rattle.laws.specs.reading.Decoding.{term-sound}
use Rattle.laws.specs.reading.Fits.{within, accepted-fits}
use Rattle.laws.specs.reading.Numbers.{term-spares}
use Rattle.reader.specs.Accepted.{Accepts, accepts, refuses}
use Rattle.buffer.specs.Wrote.{Wrote}
use Rattle.buffer.specs.Writing.{filled-up}
use Rattle.substitution.proofs.place.Writes.{zeros}
use Rattle.term.specs.Given.{Reads}
use Rattle.step.specs.Taken.{Takes}
use Rattle.step.specs.declared.Found.{Found as FoundStep}
use Rattle.step.specs.Answers.{step_answered, Stepping}
use Rattle.step.specs.declared.Stepped.{Stepped}
use Rattle.step.specs.declared.Stepped.TheVariants.{Found as IsFound}
use Rattle.step.proofs.Taking.{Fitted, took, writes, idle}

-- ---- what finds nothing

found-same : (a b : Stepped) → ◌≡◌ {A = Outcome Stepped} (Ok a) (Ok b) → a ≡ b
found-same a b e = cc

pub not-other : {k : Outcome Stepped} {a : Stepped} → k ≡ Ok a → ((f : FoundStep) → a ≡ IsFound f → ⊥) → (f : FoundStep) → k ≡ Ok (IsFound f) → ⊥
not-other {a = a} was n f e = n f (found-same a (IsFound f) (sym was ∙ e))

apart : (r : Refusal) (a : Stepped) → ◌≡◌ {A = Outcome Stepped} (Err r) (Ok a) → ⊥
apart r a e = let z : ◌≡◌ {A = ℕ} 0 1 = cc in omega arith

pub not-refused : {k : Outcome Stepped} {r : Refusal} → k ≡ Err r → (f : FoundStep) → k ≡ Ok (IsFound f) → ⊥
not-refused {r = r} was f e = apart r (IsFound f) (sym was ∙ e)

-- ---- a step of a term that was read, by what was taken

module _ {s : rules.Stepped} {out out₁ : Bytes} {k : Outcome Stepped} (d : Takes s out out₁ k) where
  module _ {f : FoundStep} (e : k ≡ Ok (IsFound f)) (h : output_room limits ≤ length out) where
    fitted : Fitted s f
    fitted = took s (sym d.says ∙ e)

    written : out₁ ≡ sets out 0 (encode fitted.result)
    written = d.leaves ∙ writes fitted out

    pub room : f.length ≤ length out₁
    room =
        let w = fitted in
        omega (arith, ap (λ (z : Bytes). length z) written, length-sets out 0 (encode w.result), within limits w.result w.fits, w.long)

    cleared-out : {out₂ : Bytes} → out₂ ≡ sets out₁ f.length (replicate (length out₁ - f.length) 0) → out₂ ≡ filled out (step_ending limits s).writes
    cleared-out z =
        let w = fitted in
        let o : Wrote out 0 (encode w.result) out₁ f.length = record { holds = written; ends = omega (arith, w.long) } in
        rw w.is (rw w.tested (filled-up o z (omega (arith, within limits w.result w.fits))))

  -- the scratch was worked in, and then cleared
  module _ (scratch scratch₀ scratch₁ : Bytes) (same : length scratch₀ ≡ length scratch) (q : scratch₁ ≡ sets scratch₀ 0 (replicate (length scratch₀ - 0) 0)) where
    cleared-up : scratch₁ ≡ replicate (length scratch) 0
    cleared-up = q ∙ zeros scratch₀ (length scratch) same

    pub stays : ((f : FoundStep) → k ≡ Ok (IsFound f) → ⊥) → Stepping s out scratch k out₁ scratch₁
    stays n = record { says = d.says; leaves = d.leaves ∙ idle s out d.says n; clears = cleared-up }

    pub goes : {f : FoundStep} → k ≡ Ok (IsFound f) → output_room limits ≤ length out → (out₂ : Bytes) → out₂ ≡ sets out₁ f.length (replicate (length out₁ - f.length) 0) → Stepping s out scratch (Ok (IsFound f)) out₂ scratch₁
    goes e h out₂ z = record { says = sym e ∙ d.says; leaves = cleared-out e h z; clears = cleared-up }

-- ---- the call

module _ (term out scratch : Bytes) where
  -- what the call ensures of its answer, its output and its scratch
  abbrev pub Is : Outcome Stepped → Bytes → Bytes → Type 0
  Is a out' scratch' =
      (a ≡ step_answered (step_call limits term out scratch).answer)
      × ((out' ≡ (step_call limits term out scratch).output)
      × (scratch' ≡ (step_call limits term out scratch).scratch))

  pub too_short : work_room limits out scratch ≡ false → (r : Refusal) → r ≡ record { reason = ShortBuffer; place = 0; input = 0 } → Is (Err r) out scratch
  unfolding step_call
  too_short h r e = (rw h (ap Err e), (rw h, rw h))

  module _ (h : output_room limits ≤ length out) (k : scratch_room limits ≤ length scratch) where
    opened : work_room limits out scratch ≡ true
    opened = rw (le-leb (output_room limits) (length out) h) (le-leb (scratch_room limits) (length scratch) k)

    pub not-read : (r : Refusal) → mapped nodes (read_term limits 1 term) ≡ Err r → Is (Err r) out scratch
    unfolding step_call
    not-read r e =
        let f = refuses nodes (read_term limits 1 term) e in
        (rw (opened, f), (rw (opened, f), rw (opened, f, term-spares limits 1 term r f)))

    module _ (n : ℕ) (e : mapped nodes (read_term limits 1 term) ≡ Ok n) where
      a : Accepts nodes (read_term limits 1 term) n
      a = accepts nodes (read_term limits 1 term) e

      pub read : (t : Term) × Reads term n out t
      read =
          let w = term-sound limits 1 term a.value a.is in
          (a.value, record { whole = w.bytes; count = sym a.counts; fits = accepted-fits limits term a.value w; room = h })

      pub stepped : (r : Outcome Stepped) (out' scratch' : Bytes) → Stepping (rules.step read.0) out scratch r out' scratch' → Is r out' scratch'
      unfolding step_call a read
      stepped r out' scratch' w = (rw (opened, a.is) w.says, (rw (opened, a.is) w.leaves, rw (opened, a.is) (w.clears ∙ either (rules.step a.value))))
        where
          either : (s : rules.Stepped) → replicate (length scratch) 0 ≡ cleared 0 scratch (step_ending limits s).says
          either rules.normal = refl
          either (rules.found x y z v) = go (rules.step_fits limits z v) refl
            where
              go : (b : Bool) → rules.step_fits limits z v ≡ b → replicate (length scratch) 0 ≡ cleared 0 scratch (step_ending limits (rules.found x y z v)).says
              go true i = rw i
              go false i = rw i

-- ---- is_normal

module _ (term : Bytes) where
  pub untold : (r : Refusal) → mapped nodes (read_term limits 1 term) ≡ Err r → Err r ≡ is_normal_call limits term
  unfolding is_normal_call
  untold r e = rw (refuses nodes (read_term limits 1 term) e)

  module _ (n : ℕ) (e : mapped nodes (read_term limits 1 term) ≡ Ok n) where
    pub is-term : (t : Term) × (read_term limits 1 term ≡ Ok t) × (term ≡ encode t)
    is-term =
        let a = accepts nodes (read_term limits 1 term) e in
        let w = term-sound limits 1 term a.value a.is in
        (a.value, a.is, w.bytes)

  pub told : (t : Term) → read_term limits 1 term ≡ Ok t → (b : Bool) → b ≡ rules.is_normal_term (rules.step t) → Ok b ≡ is_normal_call limits term
  unfolding is_normal_call
  told t e b d = rw (e, d)
