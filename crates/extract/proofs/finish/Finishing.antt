-- From a draft to the call's ending: 9 by the counter, 8 by the size of the draft's term, else its bytes with zeros behind them. Assumes nothing.
use Rattle.std.specs.Prelude.{Ok}
use Prim.Native.Nat.{ℕ, ◌+◌, ◌-◌, ◌<◌, ◌≤◌}
use mathlib.Core.Path.{◌≡◌, refl, sym, ap, ◌∙◌}
use mathlib.Core.Bool.{Bool, true, false}
use mathlib.Core.List.{List}
use native.Mathlib.Omega.{arith}
use lib.ListN.{length, replicate, take}
use lib.Seq.{sets}
use borrow.Author.Tests.{lt-ltb, le-ltb, leb-true}
use Rattle.rules.specs.Basic.{Bytes, ◌<?◌, ◌≤?◌}
use Rattle.rules.specs.Limits.{limits, most_counter}
use Rattle.rules.specs.Refusal.{Outcome, refuse}
use Rattle.rules.specs.declared.Reason.TheVariants.{Outgrows, CounterOver}
use Rattle.rules.specs.Buffers.{filled, cleared}
use Rattle.rules.specs.Calls.{extract_ending}
use Rattle.rules.specs.Term.{Term, encode, size, nodes, fits}
use Rattle.laws.specs.free.Same.{both_true}
use Rattle.buffer.specs.Wrote.{Wrote}
use Rattle.buffer.specs.Writing.{filled-up, wrote-length, wrote_none}
use Rattle.draft.specs.declared.row.Row.{Row}
use Rattle.draft.specs.declared.size.Size.{Size}
use Rattle.draft.specs.Draft.{Drafts}
use Rattle.draft.specs.Made.{Small}
use Rattle.draft.specs.Steady.{used-long, small-used, drafts-used}
use Rattle.draft.specs.Measured.{Countable}
use Rattle.draft.specs.Writing.{Writable}
use Rattle.proof_draft.specs.declared.put.Drafted.{Drafted}
use Rattle.extract.specs.declared.Extraction.{Extraction}
use Rattle.extract.specs.Whole.{decided, outcome, told, Finishes, Finished}

-- a buffer cleared from its start
zeros : (b : Bytes) {b' : Bytes} → b' ≡ sets b 0 (replicate (length b - 0) 0) → b' ≡ replicate (length b) 0
zeros b {b'} e =
    let z : length b - 0 ≡ length b = omega arith in
    filled-up (wrote_none b 0) e (omega arith) ∙ ap (λ (k : ℕ). replicate k 0) z

finished : {e : Term × ℕ} (o : Outcome (Term × ℕ)) {out scratch out' scratch' : Bytes} {r : Outcome Extraction} → outcome e ≡ o → r ≡ told o
    → out' ≡ filled out (extract_ending o).writes → scratch' ≡ cleared 0 scratch (extract_ending o).says → Finished e out scratch r out' scratch'
finished o {out} {scratch} is a b c =
    record {
      says = a ∙ ap (λ (z : Outcome (Term × ℕ)). told z) (sym is);
      leaves = b ∙ ap (λ (z : Outcome (Term × ℕ)). filled out (extract_ending z).writes) (sym is);
      clears = c ∙ ap (λ (z : Outcome (Term × ℕ)). cleared 0 scratch (extract_ending z).says) (sym is);
    }

is-decided : (t : Term) (n : ℕ) (a b : Bool) → (most_counter <? n) ≡ a → fits limits t ≡ b → outcome (t, n) ≡ decided a b (t, n)
is-decided t n a b p q = ap (λ (z : Bool). decided z (fits limits t) (t, n)) p ∙ ap (λ (z : Bool). decided a z (t, n)) q

-- what is asked of a draft, and what is left
abbrev pub SomeDraft : Bytes → List Row → Drafted → List Size → Bytes → Type 0
SomeDraft s ws d zs out = (t : Term) × (n : ℕ) × Finishes s ws d zs out (t, n)

abbrev pub Ending : Bytes → List Row → Drafted → List Size → (out scratch : Bytes) → Outcome Extraction → (out' scratch' : Bytes) → Type 0
Ending s ws d zs out scratch r out' scratch' = (t : Term) (n : ℕ) → Finishes s ws d zs out (t, n) → Finished (t, n) out scratch r out' scratch'

module _ (s : Bytes) (ws : List Row) (d : Drafted) (zs : List Size) (out : Bytes) where
  abbrev used : List Row
  used = take d.used ws

  pub draft-asks : SomeDraft s ws d zs out → Countable used (length used) zs × (d.part < length used + 2)
  draft-asks (t, n, w) =
      let x = drafts-used w.part in
      (record { rows = x.rows; small = small-used w.part.rows w.small; room = omega (arith, used-long w.part.rows, w.sized) }, x.among)

  pub ends-over : (scratch : Bytes) → most_counter < d.counter → {r : Outcome Extraction} → r ≡ told (refuse CounterOver 0 0) → Ending s ws d zs out scratch r out scratch
  ends-over scratch h q t n w =
      finished (refuse CounterOver 0 0) (is-decided t n true (fits limits t) (lt-ltb most_counter n (omega (arith, w.counter))) refl) q refl refl

  module _ (h : d.counter ≤ most_counter) {b : Bool} (g' : (t : Term) → Drafts s used (length used) d.part t → b ≡ fits limits t) where
    g : (t : Term) → Drafts s ws d.used d.part t → b ≡ fits limits t
    g t x = g' t (drafts-used x)

    low : (t : Term) (n : ℕ) → Finishes s ws d zs out (t, n) → (most_counter <? n) ≡ false
    low t n w = le-ltb most_counter n (omega (arith, w.counter))

    pub ends-outgrown : (scratch : Bytes) → b ≡ false → {r : Outcome Extraction} → r ≡ told (refuse Outgrows 0 0) → {scratch' : Bytes}
        → scratch' ≡ sets scratch 0 (replicate (length scratch - 0) 0) → Ending s ws d zs out scratch r out scratch'
    ends-outgrown scratch z q k t n w =
        finished (refuse Outgrows 0 0) (is-decided t n false false (low t n w) (sym (g t w.part) ∙ z)) q refl (zeros scratch k)

    module _ (z : b ≡ true) where
      fit : (t : Term) → Drafts s ws d.used d.part t → fits limits t ≡ true
      fit t x = sym (g t x) ∙ z

      short : (t : Term) → Drafts s ws d.used d.part t → size t ≤ limits.bytes
      unfolding fits
      short t x = leb-true _ _ (both_true (nodes t ≤? limits.nodes) (size t ≤? limits.bytes) (fit t x)).1

      pub draft-writes : SomeDraft s ws d zs out → Small used (length used) × ((t : Term) × Writable s used (length used) d.part out 0 t)
      draft-writes (t, n, w) = (
        small-used w.part.rows w.small,
        (t, record { drafts = drafts-used w.part; legal = w.legal (omega (arith, w.counter)); room = omega (arith, short t w.part, w.room) }),
      )

      module _ {out₁ : Bytes} {end : ℕ} (p' : (t : Term) → Drafts s used (length used) d.part t → Wrote out 0 (encode t) out₁ end) where
        p : (t : Term) → Drafts s ws d.used d.part t → Wrote out 0 (encode t) out₁ end
        p t x = p' t (drafts-used x)

        pub end-within : SomeDraft s ws d zs out → end ≤ length out₁
        end-within (t, n, w) = let x = p t w.part in omega (arith, x.ends, wrote-length x, short t w.part, w.room)

        pub ends-made : (scratch : Bytes) {out₂ scratch' : Bytes} → out₂ ≡ sets out₁ end (replicate (length out₁ - end) 0)
            → scratch' ≡ sets scratch 0 (replicate (length scratch - 0) 0) → Ending s ws d zs out scratch (Ok (record { bytes = end; counter = d.counter })) out₂ scratch'
        ends-made scratch i j t n w =
            let x = p t w.part in
            let l : end ≡ size t = x.ends ∙ omega arith in
            finished (Ok (t, n)) (is-decided t n false true (low t n w) (fit t w.part))
            (ap (λ (k : ℕ). Ok (record { bytes = k; counter = d.counter })) l ∙ ap (λ (k : ℕ). Ok (record { bytes = size t; counter = k })) w.counter)
            (filled-up x i (omega (arith, short t w.part, w.room))) (zeros scratch j)
