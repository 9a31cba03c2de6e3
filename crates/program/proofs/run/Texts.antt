-- The text of a term that can be read, and the line of the counts behind it: the printer's refusal is impossible, and both fit. Assumes nothing.
use Rattle.rules.specs.Refusal.{Outcome}
use Rattle.std.specs.Prelude.{Ok, Err}
use Prim.Native.Nat.{ℕ, ◌+◌, ◌-◌, ◌≤◌}
use mathlib.Core.Path.{◌≡◌, sym, ap, ◌∙◌}
use mathlib.Core.List.{◌∷◌}
use native.Mathlib.Omega.{arith}
use lib.ListN.{length, set, replicate}
use borrow.Author.Tests.{le-leb}
use Rattle.rules.specs.Basic.{Bytes, ◌‥◌}
use Rattle.rules.specs.Limits.{limits, text_room}
use Rattle.rules.specs.declared.Refusal.{Refusal}
use Rattle.rules.specs.Term.{Term}
use Rattle.rules.specs.Text.{text}
use Rattle.rules.specs.Calls.{text_call}
use Rattle.laws.specs.reading.Decoding.{TermIn, term-complete}
use Rattle.laws.specs.size.TextSize.{term-text-size}
use Rattle.buffer.specs.Writing.{chain}
use Rattle.program.specs.Field.{Line}
use Rattle.words.specs.Digits.{wrote_one}
use Rattle.program.specs.Printing.{printed_room}
use Rattle.program.specs.Starts.{Starts}
use Rattle.program.proofs.run.Starting.{starts-wrote, starts-append, starts-again}

module _ {term : Bytes} {t : Term} (w : TermIn limits term t) (out : Bytes) (room : printed_room limits ≤ length out) where
  -- the printer's answer and output
  abbrev Printed : Outcome ℕ → Bytes → Type 0
  Printed r o = (r ≡ (text_call limits term out).answer) × (o ≡ (text_call limits term out).output)

  prints : Printed (Ok (length (text t))) (text t ‥ replicate (length out - length (text t)) 0)
  unfolding text_call
  prints =
      let l = le-leb (text_room limits) (length out) (omega arith) in
      let e = term-complete limits 1 term t w in
      (rw (l, e), rw (l, e))

  module _ {r : Outcome ℕ} (says : r ≡ (text_call limits term out).answer) where
    tells : r ≡ Ok (length (text t))
    tells = says ∙ sym prints.0

    pub never-refused : {q : Refusal} → r ≡ Err q → ⊥
    never-refused e = let a = tells in let z : ◌≡◌ {A = ℕ} 0 1 = cc in omega arith

    module _ {end : ℕ} (e : r ≡ Ok end) where
      pub text-ends : end ≡ length (text t)
      text-ends = let a = tells in cc

      -- with room behind it for the line of the counts
      pub text-short : (end + 1 + 256 ≤ length out) × (end ≤ text_room limits)
      text-short =
          let e : end ≤ text_room limits = omega (arith, text-ends, term-text-size t, ap (λ (z : Bytes). length z) w.bytes, w.short, w.few) in
          (omega arith, e)

      module _ {out₁ : Bytes} (leaves : out₁ ≡ (text_call limits term out).output) (kept : length out₁ ≡ length out) where
        text-starts : Starts out₁ (text t) end
        text-starts = starts-append (text t) (replicate (length out - length (text t)) 0) (leaves ∙ sym prints.1) text-ends

        pub both-lines : {line out₂ : Bytes} {p : ℕ} → Line (set out₁ end 10) (end + 1) line 256 out₂ p → Starts out₂ (text t ‥ 10 ∷ line) p
        both-lines l =
            starts-wrote
            (chain (starts-again text-starts) (chain (wrote_one out₁ end 10) l.wrote))
            (omega (arith, l.most, text-short, kept))
