-- What stands at the start of a buffer: from a write, and with zeros behind it. By the laws of writes. Assumes nothing.
use Prim.Native.Nat.{ℕ, ◌+◌, ◌-◌, ◌≤◌}
use mathlib.Core.Path.{◌≡◌, sym, ap, ◌∙◌}
use mathlib.Core.List.{◌++◌}
use mathlib.Core.Option.{some}
use native.Mathlib.Omega.{arith}
use lib.ListN.{length, take, drop, replicate, length-take, take-append-drop}
use lib.Seq.{sets, sets-eq, take_at}
use Rattle.rules.specs.Basic.{Bytes}
use Rattle.rules.specs.Buffers.{filled}
use Rattle.buffer.specs.Wrote.{Wrote}
use Rattle.buffer.specs.Writing.{filled-up}
use Rattle.program.specs.Field.{Line}
use Rattle.program.specs.Starts.{Starts}

-- what was written from the start
pub starts-wrote : {out out₁ xs : Bytes} {r : ℕ} → Wrote out 0 xs out₁ r → r ≤ length out → Starts out₁ xs r
starts-wrote {out} {out₁} {xs} {r} w h =
    record {
      holds = ap (λ (z : Bytes). take r z) (w.holds ∙ sets-eq xs out 0 (omega (arith, w.ends))) ∙ take_at xs (drop (0 + length xs) out) r (omega (arith, w.ends));
      ends = w.ends ∙ omega arith;
    }

pub starts-line : {out out₁ line : Bytes} {long r : ℕ} → Line out 0 line long out₁ r → long ≤ length out → Starts out₁ line r
starts-line l h = starts-wrote l.wrote (omega (arith, l.most))

pub starts-as : {out xs ys : Bytes} {r : ℕ} → ys ≡ xs → Starts out xs r → Starts out ys r
starts-as e s = rw e s

-- a list and what follows it
pub starts-append : {out : Bytes} (xs rest : Bytes) {r : ℕ} → out ≡ xs ++ rest → r ≡ length xs → Starts out xs r
starts-append xs rest {r} e h = record { holds = ap (λ (z : Bytes). take r z) e ∙ take_at xs rest r (sym h); ends = h }

module _ {out xs : Bytes} {r : ℕ} (s : Starts out xs r) where
  pub starts-inside : r ≤ length out
  starts-inside = omega (arith, length-take r out, ap (λ (z : Bytes). length z) s.holds, s.ends)

  -- to write it again changes nothing
  pub starts-again : Wrote out 0 xs out r
  starts-again =
      let h = starts-inside in
      let e : 0 + length xs ≡ r = omega (arith, s.ends) in
      record {
        holds =
            sym
            (sets-eq xs out 0 (omega arith) ∙ ap (λ (k : ℕ). xs ++ drop k out) e ∙ ap (λ (z : Bytes). z ++ drop r out) (sym s.holds) ∙ take-append-drop r out);
        ends = sym e;
      }

  pub starts-filled : (out₀ : Bytes) {out₂ : Bytes} → length out ≡ length out₀ → out₂ ≡ sets out r (replicate (length out - r) 0) → out₂ ≡ filled out₀ (some xs)
  starts-filled out₀ l e = filled-up starts-again e (omega (arith, starts-inside, s.ends)) ∙ ap (λ (k : ℕ). xs ++ replicate (k - length xs) 0) l
