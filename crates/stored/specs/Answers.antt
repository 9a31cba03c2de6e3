-- What a call leaves after success, and what the reading of content answers. Assumes nothing: these are definitions.
use Rattle.std.specs.Prelude.{ℕ, ◌≡◌, refl, length, Ok, Err}
use Rattle.std.proofs.Math.Option.{some}
use Rattle.rules.specs.Basic.{Bytes}
use Rattle.rules.specs.Refusal.{Outcome, mapped}
use Rattle.rules.specs.Buffers.{filled}

-- out' is out with s, then zeros, and the answer is the length of s
pub record Filled (out s out' : Bytes) (r : Outcome ℕ) : Type 0 where
  pub output : out' ≡ filled out (some s)
  pub answer : r ≡ Ok (length s)

-- accepted, or refused
abbrev pub accepted : Outcome ℕ → Outcome (Unit {0})
accepted (Ok n) = Ok tt
accepted (Err r) = Err r

pub accepted-answered : {A : Type 0} (count : A → ℕ) (o : Outcome A) → mapped (λ (_ : A). tt {0}) o ≡ accepted (mapped count o)
accepted-answered count (Ok a) = refl
accepted-answered count (Err r) = refl
