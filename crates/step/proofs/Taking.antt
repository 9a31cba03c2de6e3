-- What the answer of a step says of the step: by cases on it. Assumes nothing.
use mathlib.Core.Path.{◌≡◌, refl, ap, ◌∙◌}
use mathlib.Core.Bool.{Bool, true, false}
use mathlib.Core.Option.{Option}
use lib.Seq.{sets}
use Rattle.std.specs.Prelude.{if◌then◌else◌, Ok}
use Rattle.rules.specs.Basic.{Bytes}
use Rattle.rules.specs.Limits.{limits}
use Rattle.rules.specs.Term.{Term, encode, size, fits}
use Rattle.rules.specs.Step.{Stepped, normal, found, half_fits, step_fits}
use Rattle.laws.specs.free.Same.{both_true}
use Rattle.rules.specs.Refusal.{Outcome, refuse}
use Rattle.rules.specs.declared.Reason.TheVariants.{Outgrows}
use Rattle.rules.specs.Buffers.{answers, writes_nothing, filled}
use Rattle.rules.specs.Calls.{Found, step_ending}
use Rattle.step.specs.Answers.{step_answered}
use Rattle.step.specs.Taken.{written_of}
use Rattle.step.specs.declared.Found.{Found as FoundStep}
use Rattle.step.specs.declared.Stepped.{Stepped as Answered}
use Rattle.step.specs.declared.Stepped.TheVariants.{Found as IsFound}

-- a step as it was told, whose result fits
pub record Fitted (s : Stepped) (k : FoundStep) : Type 0 where
  pub half : Option Term
  pub result : Term
  pub is : s ≡ found k.rule k.place half result
  pub tested : step_fits limits half result ≡ true
  pub long : k.length ≡ size result
  pub fits : fits limits result ≡ true

pub took : (s : Stepped) {k : FoundStep} → step_answered (step_ending limits s).says ≡ Ok (IsFound k) → Fitted s k
took normal e = absurd (cc)
took (found r p h t) {k} e = go (step_fits limits h t) refl e
  where
    go : (b : Bool) → step_fits limits h t ≡ b → step_answered (if b then answers (Found r p (size t)) (encode t) else writes_nothing (refuse Outgrows 0 0)).says ≡ Ok (IsFound k) → Fitted (found r p h t) k
    go true q d =
        let a : record { rule = r; place = p; length = size t } ≡ k = cc in
        rw (← a)
        (record {
          half = h;
          result = t;
          is = refl;
          tested = q;
          long = refl;
          fits = (both_true (half_fits limits h) (fits limits t) q).1;
        })
    go false q d = absurd (cc)

-- and what it writes
pub writes : {s : Stepped} {k : FoundStep} (f : Fitted s k) (out : Bytes) → written_of s out ≡ sets out 0 (encode f.result)
writes f out = ap (λ (z : Stepped). written_of z out) f.is ∙ rw f.tested

-- what writes nothing leaves nothing to clear
pub idle : (s : Stepped) (out : Bytes) {r : Outcome Answered} → r ≡ step_answered (step_ending limits s).says → ((k : FoundStep) → r ≡ Ok (IsFound k) → ⊥) → written_of s out ≡ filled out (step_ending limits s).writes
idle normal out e n = refl
idle (found r p h t) out e n = go (step_fits limits h t) refl
  where
    go : (b : Bool) → step_fits limits h t ≡ b → written_of (found r p h t) out ≡ filled out (step_ending limits (found r p h t)).writes
    go true q = absurd (n _ (rw q at e))
    go false q = rw q
