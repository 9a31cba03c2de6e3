-- What a splice counts as it moves: nothing at first, then one run or one value more at a time. Assumes nothing: these are definitions.
use Rattle.std.specs.Prelude.{ℕ, ◌+◌, ◌≡◌}
use Rattle.std.proofs.Math.Seq.{slice}
use Rattle.rules.specs.Basic.{Bytes}
use Rattle.rules.specs.Name.{Name}
use Rattle.rules.specs.Term.{Term, size}
use Rattle.rules.specs.Free.{occurrences}
use Rattle.rules.specs.Substitution.{subst}
use Rattle.buffer.specs.Wrote.{Wrote}
use Rattle.substitution.specs.declared.tally.Tally.{Tally}

pub record NothingYet (t : Tally) : Type 0 where
  pub read : t.read ≡ 0
  pub past : t.past ≡ 0
  pub runs : t.runs ≡ 0
  pub values : t.values ≡ 0

-- the body up to `end`, as one run more, behind what was written
pub record OneRun (body : Bytes) (end : ℕ) (out out' : Bytes) (t t' : Tally) : Type 0 where
  pub written : Wrote out t.past (slice t.read end body) out' t'.past
  pub read : t'.read ≡ end
  pub runs : t'.runs ≡ t.runs + 1
  pub values : t'.values ≡ t.values

-- the value once more, for the next `gap` bytes of the body
pub record OneValue (value : Bytes) (gap : ℕ) (out out' : Bytes) (t t' : Tally) : Type 0 where
  pub written : Wrote out t.past value out' t'.past
  pub read : t'.read ≡ t.read + gap
  pub runs : t'.runs ≡ t.runs
  pub values : t'.values ≡ t.values + 1

-- what is moved for v in the place of x in e: all of e is gone over, one run of it more than x is free in it, and v once for each
abbrev pub moved : Name → (v e : Term) → Tally
moved x v e = record { read = size e; past = size (subst x v e); runs = occurrences x e + 1; values = occurrences x e }

-- what is moved for one after the other
abbrev pub then_moved : (first second : Tally) → Tally
then_moved a b = record { read = b.read; past = b.past; runs = a.runs + b.runs; values = a.values + b.values }
