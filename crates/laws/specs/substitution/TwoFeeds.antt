-- Two feeds are patched into one template, and either may go first (request (viii)): of the public call, answer and output, byte for byte.
-- Assumes nothing: these are definitions.
use Rattle.std.specs.Prelude.{ℕ, ◌≡◌, false, length, take, Ok}
use Rattle.rules.specs.Basic.{Bytes}
use Rattle.rules.specs.Limits.{Limits}
use Rattle.rules.specs.Refusal.{Outcome, mapped, ◌>>=◌}
use Rattle.rules.specs.Name.{same}
use Rattle.rules.specs.Buffers.{Worked}
use Rattle.rules.specs.Calls.{substitute_call}
use Rattle.laws.specs.substitution.NotFree.{NotFree}

-- a feed: the name that it has in the template, and what goes in there
pub record Feed : Type 0 where
  pub name : Bytes
  pub value : Bytes

-- what a call is lent, whatever stands in it
pub record Buffers : Type 0 where
  pub output : Bytes
  pub scratch : Bytes

-- The three conditions: two names, and neither is free in what goes in for the other.
pub record Apart (L : Limits) (f g : Feed) : Type 0 where
  pub names : same f.name g.name ≡ false
  pub first-not-in-second : NotFree L f.name g.value
  pub second-not-in-first : NotFree L g.name f.value

-- a feed put into a template by the public call
abbrev pub patched : Limits → Feed → (template : Bytes) → Buffers → Worked ℕ
patched L f t b = substitute_call L t f.name f.value b.output b.scratch

-- what a call that is not refused gives: its answer, which is the length of the term, and its output
abbrev pub given : Worked ℕ → Outcome (ℕ × Bytes)
given c = mapped (λ n. (n, c.output)) c.answer

-- f and then g, by two calls: the second is handed the term that the first left
abbrev pub in_order : Limits → (f g : Feed) → (template : Bytes) → (a b : Buffers) → Outcome (ℕ × Bytes)
in_order L f g t a b = do
  r ← given (patched L f t a)
  given (patched L g (take r.0 r.1) b)

-- THE ORDER OF TWO FEEDS: where neither order is refused, both answer the same, and leave the same bytes in outputs of the same length.
abbrev pub EitherFirst : Limits → (f g : Feed) → (template : Bytes) → Type 0
EitherFirst L f g t = (a b a' b' : Buffers) (r r' : ℕ × Bytes) → in_order L f g t a b ≡ Ok r → in_order L g f t a' b' ≡ Ok r' → length b.output ≡ length b'.output → r ≡ r'
