-- What the calls about a child answer, in the code's types. Assumes nothing: these are definitions.
use Rattle.std.specs.Prelude.{ℕ, ◌+◌, ◌≡◌, Option, Some, None}
use Rattle.std.proofs.Math.Option.{Option as Perhaps, none, some}
use Rattle.std.specs.Borrow.{Bor}
use Rattle.rules.specs.Basic.{Bytes}
use Rattle.rules.specs.declared.Refusal.{Refusal}

-- nothing is wrong, or a refusal
abbrev pub told : Perhaps Refusal → Option Refusal
told none = None
told (some r) = Some r

-- r is a part of the bytes s themselves: in the same memory, and so many bytes behind where s starts
abbrev pub StartsIn : (s : Bor Bytes) (start : ℕ) (r : Bor Bytes) → Type 0
StartsIn s n r = (r.ref_ptr.0 ≡ s.ref_ptr.0) × (r.ref_ptr.1 ≡ s.ref_ptr.1 + n)
