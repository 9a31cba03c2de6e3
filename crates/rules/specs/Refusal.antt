-- Refusals: a number, a place and which input (01, "Refusal numbers"); and what a call that may be refused comes to.
-- Assumes nothing: these are definitions.
use Rattle.std.specs.Prelude.{ℕ, Bool, ◌||◌, ◌==◌, Result, Ok, Err}
use Rattle.rules.specs.Basic.{◌≤?◌}
pub use Rattle.rules.specs.declared.Reason.{Reason}
pub use Rattle.rules.specs.declared.Reason.TheVariants.{ShortBuffer, InputTooLong, EndsInside, NotListed, BadName, OneTooMany, LeftOver, Outgrows, CounterOver, StoredLength, BlockCheck, BlockHead, UnusedNotZero, NoSuchChild, ReservedWord}
pub use Rattle.rules.specs.declared.Refusal.{Refusal}

-- the numbers of 01's table
abbrev pub number_of : Reason → ℕ
number_of ShortBuffer = 1
number_of InputTooLong = 2
number_of EndsInside = 3
number_of NotListed = 4
number_of BadName = 5
number_of OneTooMany = 6
number_of LeftOver = 7
number_of Outgrows = 8
number_of CounterOver = 9
number_of StoredLength = 10
number_of BlockCheck = 11
number_of BlockHead = 12
number_of UnusedNotZero = 13
number_of NoSuchChild = 14
number_of ReservedWord = 15

-- What a call comes to: what it answers, or its refusal.
abbrev pub Outcome : Type 0 → Type 0
Outcome A = Result A Refusal

-- The input is 1, 2 or 3 for 2 to 7 and 15, in the order of the arguments, 1 for 10 to 13, and 0 for a refusal that is about no one input.
abbrev pub refuse : {A : Type 0} → Reason → (place input : ℕ) → Outcome A
refuse n p i = Err (record { reason = n; place = p; input = i })

abbrev pub ◌>>=◌ : {A B : Type 0} → Outcome A → (A → Outcome B) → Outcome B
◌>>=◌ (Ok a) k = k a
◌>>=◌ (Err r) k = Err r

abbrev pub mapped : {A B : Type 0} → (A → B) → Outcome A → Outcome B
mapped f (Ok a) = Ok (f a)
mapped f (Err r) = Err r

-- Scratch is untouched by 1 to 7, 9 and 15 and all zeros otherwise: 2 to 7 and 15 come of reading, before any work.
abbrev pub spares_scratch : Reason → Bool
spares_scratch n = (number_of n ≤? 7) || ((number_of n == 9) || (number_of n == 15))
