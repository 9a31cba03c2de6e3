-- What the pair of readers tells in one number. Assumes nothing: these are definitions.
use Rattle.reader.specs.View.{fault}
use Rattle.std.specs.Prelude.{ℕ, ◌-◌, ◌/◌, ◌%◌, ◌≤◌, length, ◌==◌, if◌then◌else◌, Ok}
use Rattle.rules.specs.Basic.{Bytes, ◌<?◌}
use Rattle.rules.specs.Limits.{limits}
use Rattle.rules.specs.declared.Reason.{Reason}
use Rattle.rules.specs.declared.Reason.TheVariants.{ShortBuffer, InputTooLong, EndsInside, NotListed, BadName, OneTooMany, LeftOver, Outgrows, CounterOver, StoredLength, BlockCheck, BlockHead, UnusedNotZero, NoSuchChild, ReservedWord}
use Rattle.proof.specs.declared.reached.Reached.{Reached}
use Rattle.proof.specs.Seen.{reached_at, Reading}

-- from here on a number tells a fault
abbrev pub fault_from : ℕ
fault_from = 9223372036854775808

-- the reason of a number; of one that is none's, the last
abbrev pub reason_of : ℕ → Reason
reason_of n =
    if n == 1 then ShortBuffer
    else (if n == 2 then InputTooLong
    else (if n == 3 then EndsInside
    else (if n == 4 then NotListed
    else (if n == 5 then BadName
    else (if n == 6 then OneTooMany
    else (if n == 7 then LeftOver
    else (if n == 8 then Outgrows
    else (if n == 9 then CounterOver
    else (if n == 10 then StoredLength
    else (if n == 11 then BlockCheck
    else (if n == 12 then BlockHead
    else (if n == 13 then UnusedNotZero
    else (if n == 14 then NoSuchChild
    else ReservedWord)))))))))))))

-- the next place, and above it the rules and the formula nodes, each in sixteen bits; or a fault: the number of its reason in eight bits, and above it its place
abbrev pub told : ℕ → Reading
told r =
    if r <? fault_from then Ok (reached_at (r % 65536) (r / 65536 % 65536) (r / 4294967296))
    else fault (reason_of ((r - fault_from) % 256)) ((r - fault_from) / 256)

-- how far a reading of s has come at most, so that it can be told
pub record Far (s : Bytes) (q : Reached) : Type 0 where
  pub short : length s ≤ limits.bytes
  pub inside : q.next ≤ length s
  pub ruled : q.rules ≤ limits.rules
  pub formed : q.formulas ≤ limits.formulas
