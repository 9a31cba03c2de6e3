-- What the search for the first redex goes by, and what it hands back. Assumes nothing: these are definitions.
use Rattle.std.specs.Prelude.{ℕ, ◌+◌, ◌*◌, ◌/◌, ◌%◌, ◌^◌, Bool, ◌==◌, Result, Ok, Err, if◌then◌else◌}
use Rattle.std.proofs.Math.Option.{Option, none, some}
use Rattle.rules.specs.Term.{Term, size}
use Rattle.term.specs.Node.{packed}
use Rattle.redex.specs.Spot.{Spot, spot}

-- how many parts are entered, two bits a tag
abbrev pub enters_after : ℕ → ℕ
enters_after k = packed 27133306496 k

-- three bits a tag
abbrev pub packed3 : (numbers tag : ℕ) → ℕ
packed3 c k = c / 2 ^ (k * 3) % 8

-- what a node wants its first part to be: 1 Pair, 2 Abs, 3 Inl or Inr, 4 Promote, 7 nothing that there is; and what a part is
abbrev pub wants : ℕ → ℕ
wants k = packed3 10308556627353599 k

abbrev pub gives : ℕ → ℕ
gives j = packed3 17592242733568 j

-- a node with the tag k, whose first part has the tag j, is a redex
abbrev pub reduces : (k j : ℕ) → Bool
reduces k j = wants k == gives j

-- the place of the spot, or else the place after the n bytes at `at`
abbrev pub sought_at : (at n : ℕ) → Option Spot → Result ℕ ℕ
sought_at at n none = Err (at + n)
sought_at at n (some q) = Ok (at + q.place)

abbrev pub sought : (at : ℕ) → Term → Result ℕ ℕ
sought at t = sought_at at (size t) (spot t)

-- what a number tells: twice the place, and one more where a redex is there
abbrev pub told : ℕ → Result ℕ ℕ
told r = if r % 2 == 1 then Ok (r / 2) else Err (r / 2)
