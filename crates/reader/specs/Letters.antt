-- How many of some bytes may follow in a name. Assumes nothing: these are definitions.
use Rattle.std.specs.Prelude.{ℕ, zero, suc, ◌+◌, Bool, get_or, if◌then◌else◌}
use Rattle.rules.specs.Basic.{Bytes}
use Rattle.rules.specs.Name.{follows}

abbrev pub one : Bool → ℕ
one b = if b then 1 else 0

-- of the k bytes of s from a place on
unfoldable pub letters_from : Bytes → (at k : ℕ) → ℕ
letters_from s at zero = 0
letters_from s at (suc k) = one (follows (get_or s at 0)) + letters_from s (at + 1) k
