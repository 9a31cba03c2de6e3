-- Lists of bytes: each number is below 256, as the numbers of a slice are.
-- Assumes nothing.
use Rattle.std.specs.Prelude.{ℕ, suc, ◌<◌, [], ◌∷◌, ◌++◌, get_or}
use Rattle.rules.specs.Basic.{Bytes}

abbrev pub Octets : Bytes → Type 0
Octets [] = Unit {0}
Octets (b ∷ s) = (b < 256) × Octets s

-- from what a slice says of its elements
pub octets : (s : Bytes) → ((i : ℕ) → get_or s i 0 < 256) → Octets s
octets [] h = tt
octets (b ∷ s) h = (h 0, octets s (λ i. h (suc i)))

pub octets-after : (a s : Bytes) → Octets (a ++ s) → Octets s
octets-after [] s o = o
octets-after (b ∷ a) s o = octets-after a s o.1
