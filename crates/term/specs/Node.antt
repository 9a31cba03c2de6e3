-- A term as a head (its tag and its names) and a row of parts: what a walk sees at a node.
-- Assumes nothing: these are definitions.
use Rattle.std.specs.Prelude.{ℕ, ◌+◌, ◌*◌, ◌/◌, ◌%◌, ◌^◌, Bool, false, ◌||◌, ◌==◌, if◌then◌else◌}
use Rattle.rules.specs.Name.{Name, same}
use Rattle.rules.specs.Term.{Term, var, leaf, one, two, abs, both, branch}
pub use Rattle.rules.specs.Term.{names}
pub use Rattle.laws.specs.size.Parts.{encode_all, tag, head}

-- the term is the variable x
abbrev pub is_var : Name → Term → Bool
is_var x (var y) = same x y
is_var x (leaf k) = false
is_var x (one k e) = false
is_var x (two k a b) = false
is_var x (abs y e) = false
is_var x (both k y z e b) = false
is_var x (branch y z e l r) = false

-- which parts a binder of the name x covers: 1 the first, 2 the second, 4 the third, added up
abbrev pub hides : Name → Term → ℕ
hides x (var y) = 0
hides x (leaf k) = 0
hides x (one k e) = 0
hides x (two k a b) = 0
hides x (abs y e) = if same x y then 1 else 0
hides x (both k y z e b) = if same x y || same x z then 2 else 0
hides x (branch y z e l r) = (if same x y then 2 else 0) + (if same x z then 4 else 0)

-- of the parts that are left, the first is covered; the others' mask is half of it
abbrev pub hidden : ℕ → Bool
hidden m = (m % 2) == 1

-- how many names and how many parts follow a tag, two bits a tag
abbrev pub packed : (numbers tag : ℕ) → ℕ
packed c k = c / 2 ^ (k * 2) % 4

abbrev pub names_after : ℕ → ℕ
names_after k = packed 34360264196 k

abbrev pub parts_after : ℕ → ℕ
parts_after k = packed 44380808832 k

-- 1 for a tag that one part follows and no name, 0 for any other, one bit a tag
abbrev pub single_part : ℕ → ℕ
single_part k = 63872 / 2 ^ (k % 32) % 2
