-- A node that is no redex, by its tag and what stands where its names end. Assumes nothing: these are definitions.
use Rattle.std.specs.Prelude.{ℕ, ◌/◌, ◌%◌, ◌^◌, ◌≡◌, false, get_or}
use Rattle.rules.specs.Basic.{Bytes}
use Rattle.redex.specs.Searched.{reduces}

-- 1 for the tags of nodes that some first part makes a redex, one bit a tag
abbrev pub wanting : ℕ → ℕ
wanting k = 236112 / 2 ^ k % 2

-- nothing is asked of a node with one name, a Var or an Abs, nor of one that is never a redex
abbrev pub CalmAt : Bytes → (tag names past : ℕ) → Type 0
CalmAt s k n p = (n ≡ 1 → ⊥) → (wanting k ≡ 0 → ⊥) → reduces k (get_or s p 0) ≡ false
