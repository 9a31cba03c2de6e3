-- A body with a value in the place of some of its runs, and what `splice` promises of it. Assumes nothing: these are definitions.
use Rattle.std.specs.Prelude.{ℕ, ◌+◌, ◌≤◌, ◌≡◌, List, [], ◌∷◌, length}
use Rattle.std.proofs.Math.Seq.{slice}
use Rattle.rules.specs.Basic.{Bytes, ◌‥◌}
use Rattle.buffer.specs.Wrote.{Wrote}
use Rattle.substitution.specs.declared.tally.Tally.{Tally}

-- s from `from` to `end`, with v for the `gap` bytes at each place
unfoldable pub spliced : (s v : Bytes) (gap from : ℕ) → List ℕ → (end : ℕ) → Bytes
spliced s v gap from [] end = slice from end s
spliced s v gap from (p ∷ ps) end = slice from p s ‥ v ‥ spliced s v gap (p + gap) ps end

-- the places ascend from `from` on, each `gap` bytes at least before the next and before `end`
abbrev pub Spaced : (gap from : ℕ) → List ℕ → (end : ℕ) → Type 0
Spaced gap from [] end = from ≤ end
Spaced gap from (p ∷ ps) end = (from ≤ p) × Spaced gap (p + gap) ps end

-- v can go in at the places ps of s, and there is room for what comes of it
pub record Splicing (s : Bytes) (ps : List ℕ) (gap : ℕ) (v out : Bytes) : Type 0 where
  pub spaced : Spaced gap 0 ps (length s)
  pub room : length (spliced s v gap 0 ps (length s)) ≤ length out

-- what comes of it is written, and what was moved for it: one run of s more than there are places, and v once for each
pub record Splices (s : Bytes) (ps : List ℕ) (gap : ℕ) (v out out' : Bytes) (t : Tally) : Type 0 where
  pub written : Wrote out 0 (spliced s v gap 0 ps (length s)) out' t.past
  pub read : t.read ≡ length s
  pub runs : t.runs ≡ length ps + 1
  pub values : t.values ≡ length ps
