-- The runs of a term's bytes that a substitution moves, and the parts of the term (02, request (x): "move a part that has no free occurrence of
-- the name as one run of bytes"). Assumes nothing: these are definitions.
use Rattle.std.specs.Prelude.{ℕ, ◌+◌, ◌/◌, ◌≤◌, ◌≡◌, Bool, false, ◌||◌, List, [], ◌∷◌, length, if◌then◌else◌}
use Rattle.std.proofs.Math.Seq.{slice}
use Rattle.rules.specs.Basic.{Bytes, ◌‥◌}
use Rattle.rules.specs.Name.{Name}
use Rattle.rules.specs.Term.{Term, encode, size, parts}
use Rattle.rules.specs.Free.{occurrences}
use Rattle.rules.specs.Substitution.{subst}
use Rattle.buffer.specs.Wrote.{Wrote}
use Rattle.term.specs.Node.{head, encode_all, hides, hidden}
use Rattle.substitution.specs.Places.{places}
use Rattle.substitution.specs.declared.tally.Tally.{Tally}

-- a run of bytes: its first, and the place after its last
pub record Run : Type 0 where
  pub from : ℕ
  pub end : ℕ

-- the runs between the places: up to each of them from behind the one before, and one last
unfoldable pub runs : (gap from : ℕ) → List ℕ → (end : ℕ) → List Run
runs gap from [] end = record { from = from; end = end } ∷ []
runs gap from (p ∷ ps) end = record { from = from; end = p } ∷ runs gap (p + gap) ps end

-- these runs of s in turn, with v between each two
unfoldable pub joined_runs : (s v : Bytes) → List Run → Bytes
joined_runs s v [] = []
joined_runs s v (r ∷ []) = slice r.from r.end s
joined_runs s v (r ∷ q ∷ rs) = slice r.from r.end s ‥ v ‥ joined_runs s v (q ∷ rs)

-- the bytes from i to j lie inside one of the runs
pub data InOneRun (i j : ℕ) : List Run → Type 0 where
  this : (r : Run) (rs : List Run) → r.from ≤ i → j ≤ r.end → InOneRun i j (r ∷ rs)
  later : (r : Run) (rs : List Run) → InOneRun i j rs → InOneRun i j (r ∷ rs)

-- the mask of what stands behind these parts
abbrev pub mask_behind : (mask : ℕ) → List Term → ℕ
mask_behind m [] = m
mask_behind m (t ∷ ts) = mask_behind (m / 2) ts

-- u is a part of t, at any depth, i bytes behind its start; c tells whether a binder of x covers it there
pub data PartOf (x : Name) : (t : Term) → (i : ℕ) → (c : Bool) → (u : Term) → Type 0 where
  itself : (t : Term) → PartOf x t 0 false t
  below : (t : Term) (left : List Term) (p : Term) (right : List Term) {i : ℕ} {c : Bool} {u : Term} → parts t ≡ left ‥ p ∷ right → PartOf x p i c u
      → PartOf x t (length (head t) + (length (encode_all left) + i)) (hidden (mask_behind (hides x t) left) || c) u

-- how often x is replaced in such a part
abbrev pub replaced_in : Name → (covered : Bool) → Term → ℕ
replaced_in x c u = if c then 0 else occurrences x u

-- the runs of t between the places where x is free in it
abbrev pub runs_of : Name → Term → List Run
runs_of x t = runs (2 + length x) 0 (places x t 0) (size t)

-- What is moved for v in the place of x in t: the runs of t in turn, with v between each two, and nothing else. They are one more than x is
-- free in t, and each part of t in which nothing is replaced lies inside one of them.
pub record MovesRuns (x : Name) (v t : Term) (out out' : Bytes) (y : Tally) : Type 0 where
  pub written : Wrote out 0 (joined_runs (encode t) (encode v) (runs_of x t)) out' y.past
  pub result : joined_runs (encode t) (encode v) (runs_of x t) ≡ encode (subst x v t)
  pub runs : y.runs ≡ length (runs_of x t)
  pub values : y.values ≡ occurrences x t
  pub many : length (runs_of x t) ≡ occurrences x t + 1
  pub whole : {i : ℕ} {c : Bool} {u : Term} → PartOf x t i c u → replaced_in x c u ≡ 0 → InOneRun i (i + size u) (runs_of x t)
