-- A draft of a term: rows, in which a part is told by its number. Part 0 is Unit, part 1 is Trivial, and part 2 + i is what
-- row i says. A part can stand in several places and is written down once. Names are told by a stem and a number.
-- Assumes nothing: these are definitions.
use Rattle.std.specs.Prelude.{ℕ, zero, suc, ◌+◌, ◌/◌, ◌%◌, ◌<◌, ◌≤◌, ◌≡◌, List, [], ◌∷◌, length, get_or, take, drop}
use Rattle.rules.specs.Basic.{Bytes, decimal, ◌‥◌}
use Rattle.rules.specs.Name.{Name, lower}
use Rattle.rules.specs.Term.{Term, var, leaf, one, two, abs, both, branch, unit, trivial, One, inl, inr, promote, derelict, Two, pair, app, discard, let_a_pair, copy}
use Rattle.rules.specs.Extraction.{x}
use Rattle.draft.specs.declared.row.Row.{Row}
use Rattle.draft.specs.declared.row.RowKind.{RowKind}
use Rattle.draft.specs.declared.row.RowKind.TheVariants.{Named, Identity, Inl, Inr, Promote, Derelict, Pair, App, Discard, LetPair, Case, Copy}

-- a stem: `x`, or the lower-cased atom whose length byte stands at a place (not at 0, where a tag stands)
abbrev pub stem_at : Bytes → (place : ℕ) → Name
stem_at s zero = x
stem_at s (suc p) = lower (take (get_or s (suc p) 0) (drop (suc (suc p)) s))

-- behind it nothing, or one number less than is told
abbrev pub numbered : ℕ → Bytes
numbered zero = []
numbered (suc n) = decimal n

abbrev pub name_of : Bytes → (stem number : ℕ) → Name
name_of s p n = stem_at s p ‥ numbered n

-- the last two digits of a number
abbrev pub last_two : ℕ → Bytes
last_two n = (48 + n / 10 % 10) ∷ (48 + n % 10) ∷ []

-- `x` and a counter
abbrev pub x_name : ℕ → Name
x_name n = x ‥ decimal n

-- a row that was not written
abbrev pub no_row : Row
no_row = record { kind = Named; first = 0; second = 0; number = 0; stem = 0 }

abbrev pub row_at : List Row → ℕ → Row
row_at ws i = get_or ws i no_row

-- what rows say
pub data Shape : Type 0 where
  named identity discarding letting branching copying : Shape
  wrapping : One → Shape
  joining : Two → Shape

abbrev pub shape_of : RowKind → Shape
shape_of Named = named
shape_of Identity = identity
shape_of Inl = wrapping inl
shape_of Inr = wrapping inr
shape_of Promote = wrapping promote
shape_of Derelict = wrapping derelict
shape_of Pair = joining pair
shape_of App = joining app
shape_of Discard = discarding
shape_of LetPair = letting
shape_of Case = branching
shape_of Copy = copying

-- a row, once its parts are known
abbrev pub shaped : Bytes → Row → (part : ℕ → Term) → Shape → Term
shaped s r part named = var (name_of s r.stem r.number)
shaped s r part identity = abs (x_name r.number) (var (x_name r.number))
shaped s r part (wrapping k) = one k (part r.first)
shaped s r part (joining k) = two k (part r.first) (part r.second)
shaped s r part discarding = two discard (leaf unit) (part r.first)
shaped s r part letting = both let_a_pair (x_name r.number) (x_name (suc r.number)) (part r.first) (part r.second)
shaped s r part branching = branch (x_name r.number) (x_name (suc r.number)) (part r.first) (part r.second) (part r.second)
shaped s r part copying = both copy (x_name r.number) (x_name (suc r.number)) (var (x_name (suc (suc r.number)))) (part r.first)

-- the term that a part is; a row's parts come before it, so any depth over the part's number is enough
unfoldable pub drafted : (depth : ℕ) → Bytes → List Row → (part : ℕ) → Term
drafted zero s ws i = leaf unit
drafted (suc d) s ws zero = leaf unit
drafted (suc d) s ws (suc zero) = leaf trivial
drafted (suc d) s ws (suc (suc i)) = shaped s (row_at ws i) (drafted d s ws) (shape_of (row_at ws i).kind)

-- the first n rows stand in the list, and the parts of each come before it
pub record Rows (ws : List Row) (n : ℕ) : Type 0 where
  pub room : n ≤ length ws
  pub firsts : (i : ℕ) → i < n → (row_at ws i).first < i + 2
  pub seconds : (i : ℕ) → i < n → (row_at ws i).second < i + 2

-- part i of the n rows is the term t
pub record Drafts (s : Bytes) (ws : List Row) (n i : ℕ) (t : Term) : Type 0 where
  pub rows : Rows ws n
  pub among : i < n + 2
  pub is : (d : ℕ) → i < d → drafted d s ws i ≡ t
