-- What the rows of places hold. Assumes nothing: these are definitions.
use Rattle.std.specs.Prelude.{ℕ, ◌+◌, ◌*◌, ◌≤◌, ◌<◌, ◌≡◌, true, false, List, ◌∷◌, ◌++◌, length, get_or, take, drop, Option, Result, MatchOption, MatchResult}
use Rattle.rules.specs.Basic.{Bytes}
use Rattle.rules.specs.Name.{Name, encode_names, among}
use Rattle.rules.specs.Limits.{limits}
use Rattle.rules.specs.Free.{insert}
use Rattle.term.specs.Place.{NameAt}
use Rattle.free.specs.Ordered.{Ordered}
use Rattle.free.specs.Search.{at}

-- where the places of the binders end in a row; how many guesses stand behind them, and where the row ends
abbrev pub binders : ℕ
binders = 2 * limits.nodes

abbrev pub guesses : ℕ
guesses = 64

abbrev pub row_end : ℕ
row_end = binders + guesses

-- the first n places of a row are those of the names xs in s
pub record Held (s : Bytes) (row : List ℕ) (n : ℕ) (xs : List Name) : Type 0 where
  pub many : length xs ≡ n
  pub room : n ≤ length row
  pub each : (i : ℕ) → i < n → NameAt s (get_or row i 0) (at xs i)

-- the name x at p is sought among the names xs of a row, which stand in order
pub record Sought (s : Bytes) (p : ℕ) (row : List ℕ) (n : ℕ) (x : Name) (xs : List Name) : Type 0 where
  pub name : NameAt s p x
  pub held : Held s row n xs
  pub ordered : Ordered xs

-- x stands there already, or goes in there
abbrev pub Goes : Name → List Name → Result ℕ ℕ → Type 0
Goes x xs r =
    MatchResult r (λ i. (i < length xs) × (insert x xs ≡ xs))
    (λ i. (i ≤ length xs) × (insert x xs ≡ take i xs ++ x ∷ drop i xs))

-- the places from low on are those of the binders xs in s, the nearest first
pub record Passed (s : Bytes) (row : List ℕ) (low : ℕ) (xs : List Name) : Type 0 where
  pub many : low + length xs ≡ binders
  pub each : (i : ℕ) → i < length xs → NameAt s (get_or row (low + i) 0) (at xs i)

-- a search through the binders xs has found x there, or x is none of them
abbrev pub Scanned : Name → List Name → Option ℕ → Type 0
Scanned x xs r = MatchOption r (among x xs ≡ false) (λ i. (i < binders) × (among x xs ≡ true))

-- the row with p put in at i, and the entries from i to n moved up by one
pub record Opened (row row' : List ℕ) (n i p : ℕ) : Type 0 where
  pub below : (j : ℕ) → j < i → get_or row' j 0 ≡ get_or row j 0
  pub here : get_or row' i 0 ≡ p
  pub above : (j : ℕ) → i ≤ j → j < n → get_or row' (j + 1) 0 ≡ get_or row j 0
  pub beyond : (j : ℕ) → n < j → get_or row' j 0 ≡ get_or row j 0

-- the names of a row, as names, fit the output
pub record Writes (s : Bytes) (row : List ℕ) (n : ℕ) (out : Bytes) (xs : List Name) : Type 0 where
  pub held : Held s row n xs
  pub room : length (encode_names xs) ≤ length out
