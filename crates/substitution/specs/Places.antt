-- The places where a name is free in a term, and the row that has room for them. Assumes nothing: these are definitions.
use Rattle.std.specs.Prelude.{ℕ, ◌+◌, ◌/◌, ◌≤◌, ◌≡◌, ◌||◌, List, [], ◌∷◌, length, take, if◌then◌else◌}
use Rattle.rules.specs.Basic.{Bytes, ◌‥◌}
use Rattle.rules.specs.Limits.{limits}
use Rattle.rules.specs.Name.{Name, same}
use Rattle.rules.specs.Term.{Term, var, leaf, one, two, abs, both, branch, size}
use Rattle.rules.specs.Step.{name_bytes}
use Rattle.term.specs.Node.{hidden}
use Rattle.term.specs.Place.{TermAt}

-- of a term that starts at `at`, from the left
unfoldable pub places : Name → Term → (at : ℕ) → List ℕ
places x (var y) at = if same x y then at ∷ [] else []
places x (leaf k) at = []
places x (one k e) at = places x e (at + 1)
places x (two k a b) at = places x a (at + 1) ‥ places x b (at + 1 + size a)
places x (abs y e) at = if same x y then [] else places x e (at + 1 + name_bytes y)
places x (both k y z e b) at =
    places x e (at + 1 + name_bytes y + name_bytes z)
    ‥ (if same x y || same x z then [] else places x b (at + 1 + name_bytes y + name_bytes z + size e))
places x (branch y z e l r) at =
    places x e (at + 1 + name_bytes y + name_bytes z)
    ‥ (if same x y then [] else places x l (at + 1 + name_bytes y + name_bytes z + size e))
    ‥ (if same x z then [] else places x r (at + 1 + name_bytes y + name_bytes z + size e + size l))

-- unless the mask's lowest bit hides the term
abbrev pub open_places : Name → (mask : ℕ) → Term → (at : ℕ) → List ℕ
open_places x m t at = if hidden m then [] else places x t at

-- of terms in a row, but for those that the mask hides
abbrev pub places_all : Name → (mask : ℕ) → List Term → (at : ℕ) → List ℕ
places_all x m [] at = []
places_all x m (t ∷ ts) at = open_places x m t at ‥ places_all x (m / 2) ts (at + size t)

-- a row lent for places: as many as a term may have nodes
abbrev pub Row : List ℕ → Type 0
Row row = length row ≡ limits.nodes

-- the first `count` of a row are ps
pub record Held (row : List ℕ) (count : ℕ) (ps : List ℕ) : Type 0 where
  pub are : take count row ≡ ps
  pub inside : count ≤ length row

-- a term stands at `at`, and there is room for its places from `to` on
pub record Finding (s : Bytes) (at mask : ℕ) (x : Name) (row : List ℕ) (to : ℕ) : Type 0 where
  pub term : Term
  pub stands : TermAt s at term
  pub short : length s ≤ limits.bytes
  pub room : to + length (open_places x mask term at) ≤ limits.nodes
  pub long : Row row
