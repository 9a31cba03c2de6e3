-- A node with a hole for a part that the search enters, and the nodes above a place. Assumes nothing: these are definitions.
use Rattle.std.specs.Prelude.{ℕ, List, [], ◌∷◌, ◌++◌}
use Rattle.rules.specs.Basic.{Bytes}
use Rattle.rules.specs.Name.{Name, encode_names}
use Rattle.rules.specs.Term.{Term, one, two, abs, both, branch, One, Two, Both, let_a_pair, one_tag, two_tag, both_tag}
use Rattle.term.specs.Node.{encode_all}

pub data Hole : Type 0 where
  in_one : One → Hole
  in_left : Two → (right : Term) → Hole
  in_right : Two → (left : Term) → Hole
  in_abs : Name → Hole
  in_source : Both → Name → Name → (body : Term) → Hole
  in_body : Name → Name → (source : Term) → Hole
  in_scrutinee : Name → Name → (left right : Term) → Hole

-- the node, of what stands in the hole
abbrev pub fill : Hole → Term → Term
fill (in_one k) t = one k t
fill (in_left k b) t = two k t b
fill (in_right k a) t = two k a t
fill (in_abs x) t = abs x t
fill (in_source k x y b) t = both k x y t b
fill (in_body x y e) t = both let_a_pair x y e t
fill (in_scrutinee x y l r) t = branch x y t l r

-- its tag and names, its parts before the hole, and those behind it
abbrev pub hole_tag : Hole → ℕ
hole_tag (in_one k) = one_tag k
hole_tag (in_left k b) = two_tag k
hole_tag (in_right k a) = two_tag k
hole_tag (in_abs x) = 5
hole_tag (in_source k x y b) = both_tag k
hole_tag (in_body x y e) = 4
hole_tag (in_scrutinee x y l r) = 9

abbrev pub hole_names : Hole → List Name
hole_names (in_one k) = []
hole_names (in_left k b) = []
hole_names (in_right k a) = []
hole_names (in_abs x) = x ∷ []
hole_names (in_source k x y b) = x ∷ y ∷ []
hole_names (in_body x y e) = x ∷ y ∷ []
hole_names (in_scrutinee x y l r) = x ∷ y ∷ []

abbrev pub passed : Hole → List Term
passed (in_one k) = []
passed (in_left k b) = []
passed (in_right k a) = a ∷ []
passed (in_abs x) = []
passed (in_source k x y b) = []
passed (in_body x y e) = e ∷ []
passed (in_scrutinee x y l r) = []

abbrev pub ahead : Hole → List Term
ahead (in_one k) = []
ahead (in_left k b) = b ∷ []
ahead (in_right k a) = []
ahead (in_abs x) = []
ahead (in_source k x y b) = b ∷ []
ahead (in_body x y e) = []
ahead (in_scrutinee x y l r) = l ∷ r ∷ []

-- the bytes before the hole, and those behind it
abbrev pub before : Hole → Bytes
before f = hole_tag f ∷ (encode_names (hole_names f) ++ encode_all (passed f))

abbrev pub behind : Hole → Bytes
behind f = encode_all (ahead f)

-- the nodes above a place, the nearest first; the whole term, and its bytes on the two sides of the place
abbrev pub Above : Type 0
Above = List Hole

abbrev pub plug : Above → Term → Term
plug [] t = t
plug (f ∷ c) t = plug c (fill f t)

abbrev pub lefts : Above → Bytes
lefts [] = []
lefts (f ∷ c) = lefts c ++ before f

abbrev pub rights : Above → Bytes
rights [] = []
rights (f ∷ c) = behind f ++ rights c
