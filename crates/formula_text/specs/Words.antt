-- What the tags of formulas stand for: the word of each, and its shape. Assumes nothing: these are definitions.
use Rattle.std.specs.Prelude.{ℕ, ◌%◌, List, [], ◌∷◌, ◌||◌, get_or, if◌then◌else◌, ◌==◌}
use Rattle.rules.specs.Basic.{Bytes, say}
use Rattle.formula_text.specs.declared.shape.Shape.{Shape}
use Rattle.formula_text.specs.declared.shape.Shape.TheVariants.{Leaf, Exponential, Connective}

-- for each tag from 0 on, its word
abbrev pub words : List Bytes
words =
    [] ∷ [] ∷ say "⊥" ∷ say " ⊗ " ∷ say " ⅋ " ∷ say "1" ∷ say "⊥" ∷ say " & " ∷ say " ⊕ " ∷ say "⊤" ∷ say "0" ∷ say "!" ∷ say "?" ∷ say " ⊸ " ∷ [] ∷ [] ∷ []

abbrev pub sign_of : (tag : ℕ) → Bytes
sign_of k = get_or words (k % 16) []

-- for each tag from 0 on, its shape
abbrev pub shapes : List Shape
shapes =
    Leaf ∷ Leaf ∷ Leaf ∷ Connective ∷ Connective ∷ Leaf ∷ Leaf ∷ Connective ∷ Connective ∷ Leaf ∷ Leaf ∷ Exponential ∷ Exponential ∷ Connective ∷ Leaf ∷ Leaf ∷ []

abbrev pub shape_of : (tag : ℕ) → Shape
shape_of k = get_or shapes (k % 16) Leaf

-- how many names follow a tag
abbrev pub names_of : (tag : ℕ) → ℕ
names_of k = if k == 1 || k == 2 then 1 else 0

-- what stands before the parts of an exponential or a connective
abbrev pub opening_of : (tag : ℕ) → ℕ
opening_of k = if k == 11 then 33 else if k == 12 then 63 else 40
