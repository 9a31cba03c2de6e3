-- What the tags of terms stand for: the words that a tag chooses. Assumes nothing: these are definitions.
use Rattle.std.specs.Prelude.{ℕ, List, [], ◌∷◌, get_or}
use Rattle.rules.specs.Basic.{Bytes, say}

-- for each tag from 0 on, its word: a pair's and an application's stands between their parts
abbrev pub words : List Bytes
words =
    [] ∷ [] ∷ say "()" ∷ say ", " ∷ [] ∷ [] ∷ say " " ∷ say "inl " ∷ say "inr " ∷ [] ∷ say "⟨⟩" ∷ say "fst " ∷ say "snd " ∷ say "absurd " ∷ say "!" ∷ say "derelict " ∷ []

abbrev pub sign_of : (tag : ℕ) → Bytes
sign_of k = get_or words k []
