-- Names beside the words: as what a name is compared, and words of one length in a row.
-- Assumes nothing: these are definitions.
use Rattle.std.specs.Prelude.{ℕ, ◌≡◌, List, [], ◌∷◌, length, take, drop}
use Rattle.rules.specs.Basic.{Bytes}
use Rattle.rules.specs.Name.{Name, lower_of, lower, Spelling}
use Rattle.reader.specs.Form.{Form, Term, Formula, layout_of}

abbrev pub spelling_of : Form → Spelling
spelling_of f = (layout_of f).spelling

-- a name is compared as it is, an atom in lower case
abbrev pub byte_compared : Form → ℕ → ℕ
byte_compared Term b = b
byte_compared Formula b = lower_of b

abbrev pub compared : Form → Name → Name
compared Term x = x
compared Formula x = lower x

-- words of n letters, one after the other
abbrev pub InRow : ℕ → List Name → Bytes → Type 0
InRow n [] s = s ≡ []
InRow n (w ∷ ws) s = (length w ≡ n) × (take n s ≡ w) × InRow n ws (drop n s)
