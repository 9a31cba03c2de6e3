-- Words that are not names: which names and atoms are refused by 15, where, what comes before it, and that every call which reads meets it.
-- One table, computed at small limits.
use Prim.Native.Nat.{ℕ}
use Prim.Native.String.{String}
use mathlib.Core.Path.{◌≡◌, refl}
use mathlib.Core.List.{List, [], ◌∷◌, map}
use Rattle.rules.specs.Basic.{Bytes, say, ◌‥◌}
use Rattle.rules.specs.Formula.{atom, plain, encode_formula}
use Rattle.rules.specs.Term.{encode}
use Rattle.rules.specs.declared.Kind.TheVariants.{Term as a_term, Proof as a_proof}
use Rattle.rules.proofs.Notation.{v, hex, repeat, wrong}
use Rattle.rules.proofs.Called.{Row, right, ◌⟹◌⟫◌, free_vars, prints, prints_formula, substitutes, steps, reduces, is_normal_term, is_straight_term, locates, child, extracts, stores, loads, untouched, counts, refuses◌at◌of◌}
use Rattle.rules.proofs.Faults.{term◌⟹◌, formula◌⟹◌, proof◌⟹◌}

-- the words, from the request and not from specs/
abbrev pub requested : List String
requested = "let" ∷ "in" ∷ "case" ∷ "of" ∷ "inl" ∷ "inr" ∷ "fst" ∷ "snd" ∷ "absurd" ∷ "derelict" ∷ "copy" ∷ "as" ∷ "discard" ∷ []

-- as a variable and as an atom
abbrev pub variable : String → Bytes
variable x = encode (v x)

abbrev pub an_atom : String → Bytes
an_atom x = encode_formula (atom plain (say x))

abbrev pub name? : (answer : List ℕ) → String → Row
name? a x = term variable x ⟹ a

abbrev pub atom? : (answer : List ℕ) → String → Row
atom? a x = formula an_atom x ⟹ a

abbrev pub a_word : List ℕ
a_word = refuses 15 at 2 of 1

abbrev pub allowed : List ℕ
allowed = counts 1

-- Promote of the variable `in`: 15 at 3
abbrev pub wordy : Bytes
wordy = hex "0e 01 02 696e"

-- Cut of the atom `Of`: 15 at 3
abbrev pub wordy_proof : Bytes
wordy_proof = hex "02 01 02 4f66 00 00"

abbrev pub table : List Row
table =
    map (name? a_word) requested ‥ map (atom? a_word) requested
    -- a name as it is, an atom in lower case
    ‥ map (name? allowed) ("Let" ∷ "In" ∷ "IN" ∷ "OF" ∷ "Derelict" ∷ [])
    ‥ map (atom? a_word) ("Let" ∷ "In" ∷ "IN" ∷ "iN" ∷ "OF" ∷ "oF" ∷ "DereLict" ∷ "DISCARD" ∷ [])
    -- nearly words
    ‥ map (name? allowed) ("i" ∷ "in1" ∷ "in_" ∷ "inn" ∷ "_in" ∷ "le" ∷ "lets" ∷ "absur" ∷ "derelicts" ∷ "x" ∷ [])
    ‥ map (atom? allowed) ("I" ∷ "IN1" ∷ "In_" ∷ "Inn" ∷ "_In" ∷ "LE" ∷ "Lets" ∷ "Absur" ∷ "Derelicts" ∷ "X" ∷ [])
    -- at the first letter; from the left; after 3 and 5
    ‥ (term hex "04 0178 02 696e" ⟹ refuses 15 at 4 of 1)
    ∷ (term hex "04 02 696e 00" ⟹ refuses 15 at 2 of 1)
    ∷ (term hex "04 00 02 696e" ⟹ refuses 5 at 1 of 1)
    ∷ (term hex "03 12 0102 696e" ⟹ refuses 4 at 1 of 1)
    ∷ (term hex "03 0102 696e 12" ⟹ refuses 15 at 3 of 1)
    ∷ (term hex "01 03 696e" ⟹ refuses 3 at 4 of 1)
    ∷ (term hex "01 03 696e2d" ⟹ refuses 5 at 4 of 1)
    ∷ (term hex "01 02 696e 00" ⟹ refuses 15 at 2 of 1)
    ∷ (formula hex "03 05 02 02 4966" ⟹ counts 3)
    ∷ (formula hex "03 05 02 02 4f66" ⟹ refuses 15 at 4 of 1)
    -- in Cut, in `linear`, in a premise that is not visited
    ∷ (proof wordy_proof ⟹ refuses 15 at 3 of 1)
    ∷ (proof hex "03 02 05 01 02 4f66 00" ⟹ refuses 15 at 5 of 1)
    ∷ (proof hex "03 00 01 01 01 02 02 4f66 00" ⟹ refuses 15 at 7 of 1)
    -- every call that reads: output and scratch stay untouched
    ∷ (free_vars 90 wordy ⟹ refuses 15 at 3 of 1 ⟫ untouched ∷ [])
    ∷ (prints 450 wordy ⟹ refuses 15 at 3 of 1 ⟫ untouched ∷ [])
    ∷ (prints_formula 110 (an_atom "As") ⟹ refuses 15 at 2 of 1 ⟫ untouched ∷ [])
    ∷ (substitutes 90 180 wordy [] [] ⟹ refuses 15 at 3 of 1 ⟫ untouched ∷ untouched ∷ [])
    ∷ (substitutes 90 180 (hex "02") (say "in") [] ⟹ refuses 15 at 0 of 2 ⟫ untouched ∷ untouched ∷ [])
    ∷ (substitutes 90 180 (hex "02") (say "In") wordy ⟹ refuses 15 at 3 of 3 ⟫ untouched ∷ untouched ∷ [])
    ∷ (substitutes 90 180 (hex "02") (say "in-") [] ⟹ refuses 5 at 2 of 2 ⟫ untouched ∷ untouched ∷ [])
    ∷ (steps 90 180 wordy ⟹ refuses 15 at 3 of 1 ⟫ untouched ∷ untouched ∷ [])
    ∷ (reduces 90 180 9 wordy ⟹ refuses 15 at 3 of 1 ‥ 0 ∷ [] ⟫ untouched ∷ untouched ∷ [])
    ∷ (is_normal_term wordy ⟹ refuses 15 at 3 of 1 ⟫ [])
    ∷ (is_straight_term wordy ⟹ refuses 15 at 3 of 1 ⟫ [])
    ∷ (locates wordy 9 ⟹ refuses 15 at 3 of 1 ⟫ [])
    ∷ (child wordy 0 ⟹ refuses 15 at 3 of 1 ⟫ [])
    -- before 9; the entries stay untouched too
    ∷ (extracts 90 180 6 200_000_000 wordy_proof ⟹ refuses 15 at 3 of 1 ‥ 200_000_000 ∷ [] ⟫ untouched ∷ untouched ∷ untouched ∷ [])
    -- of a stored file at its place in the content
    ∷ (stores 512 a_term wordy ⟹ refuses 15 at 3 of 1 ⟫ untouched ∷ [])
    ∷ (stores 512 a_proof wordy_proof ⟹ refuses 15 at 3 of 1 ⟫ untouched ∷ [])
    ∷ (loads 90 a_term (hex "01 00 0500 0e0102696e" ‥ repeat 501 (hex "00") ‥ hex "9007") ⟹ refuses 15 at 3 of 1 ⟫ untouched ∷ [])
    ∷ (loads 90 a_proof (hex "02 00 0700 0201024f660000" ‥ repeat 499 (hex "00") ‥ hex "4306") ⟹ refuses 15 at 3 of 1 ⟫ untouched ∷ [])
    ∷ []

pub words-hold : wrong right table ≡ []
unfolding right encode encode_formula
words-hold = refl
