-- What bytes mean: every tag with its names and parts, its text and its way back to bytes; every byte of a name. One table, computed.
use Prim.Native.Nat.{ℕ, zero, suc}
use Prim.Native.String.{String}
use mathlib.Core.Path.{◌≡◌, refl}
use mathlib.Core.Bool.{Bool, true, false, ◌&&◌}
use mathlib.Core.List.{List, [], ◌∷◌, map}
use lib.ListN.{length}
use lib.Dec.{eqb}
use Rattle.std.specs.Prelude.{if◌then◌else◌, Ok, Err}
use Rattle.rules.specs.Basic.{Bytes, say, digits}
use Rattle.rules.specs.Limits.{limits}
use Rattle.rules.specs.Refusal.{Outcome}
use Rattle.rules.specs.Name.{leads, follows, is_a_word}
use Rattle.rules.specs.Formula.{encode_formula, formula_nodes}
use Rattle.rules.specs.Term.{nodes, encode, parts}
use Rattle.rules.specs.Proof.{encode_rule, encode_formulas, encode_proof, proof_formula_nodes}
use Rattle.rules.specs.Reading.{times, many, byte, byte_for, room, letters, spelled, name, tag, too_many, node, proof_at, whole, read_term, read_formula, read_proof}
use Rattle.rules.specs.Text.{text, text_of_formula}
use Rattle.rules.specs.Extraction.{extract_from, extract, oldest, axiom_name}
use Rattle.rules.proofs.Notation.{equal, hex, wrong}

infix 70 ◌prints◌of◌
infix 70 ◌prints_formula◌
infix 70 ◌gives◌next◌
-- a term's bytes, its text, the texts of its parts; a formula's bytes and text; a proof's bytes, the text of its term, the next counter
pub data Row : Type 0 where
  ◌prints◌of◌ : (bytes text : String) (parts : List String) → Row
  ◌prints_formula◌ : (bytes text : String) → Row
  ◌gives◌next◌ : (bytes text : String) (counter : ℕ) → Row

abbrev pub good_and : {A : Type 0} → Outcome A → (A → Bool) → Bool
good_and (Ok a) k = k a
good_and (Err r) k = false

abbrev pub all_equal : List Bytes → List Bytes → Bool
all_equal [] [] = true
all_equal [] (y ∷ ys) = false
all_equal (x ∷ xs) [] = false
all_equal (x ∷ xs) (y ∷ ys) = equal x y && all_equal xs ys

unfoldable pub right : Row → Bool
unfolding times many byte byte_for room letters spelled name tag too_many node proof_at whole read_term read_formula read_proof leads follows is_a_word encode nodes text encode_formula text_of_formula encode_rule encode_formulas encode_proof extract_from extract oldest axiom_name digits
right (s prints w of ws) =
    good_and (read_term limits 1 (hex s))
    (λ t. equal (encode t) (hex s) && (equal (text t) (say w) && (all_equal (map text (parts t)) (map say ws) && eqb (nodes t) (suc (length ws)))))
right (s prints_formula w) = good_and (read_formula limits 1 (hex s)) (λ f. equal (encode_formula f) (hex s) && equal (text_of_formula f) (say w))
right (s gives w next n) =
    good_and (read_proof limits 1 (hex s)) (λ p. equal (encode_proof p) (hex s) && good_and (extract_from limits 0 p) (λ r. equal (text r.0) (say w) && eqb r.1 n))

abbrev pub table : List Row
table =
    "01 03 785f31" prints "x_1" of []
    ∷ "02" prints "()" of []
    ∷ "03 010161 010162" prints "(a, b)" of ("a" ∷ "b" ∷ [])
    ∷ "04 0178 0179 010170 010162" prints "let (x, y) = p in b" of ("p" ∷ "b" ∷ [])
    ∷ "05 0178 010162" prints "λx. b" of ("b" ∷ [])
    ∷ "06 010166 010161" prints "(f a)" of ("f" ∷ "a" ∷ [])
    ∷ "07 010165" prints "inl e" of ("e" ∷ [])
    ∷ "08 010165" prints "inr e" of ("e" ∷ [])
    ∷ "09 0178 0179 010173 01016c 010172" prints "case s of { inl x => l | inr y => r }" of ("s" ∷ "l" ∷ "r" ∷ [])
    ∷ "0a" prints "⟨⟩" of []
    ∷ "0b 010165" prints "fst e" of ("e" ∷ [])
    ∷ "0c 010165" prints "snd e" of ("e" ∷ [])
    ∷ "0d 010165" prints "absurd e" of ("e" ∷ [])
    ∷ "0e 010165" prints "!e" of ("e" ∷ [])
    ∷ "0f 010165" prints "derelict e" of ("e" ∷ [])
    ∷ "10 010165 010162" prints "discard in b" of ("e" ∷ "b" ∷ [])
    ∷ "11 0178 0179 010173 010162" prints "copy s as (x, y) in b" of ("s" ∷ "b" ∷ [])
    ∷ "01 02 4131" prints_formula "A1"
    ∷ "02 01 41" prints_formula "A⊥"
    ∷ "03 010141 010142" prints_formula "(A ⊗ B)"
    ∷ "04 010141 010142" prints_formula "(A ⅋ B)"
    ∷ "05" prints_formula "1"
    ∷ "06" prints_formula "⊥"
    ∷ "07 010141 010142" prints_formula "(A & B)"
    ∷ "08 010141 010142" prints_formula "(A ⊕ B)"
    ∷ "09" prints_formula "⊤"
    ∷ "0a" prints_formula "0"
    ∷ "0b 010141" prints_formula "!A"
    ∷ "0c 010141" prints_formula "?A"
    ∷ "0d 010141 010142" prints_formula "(A ⊸ B)"
    ∷ "01 02 020141 010141 00" gives "a" next 0
    ∷ "02 05 00 02 030000 070000" gives "(⟨⟩ ())" next 1
    ∷ "03 00 00" gives "()" next 0
    ∷ "04 00 01 070000" gives "⟨⟩" next 0
    ∷ "05 00 02 030000 070000" gives "((), ⟨⟩)" next 0
    ∷ "06 00 01 070000" gives "⟨⟩" next 0
    ∷ "07 00 00" gives "⟨⟩" next 0
    ∷ "08 00 00" gives "⟨⟩" next 0
    ∷ "09 00 01 070000" gives "inl ⟨⟩" next 0
    ∷ "0a 00 01 070000" gives "inr ⟨⟩" next 0
    ∷ "0b 00 01 070000" gives "!⟨⟩" next 0
    ∷ "0c 00 01 070000" gives "⟨⟩" next 0
    ∷ "0d 00 01 070000" gives "discard in ⟨⟩" next 0
    ∷ "0e 00 01 070000" gives "copy x2 as (x0, x1) in ⟨⟩" next 3
    ∷ "0f 00 01 070000" gives "derelict ⟨⟩" next 0
    ∷ "10 cdab 00 01 070000" gives "⟨⟩" next 0
    ∷ "11 ffff 00 01 070000" gives "⟨⟩" next 0
    ∷ "12 00 01 070000" gives "⟨⟩" next 0
    ∷ []

pub forms-hold : wrong right table ≡ []
unfolding right
forms-hold = refl

-- The formula nodes of a proof: 3 in Cut's formula, 3 in `linear`, 1 and 2 in the premises.
pub formula-nodes : good_and (read_proof limits 1 (hex "02 030505 02 0b05 05 02 03010500 040001 0302090500")) (λ p. eqb (proof_formula_nodes p) 9) ≡ true
unfolding times many byte byte_for room letters spelled name tag too_many node proof_at whole read_proof leads follows is_a_word formula_nodes proof_formula_nodes
formula-nodes = refl

-- Of all 256 bytes, those that may stand first in a name, and those that may stand later.
abbrev pub those : (ℕ → Bool) → (from many : ℕ) → Bytes
those ok n zero = []
those ok n (suc m) = if ok n then n ∷ those ok (suc n) m else those ok (suc n) m

unfoldable pub readable : Bytes → Bool
unfolding times many byte byte_for room letters spelled name tag too_many node whole read_term leads follows is_a_word
readable s = good_and (read_term limits 1 s) (λ t. true)

pub first-bytes : those (λ b. readable (1 ∷ 1 ∷ b ∷ [])) 0 256 ≡ say "ABCDEFGHIJKLMNOPQRSTUVWXYZ_abcdefghijklmnopqrstuvwxyz"
unfolding readable
first-bytes = refl

pub later-bytes : those (λ b. readable (1 ∷ 2 ∷ 120 ∷ b ∷ [])) 0 256 ≡ say "0123456789ABCDEFGHIJKLMNOPQRSTUVWXYZ_abcdefghijklmnopqrstuvwxyz"
unfolding readable
later-bytes = refl

-- The printed signs as UTF-8, since a table's own texts are `say` too.
pub signs : say "a_9 λ⟨⟩⊥⊤⊗⅋⊕⊸" ≡ hex "615f3920 cebb e29fa8 e29fa9 e28aa5 e28aa4 e28a97 e2858b e28a95 e28ab8"
signs = refl
