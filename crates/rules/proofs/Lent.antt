-- Calls and the buffers that they are lent: what each answers and leaves, after success and after each kind of refusal. One table, computed at small limits.
use Prim.Native.String.{String}
use mathlib.Core.Path.{◌≡◌, refl}
use mathlib.Core.List.{List, [], ◌∷◌}
use Rattle.rules.specs.Basic.{Bytes, say, ◌‥◌}
use Rattle.rules.specs.Formula.{atom, plain, connective, Plus, encode_formula}
use Rattle.rules.specs.Term.{Term, one, fst, promote, encode}
use Rattle.rules.specs.Proof.{Proof, OneIntro, Axiom, encode_proof, encode_rule, encode_formulas}
use Rattle.rules.specs.declared.Kind.TheVariants.{Term as a_term, Proof as a_proof}
use Rattle.rules.proofs.Notation.{promotes, v, ⟨⟩, ⟨◌﹐◌⟩, ◌·◌, ƛ◌⇒◌, lets◌﹐◌≔◌⨟◌, copies◌⇉◌﹐◌⨟◌, 𝟏, by◌on◌from◌, cuts◌from◌, hex, repeat, wrong}
use Rattle.rules.proofs.Called.{Row, right, ◌⟹◌⟫◌, free_vars, prints, prints_formula, substitutes, steps, reduces, is_normal_term, is_straight_term, locates, child, child_starts, extracts, stores, loads, untouched, then-zeros, zeroed, answers, counts, refuses◌at◌of◌}

-- a name of 24 bytes, and four of a variable
abbrev pub long : String
long = "abcdefghijklmnopqrstuvwx"

abbrev pub four : String → Term
four x = ⟨ v x ﹐ ⟨ v x ﹐ ⟨ v x ﹐ v x ⟩ ⟩ ⟩

-- a step that makes 107 bytes; one that does so half-way only, by LetPair and by Copy
abbrev pub grows : Term
grows = (ƛ "x" ⇒ four "x") · v long

abbrev pub grows-half-way : Term
grows-half-way = lets "x" ﹐ long ≔ ⟨ v long ﹐ ⟨⟩ ⟩ ⨟ four "x"

-- half-way 42 bytes and 4 for each byte of the name
abbrev pub copied-half-way : String → Term
copied-half-way n = copies one promote (v n) ⇉ "x" ﹐ long ⨟ ⟨ v "x" ﹐ ⟨ v "x" ﹐ ⟨ v "x" ﹐ ⟨ v "x" ﹐ v long ⟩ ⟩ ⟩ ⟩

-- P7
abbrev pub pairs : Term
pairs = one fst ((ƛ "x" ⇒ v "x") · ⟨ v "a" ﹐ v "b" ⟩)

-- Plus puts the consumer in both branches: 96 bytes
abbrev pub doubling : Proof
doubling =
    let twice : Proof → Proof = λ p. cuts connective Plus 𝟏 𝟏 from (by OneIntro on [] from [] ∷ p ∷ []) in
    twice (twice (by Axiom on (atom plain (say "Abcdefghijklmnop") ∷ []) from []))

abbrev pub identity : Bytes
identity = hex "01 01 05 00"

abbrev pub table : List Row
table =
    -- 1 before all else; zeros to the end of the output; a refusal leaves it untouched
    (free_vars 89 [] ⟹ refuses 1 at 0 of 0 ⟫ untouched ∷ [])
    ∷ (free_vars 91 (hex "02 02") ⟹ refuses 7 at 1 of 1 ⟫ untouched ∷ [])
    ∷ (free_vars 91 (encode (v "b" · v "a1")) ⟹ counts 5 ⟫ then-zeros (hex "02 6131 01 62") ∷ [])
    ∷ (prints 449 [] ⟹ refuses 1 at 0 of 0 ⟫ untouched ∷ [])
    ∷ (prints 451 (hex "12") ⟹ refuses 4 at 0 of 1 ⟫ untouched ∷ [])
    ∷ (prints 450 (encode (ƛ "x" ⇒ v "y")) ⟹ counts 6 ⟫ then-zeros (say "λx. y") ∷ [])
    ∷ (prints_formula 109 [] ⟹ refuses 1 at 0 of 0 ⟫ untouched ∷ [])
    ∷ (prints_formula 111 (hex "0e") ⟹ refuses 4 at 0 of 1 ⟫ untouched ∷ [])
    ∷ (prints_formula 110 (hex "02 01 41") ⟹ counts 4 ⟫ then-zeros (say "A⊥") ∷ [])
    -- substitute: inputs in order; a bare name is never 2 or 3
    ∷ (substitutes 89 180 [] [] [] ⟹ refuses 1 at 0 of 0 ⟫ untouched ∷ untouched ∷ [])
    ∷ (substitutes 90 179 [] [] [] ⟹ refuses 1 at 0 of 0 ⟫ untouched ∷ untouched ∷ [])
    ∷ (substitutes 91 181 (hex "02 02") [] [] ⟹ refuses 7 at 1 of 1 ⟫ untouched ∷ untouched ∷ [])
    ∷ (substitutes 91 181 (hex "02") [] [] ⟹ refuses 5 at 0 of 2 ⟫ untouched ∷ untouched ∷ [])
    ∷ (substitutes 91 181 (hex "02") (say "abcdefghijklmnopqrstuvwxy") [] ⟹ refuses 5 at 0 of 2 ⟫ untouched ∷ untouched ∷ [])
    ∷ (substitutes 91 181 (hex "02") (repeat 91 (say "x")) [] ⟹ refuses 5 at 0 of 2 ⟫ untouched ∷ untouched ∷ [])
    ∷ (substitutes 91 181 (hex "02") (say "x-") [] ⟹ refuses 5 at 1 of 2 ⟫ untouched ∷ untouched ∷ [])
    ∷ (substitutes 91 181 (hex "02") (say "1") [] ⟹ refuses 5 at 0 of 2 ⟫ untouched ∷ untouched ∷ [])
    ∷ (substitutes 91 181 (hex "02") (say long) [] ⟹ refuses 3 at 0 of 3 ⟫ untouched ∷ untouched ∷ [])
    ∷ (substitutes 91 181 (hex "02") (say "x") (repeat 91 (hex "02")) ⟹ refuses 2 at 90 of 3 ⟫ untouched ∷ untouched ∷ [])
    ∷ (substitutes 91 181 (hex "02") (say "x") (hex "02 02") ⟹ refuses 7 at 1 of 3 ⟫ untouched ∷ untouched ∷ [])
    ∷ (substitutes 91 181 (encode (v "x" · v "y")) (say "x") (hex "02") ⟹ counts 5 ⟫ then-zeros (hex "06 02 010179") ∷ zeroed ∷ [])
    -- 8: 16 nodes and 90 bytes fit, 17 and 91 do not
    ∷ (substitutes 90 180 (encode ⟨ v "x" ﹐ ⟨⟩ ⟩) (say "x") (encode (promotes 13 ⟨⟩)) ⟹ counts 16 ⟫ then-zeros (encode ⟨ promotes 13 ⟨⟩ ﹐ ⟨⟩ ⟩) ∷ zeroed ∷ [])
    ∷ (substitutes 90 180 (encode ⟨ v "x" ﹐ ⟨⟩ ⟩) (say "x") (encode (promotes 14 ⟨⟩)) ⟹ refuses 8 at 0 of 0 ⟫ untouched ∷ zeroed ∷ [])
    ∷ (substitutes 90 180 (encode ⟨ v "x" ﹐ ⟨ v "x" ﹐ ⟨ v "x" ﹐ v "abcdefg" ⟩ ⟩ ⟩) (say "x") (encode (v long))
    ⟹ counts 90 ⟫ then-zeros (encode ⟨ v long ﹐ ⟨ v long ﹐ ⟨ v long ﹐ v "abcdefg" ⟩ ⟩ ⟩) ∷ zeroed ∷ [])
    ∷ (substitutes 90 180 (encode ⟨ v "x" ﹐ ⟨ v "x" ﹐ ⟨ v "x" ﹐ v "abcdefgh" ⟩ ⟩ ⟩) (say "x") (encode (v long)) ⟹ refuses 8 at 0 of 0 ⟫ untouched ∷ zeroed ∷ [])
    -- step: Normal leaves the output untouched; Found the rule, the place, the length
    ∷ (steps 89 180 [] ⟹ refuses 1 at 0 of 0 ⟫ untouched ∷ untouched ∷ [])
    ∷ (steps 90 179 [] ⟹ refuses 1 at 0 of 0 ⟫ untouched ∷ untouched ∷ [])
    ∷ (steps 91 181 (hex "02 02") ⟹ refuses 7 at 1 of 1 ⟫ untouched ∷ untouched ∷ [])
    ∷ (steps 91 181 (hex "02") ⟹ answers [] ⟫ untouched ∷ zeroed ∷ [])
    ∷ (steps 91 181 (encode pairs) ⟹ answers (0 ∷ 1 ∷ 8 ∷ []) ⟫ then-zeros (hex "0b 03 010161 010162") ∷ zeroed ∷ [])
    ∷ (steps 90 180 (encode grows) ⟹ refuses 8 at 0 of 0 ⟫ untouched ∷ zeroed ∷ [])
    ∷ (steps 90 180 (encode grows-half-way) ⟹ refuses 8 at 0 of 0 ⟫ untouched ∷ zeroed ∷ [])
    ∷ (steps 90 180 (encode (copied-half-way "abcdefghijklm")) ⟹ refuses 8 at 0 of 0 ⟫ untouched ∷ zeroed ∷ [])
    ∷ (steps 90 180 (encode (copied-half-way "abcdefghijkl"))
    ⟹ answers (6 ∷ 0 ∷ 79 ∷ [])
    ⟫ then-zeros (repeat 4 (hex "03 0e 01 0c" ‥ say "abcdefghijkl") ‥ hex "0e 01 0c" ‥ say "abcdefghijkl") ∷ zeroed ∷ [])
    -- bounded reduction: steps, eight counts, whether no step remains; then the length of what stands in the output
    ∷ (reduces 89 180 9 [] ⟹ refuses 1 at 0 of 0 ‥ 0 ∷ [] ⟫ untouched ∷ untouched ∷ [])
    ∷ (reduces 90 179 9 [] ⟹ refuses 1 at 0 of 0 ‥ 0 ∷ [] ⟫ untouched ∷ untouched ∷ [])
    ∷ (reduces 91 181 9 (hex "02 02") ⟹ refuses 7 at 1 of 1 ‥ 0 ∷ [] ⟫ untouched ∷ untouched ∷ [])
    ∷ (reduces 91 181 0 (encode pairs) ⟹ answers (0 ∷ 0 ∷ 0 ∷ 0 ∷ 0 ∷ 0 ∷ 0 ∷ 0 ∷ 0 ∷ 0 ∷ 15 ∷ []) ⟫ then-zeros (encode pairs) ∷ zeroed ∷ [])
    ∷ (reduces 91 181 1 (encode pairs) ⟹ answers (1 ∷ 1 ∷ 0 ∷ 0 ∷ 0 ∷ 0 ∷ 0 ∷ 0 ∷ 0 ∷ 0 ∷ 8 ∷ []) ⟫ then-zeros (hex "0b 03 010161 010162") ∷ zeroed ∷ [])
    ∷ (reduces 91 181 2 (encode pairs) ⟹ answers (2 ∷ 1 ∷ 0 ∷ 0 ∷ 1 ∷ 0 ∷ 0 ∷ 0 ∷ 0 ∷ 1 ∷ 3 ∷ []) ⟫ then-zeros (hex "010161") ∷ zeroed ∷ [])
    ∷ (reduces 91 181 9 (encode pairs) ⟹ answers (2 ∷ 1 ∷ 0 ∷ 0 ∷ 1 ∷ 0 ∷ 0 ∷ 0 ∷ 0 ∷ 1 ∷ 3 ∷ []) ⟫ then-zeros (hex "010161") ∷ zeroed ∷ [])
    -- 8 leaves the last term that fitted; a step past the limit is not tried
    ∷ (reduces 91 181 9 (encode ((ƛ "z" ⇒ v "z") · grows)) ⟹ refuses 8 at 1 of 0 ‥ 45 ∷ [] ⟫ then-zeros (encode grows) ∷ zeroed ∷ [])
    ∷ (reduces 91 181 1 (encode ((ƛ "z" ⇒ v "z") · grows)) ⟹ answers (1 ∷ 1 ∷ 0 ∷ 0 ∷ 0 ∷ 0 ∷ 0 ∷ 0 ∷ 0 ∷ 0 ∷ 45 ∷ []) ⟫ then-zeros (encode grows) ∷ zeroed ∷ [])
    ∷ (reduces 91 181 1 (encode grows-half-way) ⟹ refuses 8 at 0 of 0 ‥ 71 ∷ [] ⟫ then-zeros (encode grows-half-way) ∷ zeroed ∷ [])
    -- is_normal, is_straight, locate and child have no buffers; 14 after 7
    ∷ (is_normal_term (hex "02 02") ⟹ refuses 7 at 1 of 1 ⟫ [])
    ∷ (is_normal_term (hex "02") ⟹ counts 1 ⟫ [])
    ∷ (is_normal_term (encode grows) ⟹ counts 0 ⟫ [])
    ∷ (is_straight_term (hex "02 02") ⟹ refuses 7 at 1 of 1 ⟫ [])
    ∷ (is_straight_term (encode (ƛ "x" ⇒ v "x")) ⟹ counts 1 ⟫ [])
    ∷ (is_straight_term (encode grows) ⟹ counts 0 ⟫ [])
    -- a child stands behind the tag, the names and the parts before it
    ∷ (locates (hex "03 02 02") 0 ⟹ answers (1 ∷ 2 ∷ []) ⟫ [])
    ∷ (locates (hex "03 02 02") 1 ⟹ answers (2 ∷ 3 ∷ []) ⟫ [])
    ∷ (locates (hex "03 02 02") 2 ⟹ refuses 14 at 0 of 0 ⟫ [])
    ∷ (locates (hex "02 02") 2 ⟹ refuses 7 at 1 of 1 ⟫ [])
    ∷ (locates (hex "05 027831 010161") 0 ⟹ answers (4 ∷ 7 ∷ []) ⟫ [])
    ∷ (locates (hex "04 027831 0179 02 010161") 1 ⟹ answers (7 ∷ 10 ∷ []) ⟫ [])
    ∷ (locates (hex "09 027831 0179 010161 02 0e02") 0 ⟹ answers (6 ∷ 9 ∷ []) ⟫ [])
    ∷ (locates (hex "09 027831 0179 010161 02 0e02") 1 ⟹ answers (9 ∷ 10 ∷ []) ⟫ [])
    ∷ (locates (hex "09 027831 0179 010161 02 0e02") 2 ⟹ answers (10 ∷ 12 ∷ []) ⟫ [])
    ∷ (locates (hex "09 027831 0179 010161 02 0e02") 3 ⟹ refuses 14 at 0 of 0 ⟫ [])
    ∷ (child (hex "09 027831 0179 010161 02 0e02") 2 ⟹ answers (hex "0e02") ⟫ [])
    ∷ (child (hex "03 010161 02") 0 ⟹ answers (hex "010161") ⟫ [])
    ∷ (child (hex "03 010161 02") 1 ⟹ answers (hex "02") ⟫ [])
    ∷ (child (hex "03 010161 02") 2 ⟹ refuses 14 at 0 of 0 ⟫ [])
    ∷ (child (hex "02 02") 2 ⟹ refuses 7 at 1 of 1 ⟫ [])
    -- the part handed back is the child itself, not other bytes that are the same; an empty part stands at the start
    ∷ (child_starts (hex "03 02 02") 1 ⟹ counts 2 ⟫ [])
    ∷ (child_starts (hex "03 02 02") 2 ⟹ counts 0 ⟫ [])
    -- extract: after the answer the counter; 3 to 7, then 9, then 8
    ∷ (extracts 89 180 6 5 [] ⟹ refuses 1 at 0 of 0 ‥ 5 ∷ [] ⟫ untouched ∷ untouched ∷ untouched ∷ [])
    ∷ (extracts 90 179 6 5 [] ⟹ refuses 1 at 0 of 0 ‥ 5 ∷ [] ⟫ untouched ∷ untouched ∷ untouched ∷ [])
    ∷ (extracts 90 180 5 5 identity ⟹ refuses 1 at 0 of 0 ‥ 5 ∷ [] ⟫ untouched ∷ untouched ∷ untouched ∷ [])
    ∷ (extracts 91 181 7 200_000_000 (hex "03 00 00 00") ⟹ refuses 7 at 3 of 1 ‥ 200_000_000 ∷ [] ⟫ untouched ∷ untouched ∷ untouched ∷ [])
    ∷ (extracts 91 181 7 5 identity ⟹ counts 8 ‥ 6 ∷ [] ⟫ then-zeros (hex "05 02 7835 01 02 7835") ∷ zeroed ∷ zeroed ∷ [])
    ∷ (extracts 90 180 6 5 (encode_proof doubling) ⟹ refuses 8 at 0 of 0 ‥ 5 ∷ [] ⟫ untouched ∷ zeroed ∷ zeroed ∷ [])
    ∷ (extracts 90 180 6 100_000_000 (encode_proof doubling) ⟹ refuses 9 at 0 of 0 ‥ 100_000_000 ∷ [] ⟫ untouched ∷ untouched ∷ untouched ∷ [])
    -- store and load
    ∷ (stores 511 a_term [] ⟹ refuses 1 at 0 of 0 ⟫ untouched ∷ [])
    ∷ (stores 513 a_proof (hex "02") ⟹ refuses 3 at 1 of 1 ⟫ untouched ∷ [])
    ∷ (stores 513 a_term (hex "02") ⟹ counts 512 ⟫ then-zeros (hex "01 00 0100 02" ‥ repeat 505 (hex "00") ‥ hex "0e00") ∷ [])
    ∷ (loads 89 a_term [] ⟹ refuses 1 at 0 of 0 ⟫ untouched ∷ [])
    ∷ (loads 91 a_term [] ⟹ refuses 10 at 0 of 1 ⟫ untouched ∷ [])
    ∷ (loads 91 a_term (hex "01 00 0100 02" ‥ repeat 505 (hex "00") ‥ hex "0e00") ⟹ counts 1 ⟫ then-zeros (hex "02") ∷ [])
    ∷ []

pub lent-hold : wrong right table ≡ []
unfolding right encode encode_proof encode_rule encode_formulas encode_formula
lent-hold = refl
