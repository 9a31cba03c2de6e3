-- The stored form, refusals 10 to 13 in their order, and what `patchrun` prints. One table, computed.
use Prim.Native.Nat.{ℕ, zero, suc, ◌-◌}
use Prim.Native.String.{String}
use mathlib.Core.Path.{◌≡◌, refl}
use mathlib.Core.Bool.{Bool}
use mathlib.Core.List.{List, [], ◌∷◌}
use lib.ListN.{length, replicate}
use Rattle.rules.specs.Basic.{Bytes, say, digits, low-high, ◌‥◌}
use Rattle.rules.specs.Limits.{limits}
use Rattle.rules.specs.Name.{leads, follows, is_a_word}
use Rattle.rules.specs.Term.{Term, one, two, inl, fst, snd, promote, derelict, discard, nodes, encode, fits}
use Rattle.rules.specs.Reading.{times, many, byte, byte_for, room, letters, spelled, name, tag, too_many, node, proof_at, whole, read_term, read_proof}
use Rattle.rules.specs.Text.{text}
use Rattle.rules.specs.Substitution.{subst}
use Rattle.rules.specs.Step.{step, contract}
use Rattle.rules.specs.Reduction.{reduce_from}
use Rattle.rules.specs.Stored.{Kind, check, weighed, blocks, stored, open_block, opened_blocks, opened}
use Rattle.rules.specs.declared.Kind.TheVariants.{Term as a_term, Proof as a_proof}
use Rattle.rules.specs.Program.{counts_line, refusal_line, patchrun}
use Rattle.rules.proofs.Notation.{equal, v, ⟨⟩, ⟨◌﹐◌⟩, ◌·◌, ƛ◌⇒◌, lets◌﹐◌≔◌⨟◌, copies◌⇉◌﹐◌⨟◌, cases◌of◌⇒◌or◌⇒◌, hex, repeat, wrong}
use Rattle.rules.proofs.Called.{numbers, answers, refuses◌at◌of◌}

infix 65 block◌checked◌
infix 55 ◌stored_is◌
infix 55 ◌opens◌⟹◌
infix 55 program◌⟹◌
pub data Row : Type 0 where
  ◌stored_is◌ : (content file : Bytes) → Row
  ◌opens◌⟹◌ : Kind → (file : Bytes) → List ℕ → Row
  program◌⟹◌ : (stdin : Bytes) → String → Row

abbrev pub zeros : ℕ → Bytes
zeros n = replicate n 0

-- 510 bytes and these two for the check; 510 bytes and the right check
abbrev pub block◌checked◌ : Bytes → Bytes → Bytes
block s checked c = s ‥ zeros (510 - length s) ‥ c

abbrev pub sealed : Bytes → Bytes
sealed s = block s checked low-high (check (s ‥ zeros (510 - length s)))

abbrev pub rounds : ℕ → (Term → Term) → Term → Term
rounds zero f t = t
rounds (suc n) f t = f (rounds n f t)

-- the k-th rule of the eight, k times
abbrev pub all-eight : Term
all-eight =
    rounds 1 (λ t. (ƛ "x" ⇒ v "x") · t) (rounds 2 (λ t. lets "x" ﹐ "y" ≔ ⟨ t ﹐ ⟨⟩ ⟩ ⨟ v "x") (rounds 3 (λ t. cases one inl t of "x" ⇒ v "x" or "y" ⇒ ⟨⟩)
    (rounds 4 (λ t. one fst ⟨ t ﹐ ⟨⟩ ⟩) (rounds 5 (λ t. one snd ⟨ ⟨⟩ ﹐ t ⟩) (rounds 6 (λ t. one derelict (one promote t))
    (rounds 7 (λ t. copies one promote ⟨⟩ ⇉ "x" ﹐ "y" ⨟ t) (rounds 8 (λ t. two discard (one promote ⟨⟩) t) ⟨⟩)))))))

abbrev pub file : Term → Bytes
file t = stored a_term (encode t)

unfoldable pub right : Row → Bool
unfolding times many byte byte_for room letters spelled name tag too_many node proof_at whole read_term read_proof leads follows is_a_word encode nodes fits text subst step contract reduce_from digits weighed blocks stored open_block opened_blocks opened counts_line refusal_line patchrun
right (s stored_is f) = equal (stored a_term s) f
right (k opens f ⟹ a) = equal (numbers (λ s. s) (opened limits k f)) a
right (program f ⟹ w) = equal (patchrun limits f) (say w)

-- two blocks: 507 bytes of content
abbrev pub content : Bytes
content = repeat 506 (hex "0e") ‥ hex "02"

abbrev pub first_block : Bytes
first_block = block hex "01 00 fb01" ‥ repeat 506 (hex "0e") checked hex "0dda"

abbrev pub table : List Row
table =
    -- Stored `()` has check 14
    (hex "02" stored_is block hex "01 00 0100 02" checked hex "0e00")
    ∷ (content stored_is first_block ‥ block hex "01 01 fb01 02" checked hex "0203")
    ∷ (a_proof opens block hex "02 00 0300 030000" checked hex "1a00" ⟹ answers (hex "030000"))
    -- 10
    ∷ (a_term opens [] ⟹ refuses 10 at 0 of 1)
    ∷ (a_term opens zeros 511 ⟹ refuses 10 at 0 of 1)
    ∷ (a_term opens zeros 513 ⟹ refuses 10 at 0 of 1)
    ∷ (a_term opens zeros 5120 ⟹ refuses 10 at 0 of 1)
    ∷ (a_term opens zeros 4608 ⟹ refuses 12 at 0 of 1)
    -- 11, before 12
    ∷ (a_term opens block hex "01 00 0100 02" checked hex "0f00" ⟹ refuses 11 at 0 of 1)
    ∷ (a_term opens block hex "01 00 0100 02" checked hex "0e01" ⟹ refuses 11 at 0 of 1)
    ∷ (a_term opens block hex "02 00 0100 02" checked hex "0e00" ⟹ refuses 11 at 0 of 1)
    ∷ (a_term opens first_block ‥ block hex "01 01 fb01 02" checked hex "0303" ⟹ refuses 11 at 1 of 1)
    -- 12, before 13: the kind, the number, L
    ∷ (a_term opens sealed (hex "02 00 0100 02 01") ⟹ refuses 12 at 0 of 1)
    ∷ (a_proof opens sealed (hex "01 00 0300 030000") ⟹ refuses 12 at 0 of 1)
    ∷ (a_term opens sealed (hex "01 01 0100 02") ⟹ refuses 12 at 0 of 1)
    ∷ (a_term opens sealed (hex "01 00 0000") ⟹ refuses 12 at 0 of 1)
    ∷ (a_term opens sealed (hex "01 00 fb01 02") ⟹ refuses 12 at 0 of 1)
    ∷ (a_term opens sealed (hex "01 00 fa01 02") ‥ sealed (hex "01 01 fa01") ⟹ refuses 12 at 0 of 1)
    ∷ (a_term opens sealed (hex "01 00 0110") ‥ zeros 4096 ⟹ refuses 12 at 0 of 1)
    ∷ (a_term opens first_block ‥ sealed (hex "01 01 fc01 02 02") ⟹ refuses 12 at 1 of 1)
    ∷ (a_term opens first_block ‥ sealed (hex "01 00 fb01 02") ⟹ refuses 12 at 1 of 1)
    -- 13, to the last byte of the content; block by block
    ∷ (a_term opens sealed (hex "01 00 0100 02 02") ⟹ refuses 13 at 0 of 1)
    ∷ (a_term opens sealed (hex "01 00 0100 02" ‥ zeros 504 ‥ hex "01") ⟹ refuses 13 at 0 of 1)
    ∷ (a_term opens first_block ‥ sealed (hex "01 01 fb01 02 02") ⟹ refuses 13 at 1 of 1)
    ∷ (a_term opens sealed (hex "02 00 fb01") ‥ block [] checked hex "0100" ⟹ refuses 12 at 0 of 1)
    -- then the content from 3 on, places counted in the content
    ∷ (a_term opens sealed (hex "01 00 0200 0302") ⟹ refuses 3 at 2 of 1)
    ∷ (a_term opens sealed (hex "01 00 0200 0202") ⟹ refuses 7 at 1 of 1)
    ∷ (a_proof opens sealed (hex "02 00 0100 02") ⟹ refuses 3 at 1 of 1)
    -- patchrun
    ∷ (program file ((ƛ "x" ⇒ v "x") · ⟨⟩) ⟹ "()\nsteps 1 app 1 let 0 case 0 fst 0 snd 0 derelict 0 copy 0 discard 0 normal yes\n")
    ∷ (program file all-eight ⟹ "()\nsteps 36 app 1 let 2 case 3 fst 4 snd 5 derelict 6 copy 7 discard 8 normal yes\n")
    ∷ (program file ((ƛ "x" ⇒ v "x" · v "x") · (ƛ "x" ⇒ v "x" · v "x"))
    ⟹ "(λx. (x x) λx. (x x))\nsteps 1000 app 1000 let 0 case 0 fst 0 snd 0 derelict 0 copy 0 discard 0 normal no\n")
    ∷ (program [] ⟹ "refused 10 at 0\n")
    ∷ (program sealed (hex "01 00 0c00 0e0e0e0e0e0e0e0e0e0e0212") ⟹ "refused 7 at 11\n")
    ∷ (program sealed (hex "01 00 0500 0e0102696e") ⟹ "refused 15 at 3\n")
    ∷ []

pub blocks-hold : wrong right table ≡ []
unfolding right encode stored blocks weighed
blocks-hold = refl
