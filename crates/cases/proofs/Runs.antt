-- The cases that document 01 asks to run, and each limit met, computed at the document's own limits: two tables, each one statement.
-- (Each limit passed by one is in the proofs of `rules`, where wrong limits are tried.)
use Prim.Native.Nat.{ℕ}
use Prim.Native.String.{String}
use mathlib.Core.Path.{◌≡◌, refl}
use mathlib.Core.Bool.{Bool}
use mathlib.Core.List.{List, [], ◌∷◌}
use lib.ListN.{replicate, take}
use Rattle.rules.specs.Basic.{Bytes, say, digits, ◌‥◌}
use Rattle.rules.specs.Limits.{limits}
use Rattle.rules.specs.Name.{leads, follows, is_a_word}
use Rattle.rules.specs.Formula.{atom, plain, negated, encode_formula}
use Rattle.rules.specs.Term.{Term, one, promote, nodes, encode, fits}
use Rattle.rules.specs.Proof.{Proof, Axiom, OneIntro, encode_rule, encode_formulas, encode_proof}
use Rattle.rules.specs.Reading.{times, many, byte, byte_for, room, letters, spelled, name, tag, too_many, node, proof_at, whole, read_term, read_proof}
use Rattle.rules.specs.Text.{text}
use Rattle.rules.specs.Substitution.{subst}
use Rattle.rules.specs.Step.{step, contract}
use Rattle.rules.specs.Reduction.{reduce_from}
use Rattle.rules.specs.Extraction.{extract_from, extract, oldest, axiom_name}
use Rattle.rules.specs.Stored.{weighed, blocks, stored, open_block, opened_blocks, opened}
use Rattle.rules.specs.declared.Kind.TheVariants.{Term as a_term}
use Rattle.rules.specs.Calls.{step_call, extract_call, start_call}
use Rattle.rules.specs.Program.{counts_line, refusal_line, patchrun}
use Rattle.rules.proofs.Notation.{equal, promotes, v, ⟨⟩, ◌·◌, ƛ◌⇒◌, copies◌⇉◌﹐◌⨟◌, by◌on◌from◌, cuts◌from◌, hex, repeat, wrong}
use Rattle.rules.proofs.Called.{numbers, step_numbers, answers, counts, refuses◌at◌of◌}
use Rattle.rules.proofs.Past.{Row, term◌⟹◌, formula◌⟹◌, proof◌⟹◌, right, wide}

abbrev pub readings : List Row
readings =
    (term [] ⟹ refuses 3 at 0 of 1)
    ∷ (term hex "02 02" ⟹ refuses 7 at 1 of 1)
    ∷ (term hex "12" ⟹ refuses 4 at 0 of 1)
    ∷ (term replicate 511 14 ‥ hex "02" ⟹ counts 512)
    ∷ (term replicate 512 14 ‥ hex "02" ⟹ refuses 6 at 512 of 1)
    ∷ (term hex "01 18" ‥ replicate 24 120 ⟹ counts 1)
    ∷ (term hex "01 19" ‥ replicate 25 120 ⟹ refuses 5 at 1 of 1)
    -- the limits: bytes, rules, formula nodes; 255 formulas
    ∷ (term wide 17 ⟹ counts 303)
    ∷ (proof repeat 511 (hex "04 00 01") ‥ hex "03 00 00" ⟹ counts 512)
    ∷ (formula replicate 1023 11 ‥ hex "05" ⟹ counts 1024)
    ∷ (proof hex "03 ff" ‥ replicate 255 5 ‥ hex "00" ⟹ counts 1)
    ∷ []

pub readings-hold : wrong right readings ≡ []
unfolding right
readings-hold = refl

-- ---- steps, extractions, a file of two blocks, and a program that is refused

infix 55 step_of◌⟹◌
infix 55 cut_on◌at◌⟹◌
infix 55 file_of◌⟹◌
infix 55 program◌⟹◌
pub data Run : Type 0 where
  step_of◌⟹◌ : Term → List ℕ → Run
  -- Cut on an atom, with Axiom of its negation as the consumer, from a counter: the start of the extracted term
  cut_on◌at◌⟹◌ : (atom : String) (counter : ℕ) → Bytes → Run
  file_of◌⟹◌ : (content : Bytes) → List ℕ → Run
  program◌⟹◌ : Term → String → Run

abbrev pub cut_upon : String → Proof
cut_upon a = cuts atom plain (say a) from (by OneIntro on [] from [] ∷ by Axiom on (atom negated (say a) ∷ []) from [] ∷ [])

unfoldable pub runs : Run → Bool
unfolding times many byte byte_for room letters spelled name tag too_many node proof_at whole read_term read_proof leads follows is_a_word encode nodes fits text subst step contract reduce_from extract_from extract oldest axiom_name digits step_call extract_call encode_formula encode_rule encode_formulas encode_proof weighed blocks stored open_block opened_blocks opened counts_line refusal_line patchrun
runs (step_of t ⟹ a) = equal (numbers step_numbers (step_call limits (encode t) (replicate 4096 0) (replicate 8192 0)).answer) a
runs (cut_on x at n ⟹ s) = equal (take 8 (extract_call limits (start_call n) (encode_proof (cut_upon x)) (replicate 4096 0) (replicate 8192 0) (replicate 512 (0, 0))).output) s
runs (file_of s ⟹ a) = equal (numbers (λ s. s) (opened limits a_term (stored a_term s))) a
runs (program t ⟹ w) = equal (patchrun limits (stored a_term (encode t))) (say w)

-- `copy !v as (x, y) in (x y)` for v of n Promotes and a Unit
abbrev pub copied : ℕ → Term
copied n = copies one promote (promotes n ⟨⟩) ⇉ "x" ﹐ "y" ⨟ v "x" · v "y"

abbrev pub table : List Run
table =
    (step_of copied 253 ⟹ answers (6 ∷ 0 ∷ 511 ∷ []))
    ∷ (step_of copied 254 ⟹ refuses 8 at 0 of 0)
    ∷ (cut_on "A1" at 0 ⟹ hex "06 01 03 613130 02 00")
    ∷ (cut_on "A" at 10 ⟹ hex "06 01 03 613130 02 00")
    ∷ (file_of repeat 506 (hex "0e") ‥ hex "02" ⟹ answers (repeat 506 (hex "0e") ‥ hex "02"))
    ∷ (program (ƛ "z" ⇒ v "z") · copied 254 ⟹ "refused 8 at 1\n")
    ∷ []

pub runs-hold : wrong runs table ≡ []
unfolding runs
runs-hold = refl
