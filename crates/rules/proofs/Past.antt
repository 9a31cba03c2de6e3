-- Each limit passed by one, computed at the document's own limits: one table, one statement. The rooms that follow from the limits.
use Prim.Native.Nat.{ℕ}
use mathlib.Core.Path.{◌≡◌, refl}
use mathlib.Core.Bool.{Bool}
use mathlib.Core.List.{List, [], ◌∷◌, map}
use lib.ListN.{replicate}
use Rattle.rules.specs.Basic.{Bytes, ◌‥◌}
use Rattle.rules.specs.Limits.{Limits, limits, wide_limits, output_room, text_room, formula_text_room, stored_room, scratch_room, entry_room}
use Rattle.rules.specs.Name.{leads, follows, is_a_word}
use Rattle.rules.specs.Formula.{formula_nodes}
use Rattle.rules.specs.Term.{nodes}
use Rattle.rules.specs.Proof.{rules}
use Rattle.rules.specs.Reading.{times, many, byte, byte_for, room, letters, spelled, name, tag, too_many, node, proof_at, whole, read_term, read_formula, read_proof}
use Rattle.rules.specs.Calls.{check_term_call, check_formula_call, check_proof_call}
use Rattle.rules.proofs.Notation.{equal, hex, repeat, wrong}
use Rattle.rules.proofs.Called.{numbers, single, refuses◌at◌of◌}

infix 55 term◌⟹◌
infix 55 formula◌⟹◌
infix 55 proof◌⟹◌
pub data Row : Type 0 where
  term◌⟹◌ formula◌⟹◌ proof◌⟹◌ : Bytes → List ℕ → Row

unfoldable pub right : Row → Bool
unfolding times many byte byte_for room letters spelled name tag too_many node proof_at whole read_term read_formula read_proof leads follows is_a_word nodes formula_nodes rules check_term_call check_formula_call check_proof_call
right (term s ⟹ a) = equal (numbers single (check_term_call limits s)) a
right (formula s ⟹ a) = equal (numbers single (check_formula_call limits s)) a
right (proof s ⟹ a) = equal (numbers single (check_proof_call limits s)) a

-- pairs of long names, 4,079 bytes and then one name more
abbrev pub wide : ℕ → Bytes
wide n = repeat 151 (hex "03 01 18" ‥ replicate 24 120) ‥ 1 ∷ n ∷ replicate n 120

abbrev pub table : List Row
table =
    (term wide 18 ⟹ refuses 2 at 4096 of 1)
    ∷ (term replicate 512 14 ‥ hex "02" ⟹ refuses 6 at 512 of 1)
    ∷ (proof repeat 512 (hex "04 00 01") ‥ hex "03 00 00" ⟹ refuses 6 at 1536 of 1)
    ∷ (formula replicate 1024 11 ‥ hex "05" ⟹ refuses 6 at 1024 of 1)
    ∷ []

pub past-holds : wrong right table ≡ []
unfolding right
past-holds = refl

-- The rooms are the document's, also for request (ix).
abbrev pub rooms : Limits → List ℕ
rooms L = map (λ f. f L) (output_room ∷ text_room ∷ formula_text_room ∷ stored_room ∷ scratch_room ∷ entry_room ∷ [])

pub rooms-hold : rooms limits ≡ (4096 ∷ 20480 ∷ 11264 ∷ 4608 ∷ 8192 ∷ 512 ∷ [])
rooms-hold = refl

pub wide-rooms-hold : rooms wide_limits ≡ (12288 ∷ 61440 ∷ 33792 ∷ 12800 ∷ 24576 ∷ 1536 ∷ [])
wide-rooms-hold = refl
