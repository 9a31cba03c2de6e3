-- Each wrong version is the one that is meant: what it makes of a patch, beside what the contract's definition makes of it. One table, computed.
use Prim.Native.Nat.{ℕ}
use Prim.Native.String.{String}
use mathlib.Core.Path.{◌≡◌, refl}
use mathlib.Core.Bool.{Bool, false, ◌&&◌}
use mathlib.Core.List.{List, [], ◌∷◌}
use Rattle.std.specs.Prelude.{◌==◌, Ok, Err}
use Rattle.rules.specs.Basic.{say, digits}
use Rattle.rules.specs.Refusal.{Outcome}
use Rattle.rules.specs.Term.{Term, nodes, encode, fits}
use Rattle.rules.specs.Proof.{Proof}
use Rattle.rules.specs.Text.{text}
use Rattle.rules.specs.Free.{insert, union, without, free}
use Rattle.rules.specs.Name.{before}
use Rattle.rules.specs.Substitution.{subst}
use Rattle.rules.specs.Step.{Stepped, normal, found, contract}
use Rattle.rules.specs.Reduction.{Reduced, stopped, outgrew}
use Rattle.rules.specs.Extraction.{oldest, axiom_name}
use Rattle.rules.proofs.Notation.{equal, wrong}
use Rattle.promises.specs.Wrong.{Wrong, nothing, answers-unit, answers-normal, copies-input, repeats-first-step, counts-one-more, puts-in-together, renames-on-capture, enters-branches, enters-abort, enters-copy-body, seeks-newest, takes-names-early}
use Rattle.promises.specs.Wrong.Put.{first_free, put_in}
use Rattle.promises.specs.Wrong.Step.{contract_by, step_by, stepped}
use Rattle.promises.specs.Wrong.Reduction.{reduce_from_by, reduced}
use Rattle.promises.specs.Wrong.Extraction.{extract_by, extracted}
use Rattle.promises.proofs.Wrong.Patches.{two_steps, caught, crossed, copies_crossed, in_abort, in_body, in_left, in_right, two_entries, plus_of_names}

infix 50 ◌steps◌to◌
infix 50 ◌reduces◌to◌after◌
infix 50 ◌extracts◌to◌
-- What is made, as it is printed; of a reduction with limit 9 the count of steps too.
pub data Row : Type 0 where
  ◌steps◌to◌ : Wrong → Term → String → Row
  ◌reduces◌to◌after◌ : Wrong → Term → String → (taken : ℕ) → Row
  ◌extracts◌to◌ : Wrong → Proof → String → Row

abbrev pub is_step : String → Stepped → Bool
is_step s normal = false
is_step s (found r p h t) = equal (text t) (say s)

abbrev pub is_reduced : String → ℕ → Reduced → Bool
is_reduced s n (stopped m c b t) = (m == n) && equal (text t) (say s)
is_reduced s n (outgrew m t) = false

abbrev pub is_extracted : String → Outcome (Term × ℕ) → Bool
is_extracted s (Ok r) = equal (text r.0) (say s)
is_extracted s (Err r) = false

unfoldable pub right : Row → Bool
unfolding text digits nodes encode fits before insert union without free subst contract oldest axiom_name first_free put_in contract_by step_by stepped reduce_from_by reduced extract_by extracted
right (w steps t to s) = is_step s (stepped w t)
right (w reduces t to s after n) = is_reduced s n (reduced w 9 t)
right (w extracts p to s) = is_extracted s (extracted w 0 p)

abbrev pub table : List Row
table =
    (nothing steps crossed to "(() ())")
    ∷ (puts-in-together steps crossed to "(y ())")
    ∷ (nothing steps copies_crossed to "(!!y !y)")
    ∷ (puts-in-together steps copies_crossed to "(!y !y)")
    ∷ (nothing steps caught to "λy. y")
    ∷ (renames-on-capture steps caught to "λx0. y")
    ∷ (enters-branches steps in_left to "case s of { inl x => () | inr y => y }")
    ∷ (enters-branches steps in_right to "case s of { inl x => x | inr y => () }")
    ∷ (enters-abort steps in_abort to "absurd ()")
    ∷ (enters-copy-body steps in_body to "copy s as (x, y) in ()")
    ∷ (nothing steps two_steps to "fst (a, b)")
    ∷ (answers-unit steps two_steps to "()")
    ∷ (copies-input steps two_steps to "fst (λx. x (a, b))")
    ∷ (nothing reduces two_steps to "a" after 2)
    ∷ (answers-normal reduces two_steps to "fst (λx. x (a, b))" after 0)
    ∷ (repeats-first-step reduces two_steps to "fst (a, b)" after 9)
    ∷ (counts-one-more reduces two_steps to "a" after 3)
    ∷ (nothing extracts two_entries to "((a0 ()) ())")
    ∷ (seeks-newest extracts two_entries to "((a1 ()) ())")
    ∷ (nothing extracts plus_of_names to "case λx1. x1 of { inl x2 => () | inr x3 => () }")
    ∷ (takes-names-early extracts plus_of_names to "case λx3. x3 of { inl x1 => () | inr x2 => () }")
    ∷ []

pub each-is-meant : wrong right table ≡ []
unfolding right
each-is-meant = refl
