-- The definitions held against the Rust as published: a case is what the Rust was given and what it answered, in hexadecimal.
-- Assumes nothing: these are definitions.
use Rattle.std.specs.Prelude.{ℕ, Bool, true, false, ◌&&◌, eqb, Ok, Err}
use Prim.Native.String.{String}
use Rattle.rules.specs.Basic.{Bytes, digits}
use Rattle.rules.specs.Limits.{limits}
use Rattle.rules.specs.Refusal.{Outcome}
use Rattle.rules.specs.Name.{encode_names, leads, follows, is_a_word, before}
use Rattle.rules.specs.Term.{Term, nodes, encode, fits}
use Rattle.rules.specs.Reading.{times, many, byte, byte_for, room, letters, spelled, name, tag, too_many, node, proof_at, whole, read_term, read_formula, read_proof, read_name}
use Rattle.rules.specs.Text.{text, text_of_formula}
use Rattle.rules.specs.Free.{insert, union, without, free}
use Rattle.rules.specs.Substitution.{subst}
use Rattle.rules.specs.Step.{Stepped, normal, found, step, contract, is_normal_term as is_normal_of}
use Rattle.rules.specs.Reduction.{Reduced, stopped, outgrew, reduce_from, reduce}
use Rattle.rules.specs.Extraction.{extract_from, extract, oldest, axiom_name}
pub use Rattle.rules.proofs.Notation.{equal, hex, wrong}

pub data Case : Type 0 where
  free_names : (term names : String) → Case
  put : (term name value result : String) → Case
  printed : (term text : String) → Case
  printed_formula : (formula text : String) → Case
  is_normal_term : (term : String) → Case
  steps : (term next : String) → Case
  reduces : (term : String) (limit : ℕ) (last : String) (none_left : Bool) → Case
  extracts : (proof : String) (counter : ℕ) (term : String) (after : ℕ) → Case

abbrev pub agrees : Bool → Bool → Bool
agrees true b = b
agrees false true = false
agrees false false = true

abbrev pub read_and : {A : Type 0} → Outcome A → (A → Bool) → Bool
read_and (Ok a) k = k a
read_and (Err r) k = false

abbrev pub stepped_to : Bytes → Stepped → Bool
stepped_to w normal = false
stepped_to w (found r p h t) = equal w (encode t)

abbrev pub reduced_to : Bytes → Bool → Reduced → Bool
reduced_to w b (stopped n c b' t) = agrees b b' && equal w (encode t)
reduced_to w b (outgrew n t) = false

abbrev pub extracted_to : Bytes → ℕ → Outcome (Term × ℕ) → Bool
extracted_to w n (Ok r) = eqb n r.1 && equal w (encode r.0)
extracted_to w n (Err r) = false

unfoldable pub right : Case → Bool
unfolding times many byte byte_for room letters spelled name tag too_many node proof_at whole read_term read_formula read_proof read_name leads follows is_a_word before insert union without free subst step contract text text_of_formula nodes encode fits reduce_from extract_from extract oldest axiom_name digits
right (free_names t w) = read_and (read_term limits 1 (hex t)) (λ u. equal (hex w) (encode_names (free u)))
right (put t x v w) = read_and (read_term limits 1 (hex t)) (λ u. read_and (read_name 2 (hex x)) (λ y. read_and (read_term limits 3 (hex v)) (λ z. equal (hex w) (encode (subst y z u)))))
right (printed t w) = read_and (read_term limits 1 (hex t)) (λ u. equal (hex w) (text u))
right (printed_formula f w) = read_and (read_formula limits 1 (hex f)) (λ u. equal (hex w) (text_of_formula u))
right (is_normal_term t) = read_and (read_term limits 1 (hex t)) (λ u. is_normal_of (step u))
right (steps t w) = read_and (read_term limits 1 (hex t)) (λ u. stepped_to (hex w) (step u))
right (reduces t n w b) = read_and (read_term limits 1 (hex t)) (λ u. reduced_to (hex w) b (reduce limits n u))
right (extracts p n w m) = read_and (read_proof limits 1 (hex p)) (λ u. extracted_to (hex w) m (extract_from limits n u))
