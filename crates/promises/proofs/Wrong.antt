-- No wrong version of a public call that document 01 or request (i) names meets the call's contract: one table, each row computed at the document's own limits.
use mathlib.Core.Path.{◌≡◌, refl}
use mathlib.Core.List.{List, [], ◌∷◌, map}
use Rattle.rules.specs.Basic.{say, ◌‥◌}
use Rattle.rules.specs.Formula.{encode_formula}
use Rattle.rules.specs.Term.{Term, encode}
use Rattle.rules.specs.Proof.{Proof, encode_proof, encode_rule, encode_formulas}
use Rattle.rules.proofs.Notation.{v, ƛ◌⇒◌, hex, wrong}
use Rattle.rules.specs.Straight.{Each}
use Rattle.promises.specs.PublicCalls.{Call, Input, check_term, check_formula, check_proof, is_normal_term, is_straight_term, locate, child, child_fault, term_text, text_of_formula, free_names, store, load, substitute, step, reduce, extract, extractor, printed}
use Rattle.promises.specs.Wrong.{Wrong, refuses-with-1, refuses-with-3, answers-unit, answers-normal, says-yes, copies-input, repeats-first-step, counts-next-rule, counts-all-as-app, counts-one-more, puts-in-together, renames-on-capture, enters-branches, enters-abort, enters-copy-body, skips-half-way, leaves-output-on-8, seeks-newest, takes-names-early, raises-counter-on-refusal, leaves-scratch, leaves-entries, clears-scratch-on-refusal, clears-entries-on-refusal, leaves-byte-behind, writes-on-refusal, takes-words}
use Rattle.promises.proofs.Wrong.Refuting.{Row, ◌∶◌on◌, Refuted, differs, all-refuted}
use Rattle.promises.proofs.Wrong.Inputs.{accepted, faulty, a_word, wordy, output, scratch, entries}
use Rattle.promises.proofs.Wrong.Patches.{caught, crossed, copies_crossed, in_abort, in_body, in_left, in_right, half_way, copies_half_way, grows, two_entries, plus_of_names}
pub mod Refuting
pub mod Inputs
pub mod Patches
pub mod NothingWrong
pub mod Meant

infix 50 ◌for◌on◌
abbrev pub writing : List Call
writing = term_text ∷ text_of_formula ∷ free_names ∷ store ∷ load ∷ substitute ∷ step ∷ reduce ∷ extract ∷ extractor ∷ []

abbrev pub working : List Call
working = substitute ∷ step ∷ reduce ∷ extract ∷ extractor ∷ []

abbrev pub calls : List Call
calls = check_term ∷ check_formula ∷ check_proof ∷ is_normal_term ∷ is_straight_term ∷ locate ∷ child ∷ child_fault ∷ printed ∷ writing

-- a wrong version of several calls, each on an input of its own
abbrev pub ◌for◌on◌ : Wrong → List Call → ((c : Call) → Input c) → List Row
w for cs on x = map (λ c. c ∶ w on x c) cs

-- of the calls that step, on a term; of both forms of extraction, on a proof
abbrev pub stepping : Wrong → Term → List Row
stepping w t = (step ∶ w on (encode t, output, scratch)) ∷ (reduce ∶ w on (encode t, 9, output, scratch)) ∷ []

abbrev pub searching : Wrong → Term → List Row
searching w t = (is_normal_term ∶ w on encode t) ∷ stepping w t

abbrev pub extracting : Wrong → Proof → List Row
extracting w p = (extract ∶ w on (0, encode_proof p, output, scratch)) ∷ (extractor ∶ w on (0, encode_proof p, output, scratch, entries)) ∷ []

abbrev pub table : List Row
table =
    (refuses-with-1 for calls on accepted)
    ‥ (refuses-with-3 for calls on accepted)
    ‥ (answers-unit for printed ∷ working on accepted)
    ‥ (answers-normal for is_normal_term ∷ step ∷ reduce ∷ printed ∷ [] on accepted)
    ‥ (says-yes for is_straight_term ∷ [] on accepted)
    ‥ (copies-input for child ∷ printed ∷ writing on accepted)
    ‥ (repeats-first-step for reduce ∷ printed ∷ [] on accepted)
    ‥ (counts-next-rule for reduce ∷ printed ∷ [] on accepted)
    ‥ (counts-all-as-app for reduce ∷ printed ∷ [] on accepted)
    ‥ (counts-one-more for reduce ∷ printed ∷ [] on accepted)
    ‥ stepping puts-in-together crossed
    ‥ stepping puts-in-together copies_crossed
    ‥ (substitute ∶ renames-on-capture on (encode (ƛ "y" ⇒ v "x"), say "x", encode (v "y"), output, scratch)) ∷ stepping renames-on-capture caught
    ‥ searching enters-branches in_left
    ‥ searching enters-branches in_right
    ‥ searching enters-abort in_abort
    ‥ searching enters-copy-body in_body
    ‥ stepping skips-half-way half_way
    ‥ stepping skips-half-way copies_half_way
    ‥ (reduce ∶ leaves-output-on-8 on (encode grows, 9, output, scratch))
    ∷ extracting seeks-newest two_entries
    ‥ extracting takes-names-early plus_of_names
    ‥ (raises-counter-on-refusal for extractor ∷ [] on faulty)
    ‥ (leaves-scratch for printed ∷ working on accepted)
    ‥ (leaves-entries for extractor ∷ [] on accepted)
    ‥ (clears-scratch-on-refusal for working on faulty)
    ‥ (clears-entries-on-refusal for extractor ∷ [] on faulty)
    ‥ (leaves-byte-behind for printed ∷ writing on accepted)
    ‥ (writes-on-refusal for writing on faulty)
    -- words: taken for names, in each input of substitute too; told as the other refusals of reading
    ‥ (takes-words for calls on wordy)
    ‥ (substitute ∶ takes-words on (hex "02", say "in", hex "02", output, scratch))
    ∷ (substitute ∶ takes-words on (hex "02", say "x", a_word, output, scratch))
    ∷ (clears-scratch-on-refusal for working on wordy)
    ‥ (clears-entries-on-refusal for extractor ∷ [] on wordy)
    ‥ (raises-counter-on-refusal for extractor ∷ [] on wordy)
    ‥ (writes-on-refusal for writing on wordy)

all-differ : wrong differs table ≡ []
unfolding differs encode_formula encode_rule encode_formulas encode_proof encode
all-differ = refl

pub no-wrong-version-meets-its-contract : Each Refuted table
no-wrong-version-meets-its-contract = all-refuted table all-differ
