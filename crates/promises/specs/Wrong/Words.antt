-- A version that takes the word `in` for a name reads another name there, `xn`.
-- Assumes nothing: these are definitions.
use Rattle.std.specs.Prelude.{Bool, true, false, ◌&&◌, [], ◌∷◌, take, drop, if◌then◌else◌, ◌==◌}
use Rattle.rules.specs.Basic.{Bytes}
use Rattle.rules.specs.declared.Kind.{Kind}
use Rattle.rules.specs.Stored.{stored, length_in}
use Rattle.rules.specs.declared.Kind.TheVariants.{Term as a_term}
use Rattle.promises.specs.PublicCalls.{Call, Input, check_term, check_formula, check_proof, is_normal_term, is_straight_term, locate, child, child_fault, term_text, text_of_formula, free_names, store, load, substitute, step, reduce, extract, extractor, printed}
use Rattle.promises.specs.Wrong.{Wrong, ◌is◌, takes-words}

-- an i behind a length of two
abbrev pub respelled_from : (first : Bool) → Bytes → Bytes
respelled_from first [] = []
respelled_from first (b ∷ s) = (if first && (b == 105) then 120 else b) ∷ respelled_from (b == 2) s

abbrev pub respelled : Bytes → Bytes
respelled s = respelled_from false s

-- a bare name; the content of a file of one block
abbrev pub respelled_name : Bytes → Bytes
respelled_name x = respelled_from true x

abbrev pub respelled_file : Kind → Bytes → Bytes
respelled_file k f = stored k (respelled (take (length_in f) (drop 4 f)))

abbrev pub respelled_input : (c : Call) → Input c → Input c
respelled_input check_term = respelled
respelled_input check_formula = respelled
respelled_input check_proof = respelled
respelled_input is_normal_term = respelled
respelled_input is_straight_term = respelled
respelled_input locate = λ (t, k). (respelled t, k)
respelled_input child = λ (t, k). (respelled t, k)
respelled_input child_fault = λ (t, k). (respelled t, k)
respelled_input term_text = λ (t, o). (respelled t, o)
respelled_input text_of_formula = λ (f, o). (respelled f, o)
respelled_input free_names = λ (t, o). (respelled t, o)
respelled_input store = λ (k, s, o). (k, respelled s, o)
respelled_input load = λ (k, f, o). (k, respelled_file k f, o)
respelled_input substitute = λ (t, x, v, o, s). (respelled t, respelled_name x, respelled v, o, s)
respelled_input step = λ (t, o, s). (respelled t, o, s)
respelled_input reduce = λ (t, n, o, s). (respelled t, n, o, s)
respelled_input extract = λ (n, p, o, s). (n, respelled p, o, s)
respelled_input extractor = λ (n, p, o, s, es). (n, respelled p, o, s, es)
respelled_input printed = λ (f, t, s, o). (respelled_file a_term f, t, s, o)

-- what a version reads
abbrev pub read_by : Wrong → (c : Call) → Input c → Input c
read_by w c x = if w is takes-words then respelled_input c x else x
