-- Inputs for the tables: of each call one that is accepted and gives it something to do, one that is refused, and one with a word. What is lent is full of sevens.
-- Assumes nothing: these are definitions.
use mathlib.Core.List.{List, []}
use lib.ListN.{replicate}
use Rattle.rules.specs.Basic.{Bytes, say, ◌‥◌}
use Rattle.rules.specs.Limits.{limits, output_room, text_room, formula_text_room, stored_room, scratch_room, entry_room}
use Rattle.rules.specs.Calls.{Entry}
use Rattle.rules.specs.declared.Kind.TheVariants.{Term as a_term}
use Rattle.rules.proofs.Notation.{hex, repeat}
use Rattle.program.specs.Printing.{printed_room}
use Rattle.promises.specs.PublicCalls.{Call, Input, check_term, check_formula, check_proof, is_normal_term, is_straight_term, locate, child, child_fault, term_text, text_of_formula, free_names, store, load, substitute, step, reduce, extract, extractor, printed}

-- lent buffers, each as long as is asked
abbrev pub output : Bytes
output = replicate (output_room limits) 7

abbrev pub scratch : Bytes
scratch = replicate (scratch_room limits) 7

abbrev pub text_output : Bytes
text_output = replicate (text_room limits) 7

abbrev pub formula_text_output : Bytes
formula_text_output = replicate (formula_text_room limits) 7

abbrev pub stored_output : Bytes
stored_output = replicate (stored_room limits) 7

abbrev pub printed_output : Bytes
printed_output = replicate (printed_room limits) 7

abbrev pub entries : List Entry
entries = replicate (entry_room limits) (7, 7)

-- P7, in bytes
abbrev pub two_steps_bytes : Bytes
two_steps_bytes = hex "0b 06 05 0178 01 0178 03 01 0161 01 0162"

-- P12
abbrev pub identity : Bytes
identity = hex "01 01 05 00"

-- its stored form
abbrev pub file : Bytes
file = hex "01 00 0f00" ‥ two_steps_bytes ‥ repeat 491 (hex "00") ‥ hex "5e18"

abbrev pub accepted : (c : Call) → Input c
accepted check_term = hex "02"
accepted check_formula = hex "05"
accepted check_proof = identity
accepted is_normal_term = two_steps_bytes
accepted is_straight_term = two_steps_bytes
accepted locate = (two_steps_bytes, 0)
accepted child = (two_steps_bytes, 0)
accepted child_fault = (two_steps_bytes, 0)
accepted term_text = (two_steps_bytes, text_output)
accepted text_of_formula = (hex "02 01 41", formula_text_output)
accepted free_names = (two_steps_bytes, output)
accepted store = (a_term, hex "02", stored_output)
accepted load = (a_term, file, output)
accepted substitute = (hex "01 01 78", say "x", two_steps_bytes, output, scratch)
accepted step = (two_steps_bytes, output, scratch)
accepted reduce = (two_steps_bytes, 9, output, scratch)
accepted extract = (5, identity, output, scratch)
accepted extractor = (5, identity, output, scratch, entries)
accepted printed = (file, output, scratch, printed_output)

-- a byte left over, or 513 bytes of a file
abbrev pub faulty : (c : Call) → Input c
faulty check_term = hex "02 02"
faulty check_formula = hex "05 05"
faulty check_proof = hex "03 00 00 00"
faulty is_normal_term = hex "02 02"
faulty is_straight_term = hex "02 02"
faulty locate = (hex "02 02", 0)
faulty child = (hex "02 02", 0)
faulty child_fault = (hex "02 02", 0)
faulty term_text = (hex "02 02", text_output)
faulty text_of_formula = (hex "05 05", formula_text_output)
faulty free_names = (hex "02 02", output)
faulty store = (a_term, hex "02 02", stored_output)
faulty load = (a_term, [], output)
faulty substitute = (hex "02 02", say "x", hex "02", output, scratch)
faulty step = (hex "02 02", output, scratch)
faulty reduce = (hex "02 02", 9, output, scratch)
faulty extract = (5, hex "03 00 00 00", output, scratch)
faulty extractor = (5, hex "03 00 00 00", output, scratch, entries)
faulty printed = ([], output, scratch, printed_output)

-- the variable `in`, the atom `in`, and an Axiom of that; their stored form
abbrev pub a_word : Bytes
a_word = hex "01 02 696e"

abbrev pub wordy_proof : Bytes
wordy_proof = hex "01 01 01 02 696e 00"

abbrev pub wordy_file : Bytes
wordy_file = hex "01 00 0400" ‥ a_word ‥ repeat 502 (hex "00") ‥ hex "6d06"

abbrev pub wordy : (c : Call) → Input c
wordy check_term = a_word
wordy check_formula = a_word
wordy check_proof = wordy_proof
wordy is_normal_term = a_word
wordy is_straight_term = a_word
wordy locate = (a_word, 0)
wordy child = (hex "0e" ‥ a_word, 0)
wordy child_fault = (hex "0e" ‥ a_word, 0)
wordy term_text = (a_word, text_output)
wordy text_of_formula = (a_word, formula_text_output)
wordy free_names = (a_word, output)
wordy store = (a_term, a_word, stored_output)
wordy load = (a_term, wordy_file, output)
wordy substitute = (a_word, say "x", hex "02", output, scratch)
wordy step = (a_word, output, scratch)
wordy reduce = (a_word, 9, output, scratch)
wordy extract = (5, wordy_proof, output, scratch)
wordy extractor = (5, wordy_proof, output, scratch, entries)
wordy printed = (wordy_file, output, scratch, printed_output)
