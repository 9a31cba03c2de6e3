-- `line::put_fields` meets its contract: what is left to write makes up the whole. Assumes nothing.
use Rattle.std.proofs.Common.{◌≡◌, ◌+◌, ◌≤◌, length, drop}
use lib.Seq.{sets}
use Rattle.program.specs.Field.{fields_text, fields_room}
use Rattle.program.proofs.line.put_fields.Given as goal

abbrev pub invariant-loop-word : goal.invariant-loop-word
invariant-loop-word l =
    (length l.out ≡ length l.initial.out) × (l.past + fields_room (drop l.word-index l.fields) ≤ l.at + fields_room l.fields)
    × (sets l.out l.past (fields_text (drop l.word-index l.fields)) ≡ sets l.initial.out l.at (fields_text l.fields))
    × (l.past + length (fields_text (drop l.word-index l.fields)) ≡ l.at + length (fields_text l.fields))
