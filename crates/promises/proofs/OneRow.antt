-- Extraction that has its own cut entries answers as the call of the rules does with any row of enough of them: one such row serves to compare two runs. Assumes nothing.
use Prim.Native.Nat.{◌≤◌}
use mathlib.Core.List.{List}
use native.Mathlib.Omega.{arith}
use lib.ListN.{length, replicate, length-replicate}
use Rattle.rules.specs.Limits.{limits, entry_room}
use Rattle.rules.specs.Calls.{Entry, no_entry}

abbrev row : List Entry
row = replicate (entry_room limits) no_entry

enough : entry_room limits ≤ length row
enough = omega (arith, length-replicate {A = Entry} (entry_room limits) no_entry)

abbrev Every : (List Entry → Type 0) → Type 0
Every P = (es : List Entry) → entry_room limits ≤ length es → P es

pub at_row : {P Q R : List Entry → Type 0} → Every P × (Every Q × Every R) → P row × (Q row × R row)
at_row h = (h.0 row enough, (h.1.0 row enough, h.1.1 row enough))
