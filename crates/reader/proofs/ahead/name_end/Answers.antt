-- `ahead::name_end` meets its contract: each test says a field of it. Assumes nothing.
use Prim.Native.Nat.{◌+◌, ◌<◌, ◌≤◌}
use native.Mathlib.Omega.{arith}
use mathlib.Core.Path.{◌≡◌, sym, ◌∙◌}
use mathlib.Core.Bool.{true}
use lib.ListN.{get_or}
use Rattle.reader.specs.Words.{spelling_of}
use Rattle.reader.specs.Classes.{starts_of}
use Rattle.reader.proofs.ahead.Further.{short}
use Rattle.reader.proofs.word.Wordless.{started-allowed}
use Rattle.reader.proofs.ahead.name_end.Goals as goal
use Rattle.reader.proofs.ahead.name_end.Goals.{then-starts-via-then-starts, then-starts-via-else-starts+then-is_no_word}

pub is_no_word-requires-clause-at_in_bounds : goal.is_no_word-requires-clause-at_in_bounds
is_no_word-requires-clause-at_in_bounds c = omega (arith, short c.args.form, c.longest_name.ensures)

pub returns-then-starts : goal.returns-then-starts
returns-then-starts c = let a = c.args in
    let n = get_or a.s.now a.at 0 in
    let byte : get_or a.s.now (a.at + 1) 0 < 256 = omega (arith, c.type_inv.s (a.at + 1)) in
    let most : n ≤ (spelling_of a.form).longest = omega (arith, c.longest_name.ensures) in
    elim c.then-starts.branch [
      | then-starts-via-then-starts w ↦
          let says : starts_of a.t.now (get_or a.s.now (a.at + 1) 0) n ≡ true = sym c.starts.ensures ∙ w.if-starts.true in
          let led = c.requires.alphabet.started (get_or a.s.now (a.at + 1) 0) n byte (omega (arith, most, short a.form)) says in
          record { ends = omega arith; least = led.1; most = most; lead = led.0; allowed = started-allowed (spelling_of a.form) a.t.now c.requires.alphabet a.s.now (a.at + 1) n byte says led.1 }
      | then-starts-via-else-starts+then-is_no_word w ↦
          let good = w.is_no_word.ensures w.if-is_no_word.true in
          record { ends = omega arith; least = good.0; most = most; lead = good.1; allowed = λ _. good.2 }
    ]

pub starts-requires-clause-n_le_name_most : goal.starts-requires-clause-n_le_name_most
starts-requires-clause-n_le_name_most c = omega (arith, short c.args.form, c.longest_name.ensures)
