-- `ahead::names_end` meets its contract: no name, one, or one and then one more. Assumes nothing.
use native.Mathlib.Omega.{arith}
use mathlib.Core.Path.{◌≡◌}
use Rattle.reader.specs.Words.{spelling_of}
use Rattle.reader.proofs.ahead.Named.{none-to, one-to, two-end}
use Rattle.reader.proofs.ahead.Further.{short}
use Rattle.reader.proofs.ahead.names_end.Goals as goal

pub returns : goal.returns
returns c = let a = c.args in
    let z : a.names ≡ 2 = omega arith in
    rw z (two-end a.s.now (spelling_of a.form) a.at c.in_ok-first.first (short a.form) c.in_ok-first.ensures c.name_end-2.result c.name_end-2.ensures)

pub returns-then-names-eq0 : goal.returns-then-names-eq0
returns-then-names-eq0 c = rw c.if-names-eq0.true (none-to c.args.s.now (spelling_of c.args.form) c.args.at)

pub returns-then-names-eq1 : goal.returns-then-names-eq1
returns-then-names-eq1 c = let a = c.args in rw c.if-names-eq1.true (one-to a.s.now (spelling_of a.form) a.at c.in_ok-first.first (short a.form) c.in_ok-first.ensures)
