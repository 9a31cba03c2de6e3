-- `name::is_plain` meets its contract: by the table the first letter starts no word as long, or the last is a digit. Assumes nothing.
use Prim.Native.Nat.{◌-◌}
use native.Mathlib.Omega.{arith}
use mathlib.Core.Path.{sym, ◌∙◌}
use borrow.Author.Tests.{ltb-true}
use Rattle.reader.specs.Words.{spelling_of}
use Rattle.reader.proofs.word.Wordless.{started-allowed, digit-allowed}
use Rattle.reader.proofs.name.is_plain.Goals as goal

pub returns : goal.returns
returns c = let a = c.args in λ e. digit-allowed a.form a.s.now a.at a.end (omega arith) (omega arith) (ltb-true _ _ e)

pub returns-then-starts : goal.returns-then-starts
returns-then-starts c = let a = c.args in
    λ e. started-allowed (spelling_of a.form) a.t.now c.requires.alphabet a.s.now a.at (a.end - a.at) (omega (arith, c.type_inv.s a.at)) (sym c.starts.ensures ∙ c.if-starts.true) (omega arith) (omega arith)
