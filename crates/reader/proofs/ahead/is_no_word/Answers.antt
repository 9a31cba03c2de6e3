-- `ahead::is_no_word` meets its contract: each test says a part of it. Assumes nothing.
use native.Mathlib.Omega.{arith}
use mathlib.Core.Path.{sym, ap, ◌∙◌}
use mathlib.Core.Bool.{not}
use Rattle.reader.proofs.word.Compared.{allowed-is}
use Rattle.reader.proofs.ahead.is_no_word.Goals as goal

pub returns : goal.returns
returns c = let a = c.args in
    λ e. (omega arith, sym c.leads.ensures ∙ c.if-not-leads.false, allowed-is a.form _ ∙ ap not (sym (c.is_word.ensures (omega arith))) ∙ e)
