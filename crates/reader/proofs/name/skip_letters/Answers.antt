-- `name::skip_letters` meets its contract: the first letter is tested, and then the others. Assumes nothing.
use native.Mathlib.Omega.{arith}
use mathlib.Core.Path.{◌≡◌, sym, ap, ◌∙◌}
use mathlib.Core.Bool.{true, false}
use lib.ListN.{get_or}
use Rattle.rules.specs.Name.{leads}
use Rattle.reader.specs.View.{skipped}
use Rattle.reader.proofs.class.Name.{letters-on, letters-off}
use Rattle.reader.proofs.name.skip_letters.Goals as goal

pub returns-else-leads : goal.returns-else-leads
returns-else-leads c =
    let a = c.args in
    let e : leads (get_or a.s.now a.at 0) ≡ false = cc in
    λ u. ap (skipped u) c.fault.ensures ∙ sym (letters-off a.s.now u a.at a.end (omega arith) (omega arith) e)

pub returns-then-leads : goal.returns-then-leads
returns-then-leads c =
    let a = c.args in
    let e : leads (get_or a.s.now a.at 0) ≡ true = cc in
    λ u. c.skip_following.ensures u ∙ letters-on a.s.now u a.at a.end (omega arith) (omega arith) e
