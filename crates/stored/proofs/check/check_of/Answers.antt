-- `check::check_of` meets its contract: zeros behind weigh nothing. Assumes nothing.
use Prim.Native.Nat.{ℕ, ◌%◌}
use mathlib.Core.Path.{◌≡◌, sym, ap, ◌∙◌}
use lib.ListN.{take}
use lib.Seq.{take-take}
use Rattle.rules.specs.Stored.{weighed}
use Rattle.stored.specs.Weights.{weighed-clean}
use Rattle.stored.proofs.check.check_of.Goals as goal
use Rattle.stored.proofs.check.check_of.Goals.{then-clean, else-clean}

pub returns : goal.returns
returns c =
    let b = c.args.block.now in
    let weighs : (n : ℕ) → c.if-clean.weighty ≡ n → c.weigh.result ≡ weighed 0 (take n b) = λ n e. c.weigh.ensures ∙ ap (λ (m : ℕ). weighed 0 (take m b)) e in
    ap
    (λ (k : ℕ). k % 65521)
    (elim c.if-clean.branch [
      | then-clean w ↦ weighs c.args.end w.weighty-is ∙ ap (weighed 0) (sym (take-take c.args.end 510 b c.requires.0))
          ∙ weighed-clean (take 510 b) c.args.end (sym c.requires.2 ∙ w.if-clean.true)
      | else-clean w ↦ weighs 510 w.weighty-is
    ])
