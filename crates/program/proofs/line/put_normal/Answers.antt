-- `line::put_normal` meets its contract: one word or the other. Assumes nothing.
use mathlib.Core.Path.{◌≡◌, sym, ap, ◌∙◌}
use mathlib.Core.Bool.{Bool}
use mathlib.Core.List.{[], ◌∷◌}
use denote.Ref.{Bor}
use lib.Seq.{take-length}
use Rattle.rules.specs.Basic.{Bytes, say, ◌‥◌}
use Rattle.rules.specs.Program.{yes_no}
use Rattle.words.specs.Digits.{wrote_as}
use Rattle.program.proofs.line.put_normal.Goals as goal
use Rattle.program.proofs.line.put_normal.Goals.{then-normal, else-normal}

abbrev line_for : Bool → Bytes
line_for b = say " normal " ‥ say (yes_no b) ‥ 10 ∷ []

pub returns : goal.returns
returns c =
    let t = c.if-normal.text.now in
    let e : t ≡ line_for c.args.normal =
    elim c.if-normal.branch [
      | then-normal w ↦ ap (λ (x : Bor Bytes). x.now) w.text-is ∙ ap line_for (sym w.if-normal.true)
      | else-normal w ↦ ap (λ (x : Bor Bytes). x.now) w.text-is ∙ ap line_for (sym w.if-normal.false)
    ] in
    wrote_as (take-length t ∙ e) c.copy.ensures
