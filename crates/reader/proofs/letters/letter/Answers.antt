-- `letter` meets its contract: a byte may follow where it is a letter, a digit or a line. Assumes nothing.
use mathlib.Core.Path.{sym, ap, ◌∙◌}
use mathlib.Core.Bool.{Bool, ◌||◌}
use Rattle.std.specs.Prelude.{◌==◌}
use Rattle.reader.proofs.letters.Counts.{of_class}
use Rattle.reader.proofs.letters.letter.Goals as goal
use Rattle.reader.proofs.letters.letter.Goals.{then-is_ascii_alphanumeric, else-is_ascii_alphanumeric}

pub returns : goal.returns
returns c =
    let b = c.args.b in
    let class = c.is_ascii_alphanumeric.ensures.value in
    c.from.ensures ∙ of_class b c.if-is_ascii_alphanumeric.from
    (elim c.if-is_ascii_alphanumeric.branch [
      | then-is_ascii_alphanumeric w ↦ w.from-is ∙ w.if-is_ascii_alphanumeric.true ∙ ap (λ (x : Bool). x || (b == 95)) (sym w.if-is_ascii_alphanumeric.true ∙ class)
      | else-is_ascii_alphanumeric w ↦ w.from-is ∙ ap (λ (x : Bool). x || (b == 95)) (sym w.if-is_ascii_alphanumeric.false ∙ class)
    ])
