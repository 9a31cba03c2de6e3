-- `word::first` meets its contract: when the loop ends nothing is left, so all of the word is written, of which the first n bytes count.
-- Assumes nothing.
use Rattle.std.proofs.Common.{◌≡◌, ◌+◌, [], drop, arith, sym, ap, ◌∙◌, drop_of_length-le}
use Rattle.std.proofs.lemmas.List.Edits.{sets}
use Rattle.words.specs.Written.{prints}
use Rattle.words.proofs.word.first.Goals as goal

pub returns : goal.returns
returns g c =
    let a = c.args in
    let l = c.loop-i in
    let fits = c.requires in
    let none : drop l.i a.w.now ≡ [] = drop_of_length-le a.w.now (omega (arith, c.told-w, c.loop-i-test.false)) in
    prints a.out.now a.w.now a.to a.n (omega (arith, fits.0, c.told-w)) (omega (arith, fits.1, c.told-w)) l.out
    (sym (ap (sets l.out (a.to + l.i)) none) ∙ l.invariant.1)
