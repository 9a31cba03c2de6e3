-- `part::find_in` meets its contract: the body stands at the start of what is left of the bytes. Assumes nothing.
use mathlib.Core.Path.{◌∙◌}
use native.Mathlib.Omega.{arith}
use Rattle.buffer.specs.Writing.{wrote-length}
use Rattle.substitution.proofs.place.Finds.{count-within}
use Rattle.contraction.proofs.part.Finding.{at-start, found-room, is-kept}
use Rattle.contraction.proofs.part.find_in.Goals as goal

pub returns : goal.returns
returns c =
    let a = c.requires.term_at in
    let b = c.requires.short in
    let f = (c.find_places-kept.ensures _ (at-start _ _ b.0 a.1)).1 in
    record {
      kept = λ e w. is-kept _ _ b.0 w (count-within _ _ a.2 b.1 f) (c.find_places-kept.ensures e (at-start _ _ b.0 w));
      row = wrote-length f ∙ b.1;
    }

pub slice_bounds-find_places-count : goal.slice_bounds-find_places-count
slice_bounds-find_places-count c = omega (arith, found-room _ _ c.requires.short.0 c.requires.term_at.1)

pub slice_bounds-find_places-start : goal.slice_bounds-find_places-start
slice_bounds-find_places-start c = omega (arith, found-room _ _ c.requires.short.0 c.requires.term_at.1)
