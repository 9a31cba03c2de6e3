-- `part::Site::put_here` meets its contract: the parts are slices of the bytes, and what is put is what the redex becomes. Assumes nothing.
use mathlib.Core.Path.{ap, sym, ◌∙◌}
use native.Mathlib.Omega.{arith}
use Rattle.std.specs.Prelude.{Option, Some}
use Rattle.substitution.specs.declared.put.Written.{Written}
use Rattle.contraction.specs.declared.part.Contraction.{Contraction}
use Rattle.contraction.proofs.part.Standing.{contracted_of}
use Rattle.contraction.proofs.part.Placed.{part_in, bounds, putting, placed}
use Rattle.contraction.proofs.part.Site.put_here.Goals as goal

pub returns : goal.returns
returns c t x e v j =
    placed j c.requires.room (c.put_in.ensures _ _ _ (putting j))
    (ap (λ (z : Contraction). Some z) c.of_written.ensures ∙ ap (λ (z : Option Written). contracted_of c.args.rule c.args.end z) (sym c.in_ok-written.was))

pub slice_bounds-put_in-end : goal.slice_bounds-put_in-end
slice_bounds-put_in-end c = omega (arith, bounds c.requires.placing.4)

pub slice_bounds-put_in-end-3 : goal.slice_bounds-put_in-end-3
slice_bounds-put_in-end-3 c = omega (arith, part_in c.requires.placing.4.value)
