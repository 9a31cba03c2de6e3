-- `child::child` meets its contract: the part that was located, or none. Assumes nothing.
use mathlib.Core.Path.{refl, ap, ◌∙◌}
use Prim.Native.Nat.{ℕ, ◌+◌}
use native.Mathlib.Nat.{add_comm}
use Rattle.term.proofs.child.Children.{part-ordered, part-within, part-is, part-starts, missing-is, missing-starts}
use Rattle.term.proofs.child.child.Goals as goal

pub returns-in-Err : goal.returns-in-Err
returns-in-Err c =
    let a = c.args in
    let at = c.locate.ensures in
    let is = c.in-Err.is in
    record { result_value = missing-is a.term.now a.k _ at _ is; starts_in = (refl, add_comm _ _ ∙ ap (λ (n : ℕ). a.term.ref_ptr.1 + n) (missing-starts a.term.now a.k _ at _ is)) }

pub returns-in-Ok : goal.returns-in-Ok
returns-in-Ok c =
    let a = c.args in
    let at = c.locate.ensures in
    let is = c.in-Ok.is in
    record { result_value = part-is a.term.now a.k _ at _ is; starts_in = (refl, add_comm _ _ ∙ ap (λ (n : ℕ). a.term.ref_ptr.1 + n) (part-starts a.term.now a.k _ at _ is)) }

pub slice_bounds-result-count : goal.slice_bounds-result-count
slice_bounds-result-count c = part-ordered c.args.term.now c.args.k _ c.locate.ensures _ c.in-Ok.is

pub slice_bounds-result-end : goal.slice_bounds-result-end
slice_bounds-result-end c = part-within c.args.term.now c.args.k _ c.locate.ensures _ c.in-Ok.is

pub slice_bounds-result-start : goal.slice_bounds-result-start
slice_bounds-result-start c = part-ordered c.args.term.now c.args.k _ c.locate.ensures _ c.in-Ok.is
