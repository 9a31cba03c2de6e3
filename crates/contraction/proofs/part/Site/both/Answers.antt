-- `part::Site::both` meets its contract: the body stands behind the two values, which go in one after the other. Assumes nothing.
use mathlib.Core.Path.{ap, sym, ◌∙◌}
use native.Mathlib.Omega.{arith}
use Rattle.std.specs.Prelude.{Option, Some}
use Rattle.substitution.specs.declared.put.Written.{Written}
use Rattle.contraction.specs.declared.part.Contraction.{Contraction}
use Rattle.contraction.proofs.part.Standing.{contracted_of}
use Rattle.contraction.proofs.part.Placed.{part_in, both-bounds, array-room, turning, paired}
use Rattle.contraction.proofs.part.Site.both.Goals as goal

pub in_turn-requires : goal.in_turn-requires
in_turn-requires c =
    let j = c.requires.pairing.6 in
    record {
      turns = (_, _, _, _, turning j (c.find_in-body.ensures.kept _ j.body_at));
      row = (c.find_in-body.ensures.row, array-room, c.requires.row.1);
    }

pub returns-clause-contracts : goal.returns-clause-contracts
returns-clause-contracts c t x y e v w j =
    let k = c.find_in-body.ensures.kept _ j.body_at in
    paired j k c.requires.row.1 (c.in_turn.ensures.puts _ _ _ _ (turning j k))
    (ap (λ (z : Contraction). Some z) c.of_written.ensures ∙ ap (λ (z : Option Written). contracted_of c.args.rule c.find_in-body.result.end z) (sym c.in_ok-written.was))

pub returns-in_err-written-clause-contracts : goal.returns-in_err-written-clause-contracts
returns-in_err-written-clause-contracts c t x y e v w j =
    let k = c.find_in-body.ensures.kept _ j.body_at in
    paired j k c.requires.row.1 (c.in_turn.ensures.puts _ _ _ _ (turning j k))
    (c.from_residual.ensures ∙ ap (λ (z : Option Written). contracted_of c.args.rule c.find_in-body.result.end z) (sym c.in_err-written.was))

pub slice_bounds-in_turn-end : goal.slice_bounds-in_turn-end
slice_bounds-in_turn-end c =
    let j = c.requires.pairing.6 in
    omega (arith, both-bounds j (c.find_in-body.ensures.kept _ j.body_at))

pub slice_bounds-in_turn-end-2 : goal.slice_bounds-in_turn-end-2
slice_bounds-in_turn-end-2 c = omega (arith, part_in c.requires.pairing.6.first)

pub slice_bounds-in_turn-end-4 : goal.slice_bounds-in_turn-end-4
slice_bounds-in_turn-end-4 c = omega (arith, part_in c.requires.pairing.6.second)
