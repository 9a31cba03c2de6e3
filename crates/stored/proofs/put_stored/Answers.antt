-- `stored::put_stored` meets its contract: the blocks, then zeros. Assumes nothing.
use Rattle.std.specs.Prelude.{Ok}
use mathlib.Core.Path.{ap, ◌∙◌}
use native.Mathlib.Nat.{zero-add}
use native.Mathlib.Omega.{arith}
use Rattle.stored.specs.Blocks.{length-stored}
use Rattle.buffer.specs.Writing.{filled-up}
use Rattle.stored.proofs.put_stored.Goals as goal

pub clear-requires : goal.clear-requires
clear-requires c =
    let p = c.put_blocks-size in
    omega (arith, p.ensures.ends, p.auto.out, c.requires, length-stored c.args.kind c.args.content.now)

pub returns : goal.returns
returns c =
    let p = c.put_blocks-size in
    let l = length-stored c.args.kind c.args.content.now in
    record {
      output = filled-up p.ensures c.clear.ensures (omega (arith, l, c.requires));
      answer = ap Ok (p.ensures.ends ∙ zero-add _);
    }
