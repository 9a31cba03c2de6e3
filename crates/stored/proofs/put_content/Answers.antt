-- `stored::put_content` meets its contract: a copy, then zeros. Assumes nothing.
use Rattle.std.specs.Prelude.{Ok}
use mathlib.Core.Path.{ap, ◌∙◌}
use native.Mathlib.Nat.{zero-add}
use native.Mathlib.Omega.{arith}
use lib.Seq.{length-take-le}
use Rattle.buffer.specs.Writing.{filled-up}
use Rattle.stored.proofs.put_content.Goals as goal

pub returns : goal.returns
returns c =
    let w = c.copy-past.ensures in
    let n = length-take-le c.args.size c.args.s.now c.requires.0 in
    record {
      output = filled-up w c.clear.ensures (omega (arith, n, c.requires));
      answer = ap Ok (w.ends ∙ zero-add _);
    }
