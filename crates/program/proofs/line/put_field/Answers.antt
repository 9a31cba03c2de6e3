-- `line::put_field` meets its contract: the word, then the digits, of which there are at most 20. Assumes nothing.
use mathlib.Core.Path.{ap}
use native.Mathlib.Omega.{arith}
use lib.ListN.{length}
use lib.Seq.{take-length}
use Rattle.buffer.specs.Writing.{chain}
use Rattle.words.specs.Digits.{decimal-few, wrote_as}
use Rattle.program.proofs.line.put_field.Goals as goal

pub put_decimal-requires : goal.put_decimal-requires
put_decimal-requires c =
    let w = c.copy-past in
    omega (arith, c.requires, w.ensures.ends, w.auto.out, ap length (take-length c.args.word.now), decimal-few 19 c.args.n (omega (arith, c.ranges.n)))

pub returns : goal.returns
returns c =
    let w = c.copy-past.ensures in
    let d = c.put_decimal.ensures in
    let l = take-length c.args.word.now in
    record {
      wrote = chain (wrote_as l w) d;
      most = omega (arith, d.ends, w.ends, ap length l, decimal-few 19 c.args.n (omega (arith, c.ranges.n)));
    }
