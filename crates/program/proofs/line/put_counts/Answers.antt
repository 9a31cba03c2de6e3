-- `line::put_counts` meets its contract: nine fields, and the end of the line. Assumes nothing.
use native.Mathlib.Omega.{arith}
use Rattle.rules.specs.Program.{counts_line, field}
use Rattle.buffer.specs.Writing.{chain}
use Rattle.words.specs.Digits.{wrote_as}
use Rattle.program.proofs.line.Counted.{nine, last-short}
use Rattle.program.proofs.line.put_counts.Goals as goal

pub returns : goal.returns
unfolding counts_line
returns c =
    let f = c.put_fields-past.ensures in
    let n = c.put_normal.ensures in
    let a = c.args in
    let k = a.counts in
    record {
      wrote =
          wrote_as
          (nine (field "steps " a.steps) (field " app " k.app) (field " let " k.lets) (field " case " k.case) (field " fst " k.fst) (field " snd " k.snd)
          (field " derelict " k.derelict) (field " copy " k.copy) (field " discard " k.discard) _)
          (chain f.wrote n);
      most = omega (arith, f.most, n.ends, last-short c.args.normal);
    }
