-- `run::printed` meets its contract: zeros behind what is printed. Assumes nothing.
use Rattle.program.proofs.run.Starting.{starts-filled}
use Rattle.program.proofs.run.printed.Goals as goal

pub returns : goal.returns
returns c =
    let p = c.print_file-end in
    let a = c.args in
    record {
      value = p.ensures.starts.ends;
      out_after = starts-filled p.ensures.starts a.out.now p.auto.out c.clear.ensures;
      term_after = p.ensures.term_after;
      scratch_after = p.ensures.scratch_after;
    }
