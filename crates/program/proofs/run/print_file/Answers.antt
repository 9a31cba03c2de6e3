-- `run::print_file` meets its contract: a file that opens is reduced from its content, one that does not is refused. Assumes nothing.
use mathlib.Core.Path.{sym, ◌∙◌}
use native.Mathlib.Omega.{arith}
use Rattle.program.proofs.run.Starting.{starts-line, starts-as}
use Rattle.program.proofs.run.Files.{opens, unopened}
use Rattle.program.proofs.run.print_file.Goals as goal

pub print_reduced-requires : goal.print_reduced-requires
print_reduced-requires c =
    let a = c.args in
    let k = c.load in
    let o = opens a.file.now a.term.now a.scratch.now a.out.now (omega (arith, c.requires.2)) k.ensures.value c.in-Ok.n c.in-Ok.is k.new.out k.ensures.out_after in
    (o.inside, c.requires.0, c.requires.1, omega (arith, c.requires.2, k.auto.out))

pub returns-in-Ok : goal.returns-in-Ok
returns-in-Ok c =
    let a = c.args in
    let k = c.load in
    let p = c.print_reduced.ensures in
    let o = opens a.file.now a.term.now a.scratch.now a.out.now (omega (arith, c.requires.2)) k.ensures.value c.in-Ok.n c.in-Ok.is k.new.out k.ensures.out_after in
    record { starts = starts-as o.prints p.starts; term_after = p.term_after ∙ sym o.terms; scratch_after = p.scratch_after ∙ sym o.scratches }

pub returns-in-Err : goal.returns-in-Err
returns-in-Err c =
    let a = c.args in
    let k = c.load in
    let o = unopened a.file.now a.term.now a.scratch.now a.out.now (omega (arith, c.requires.2)) k.ensures.value c.in-Err.r c.in-Err.is in
    record {
      starts = starts-as o.prints (starts-line c.put_refusal.ensures (omega (arith, c.requires.2, k.auto.out)));
      term_after = sym o.terms;
      scratch_after = sym o.scratches;
    }
