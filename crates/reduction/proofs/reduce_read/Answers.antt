-- `reduction::reduce_read` meets its contract: the loop's answer, with zeros behind what it left. Assumes nothing.
use Rattle.reduction.proofs.Ending.{stop, outgrow}
use Rattle.reduction.proofs.reduce_read.Goals as goal

pub returns-in-Err : goal.returns-in-Err
returns-in-Err c = λ t d. outgrow (c.repeat_steps.ensures t d) c.args.out.now c.repeat_steps.auto.out d.room c.in-Err.is _ c.repeat_steps.new.scratch c.repeat_steps.auto.scratch c.leave-in-Err.ensures.scratch_after c.leave-in-Err.ensures.out_after

pub returns-in-Ok : goal.returns-in-Ok
returns-in-Ok c = λ t d. stop (c.repeat_steps.ensures t d) c.args.out.now c.repeat_steps.auto.out d.room c.in-Ok.is _ c.repeat_steps.new.scratch c.repeat_steps.auto.scratch c.leave.ensures.scratch_after c.leave.ensures.out_after
