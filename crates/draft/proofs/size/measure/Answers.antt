-- `size::measure` meets its contract: after i rows the first i + 2 parts are measured. Assumes nothing.
use mathlib.Core.Path.{refl}
use native.Mathlib.Omega.{arith}
use Rattle.draft.proofs.write.Sizing.{measured-two}
use Rattle.draft.proofs.size.measure.Goals as goal

pub loop-i-init : goal.loop-i-init
loop-i-init c = (refl, measured-two c.args.sizes.now (omega (arith, c.requires.room)))
