-- `free::list_names` meets its contract: it starts with no binder passed, and what is gathered is written. Assumes nothing.
use mathlib.Core.Path.{refl}
use mathlib.Core.List.{[]}
use Rattle.rules.specs.Free.{free}
use Rattle.free.proofs.Wholes.{starts, gathered, within, listed}
use Rattle.free.proofs.list_names.Goals as goal

pub gather-requires : goal.gather-requires
gather-requires c = let (t, w) = c.requires in (t, [], [], starts w refl)

pub write_names-end-requires : goal.write_names-end-requires
write_names-end-requires c = let (t, w) = c.requires in (free t, gathered w (c.gather.ensures t [] [] (starts w refl)))

pub clear-requires : goal.clear-requires
clear-requires c = let (t, w) = c.requires in within w (c.write_names-end.ensures (free t) (gathered w (c.gather.ensures t [] [] (starts w refl))))

pub returns : goal.returns
returns c = λ t w. listed w (c.write_names-end.ensures (free t) (gathered w (c.gather.ensures t [] [] (starts w refl)))) c.clear.ensures
