-- `entry::patch_child` meets its contract: what it tells is where the child was located. Assumes nothing.
use Rattle.std.specs.Prelude.{Ok, Err}
use Prim.Native.Nat.{ℕ}
use mathlib.Core.Path.{◌≡◌, refl}
use Rattle.rules.specs.Basic.{Bytes}
use Rattle.rules.specs.Limits.{limits}
use Rattle.rules.specs.Refusal.{Outcome}
use Rattle.rules.specs.declared.Places.{Places}
use Rattle.rules.specs.Calls.{locate_call}
use Rattle.term.proofs.child.Children.{part-ordered}
use Rattle.entry.specs.Child.{ordered}
use Rattle.entry.proofs.patch_child.Goals as goal

in_order : (s : Bytes) (k : ℕ) (o : Outcome Places) → o ≡ locate_call limits s k → ordered o
in_order s k (Ok p) h = part-ordered s k (Ok p) h p refl
in_order s k (Err r) h = tt

pub tell_places-requires : goal.tell_places-requires
tell_places-requires c = in_order _ _ c.locate.result c.locate.ensures
