-- Nodes with one part and no names that are passed: reading the one node at their place finds what reading the one after them does.
-- Assumes nothing: these are definitions.
use Rattle.std.specs.Prelude.{ℕ, ◌+◌, ◌-◌, ◌≡◌, drop}
use Rattle.rules.specs.Basic.{Bytes}
use Rattle.rules.specs.Layout.{Layout}
use Rattle.rules.specs.Reading.{times, node}
use Rattle.reader.specs.View.{view}

abbrev pub OnePassed : {H A : Type 0} → Layout H A → (most : ℕ) → Bytes → (used at past : ℕ) → Type 0
OnePassed F most s used at past = view (times (node F most most) 1 used at (drop at s)) ≡ view (times (node F most most) 1 (used + (past - at)) past (drop past s))
