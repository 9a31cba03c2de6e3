-- The two injections, as the sides of a case. Assumes nothing: this is a definition.
use Rattle.std.specs.Prelude.{Bool, true, false}
use Rattle.rules.specs.Term.{One, inl, inr}

abbrev pub side : Bool → One
side true = inl
side false = inr
