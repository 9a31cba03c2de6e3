-- Whether a term fits, by numbers alone: beside so many other nodes and bytes. Assumes nothing: this is a definition.
use Rattle.std.specs.Prelude.{ℕ, ◌+◌, Bool, ◌&&◌}
use Rattle.rules.specs.Basic.{◌≤?◌}
use Rattle.rules.specs.Limits.{limits}
use Rattle.rules.specs.Term.{Term, nodes, size}

unfoldable pub fits_beside : (others rest : ℕ) → Term → Bool
fits_beside others rest u = (others + nodes u ≤? limits.nodes) && (rest + size u ≤? limits.bytes)
