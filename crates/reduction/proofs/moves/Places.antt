-- A place by its numbers. Assumes nothing.
use Prim.Native.Nat.{ℕ}
use Rattle.reduction.specs.declared.place.Place.{Place}

abbrev pub place : (o i d : ℕ) → Place
place o i d = record { o = o; i = i; depth = d }
