-- A term with a part of it, and a term with a binder of it, in a list of bytes. Assumes nothing: these are definitions.
use Rattle.std.specs.Prelude.{ℕ}
use Rattle.rules.specs.Basic.{Bytes}
use Rattle.rules.specs.Name.{Name}
use Rattle.rules.specs.Term.{Term}
use Rattle.term.specs.Place.{TermAt, NameAt}

-- the term w starts the list, and the term t stands at i
pub record Within (s : Bytes) (i : ℕ) (w t : Term) : Type 0 where
  pub whole : TermAt s 0 w
  pub here : TermAt s i t

-- the term w starts the list, the name x stands at i, and the term e at j
pub record Binds (s : Bytes) (i j : ℕ) (w : Term) (x : Name) (e : Term) : Type 0 where
  pub whole : TermAt s 0 w
  pub named : NameAt s i x
  pub covers : TermAt s j e
