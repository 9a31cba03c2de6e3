-- How far a walk over a term came that saw no redex: what is left of the term. Assumes nothing: these are definitions.
use Rattle.std.specs.Prelude.{ℕ, ◌+◌, ◌≡◌, List, length}
use Rattle.rules.specs.Basic.{Bytes}
use Rattle.rules.specs.Term.{Term, encode}
use Rattle.term.specs.Node.{encode_all}
use Rattle.term.specs.Place.{TermsAt}
use Rattle.redex.specs.Calm.{Calm, CalmAfter}

-- the terms left at i, after a node with the tag `last`; where they are calm, t is
pub record Left (s : Bytes) (i last : ℕ) (t : Term) : Type 0 where
  pub row : List Term
  pub stand : TermsAt s i (length row) row
  pub ends : i + length (encode_all row) ≡ length s
  pub calms : CalmAfter last row → Calm t

-- of every term that these bytes are
abbrev pub Swept : Bytes → ℕ → ℕ → Type 0
Swept s i last = (t : Term) → s ≡ encode t → Left s i last t
