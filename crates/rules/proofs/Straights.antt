-- Straight terms: for each condition smallest terms that lack it alone, and every place in which it is looked for. One table, computed;
-- then the record `Straight`, clause by clause.
use mathlib.Core.Path.{◌≡◌, refl}
use mathlib.Core.Bool.{Bool, not, false≢true, ◌&&◌}
use mathlib.Core.List.{List, [], ◌∷◌}
use native.Mathlib.Omega.{arith}
use Rattle.rules.specs.Term.{Term, leaf, one, two, trivial, inl, inr, fst, snd, abort, promote, derelict, discard}
use Rattle.rules.specs.Straight.{binders, variables, count, plain, Straight, every, once, straight}
use Rattle.rules.proofs.Notation.{v, ⟨⟩, ⟨◌﹐◌⟩, ◌·◌, ƛ◌⇒◌, lets◌﹐◌≔◌⨟◌, copies◌⇉◌﹐◌⨟◌, cases◌of◌⇒◌or◌⇒◌, wrong}

pub data Row : Type 0 where
  is-straight is-not : Term → Row
  -- A binder, a use or a forbidden node in that part is seen.
  sees : (Term → Term) → Row
  -- each name at a binder of it is used once, and inside; or is not
  binds-well binds-badly : Term → Row

abbrev pub a : Term
a = v "a"

unfoldable pub right : Row → Bool
unfolding binders variables count plain once straight
right (is-straight t) = straight t
right (is-not t) = not (straight t)
right (sees f) = straight (ƛ "x" ⇒ f (v "x")) && (straight (f (ƛ "x" ⇒ v "x")) && (not (straight (f (one fst a))) && not (straight (f (ƛ "x" ⇒ ⟨⟩)))))
right (binds-well t) = every (once t) (binders t)
right (binds-badly t) = not (every (once t) (binders t))

abbrev pub table : List Row
table =
    is-straight ⟨⟩
    ∷ is-straight (leaf trivial)
    -- a name that stands at no binder is used as often as one likes
    ∷ is-straight ⟨ a ﹐ a ⟩
    ∷ is-straight (ƛ "x" ⇒ v "x")
    ∷ is-straight (lets "x" ﹐ "y" ≔ a ⨟ v "y" · v "x")
    -- P3, P9
    ∷ is-straight (one abort ((ƛ "x" ⇒ v "x") · ⟨⟩))
    ∷ is-straight ((ƛ "x" ⇒ ƛ "y" ⇒ v "x" · v "y") · a · a)
    -- no case, fst, snd, discard or copy
    ∷ is-not (cases a of "x" ⇒ v "x" or "y" ⇒ v "y")
    ∷ is-not (one fst a)
    ∷ is-not (one snd a)
    ∷ is-not (two discard a a)
    ∷ is-not (copies a ⇉ "x" ﹐ "y" ⨟ v "x" · v "y")
    -- a name at two binders
    ∷ is-not (ƛ "x" ⇒ ƛ "x" ⇒ v "x")
    ∷ is-not (lets "x" ﹐ "x" ≔ a ⨟ v "x")
    -- not used; used twice
    ∷ is-not (ƛ "x" ⇒ ⟨⟩)
    ∷ is-not (ƛ "x" ⇒ ⟨ v "x" ﹐ v "x" ⟩)
    -- used outside what it covers; LetPair covers its body only
    ∷ is-not ((ƛ "x" ⇒ ⟨⟩) · v "x")
    ∷ is-not (lets "x" ﹐ "y" ≔ v "x" ⨟ v "y")
    ∷ is-not (lets "x" ﹐ "y" ≔ v "y" ⨟ v "x")
    -- P1, P2
    ∷ is-not ((ƛ "x" ⇒ ƛ "y" ⇒ v "x") · v "y")
    ∷ is-not (lets "x" ﹐ "y" ≔ ⟨ v "y" ﹐ ⟨⟩ ⟩ ⨟ v "x" · v "y")
    -- all parts
    ∷ sees (one inl)
    ∷ sees (one inr)
    ∷ sees (one abort)
    ∷ sees (one promote)
    ∷ sees (one derelict)
    ∷ sees (λ t. ⟨ t ﹐ a ⟩)
    ∷ sees (λ t. ⟨ a ﹐ t ⟩)
    ∷ sees (λ t. t · a)
    ∷ sees (λ t. a · t)
    ∷ sees (λ t. ƛ "z" ⇒ v "z" · t)
    ∷ sees (λ t. lets "y" ﹐ "z" ≔ t ⨟ v "y" · v "z")
    ∷ sees (λ t. lets "y" ﹐ "z" ≔ a ⨟ v "y" · v "z" · t)
    -- Case's x covers its left, y its right
    ∷ binds-well (cases a of "x" ⇒ v "x" or "y" ⇒ v "y")
    ∷ binds-well (cases ƛ "z" ⇒ v "z" of "x" ⇒ v "x" · (ƛ "u" ⇒ v "u") or "y" ⇒ v "y" · (ƛ "w" ⇒ v "w"))
    ∷ binds-badly (cases v "x" of "x" ⇒ a or "y" ⇒ v "y")
    ∷ binds-badly (cases a of "x" ⇒ v "y" or "y" ⇒ v "x")
    ∷ binds-badly (cases ƛ "z" ⇒ ⟨⟩ of "x" ⇒ v "x" or "y" ⇒ v "y")
    ∷ binds-badly (cases a of "x" ⇒ v "x" · (ƛ "z" ⇒ ⟨⟩) or "y" ⇒ v "y")
    ∷ binds-badly (cases a of "x" ⇒ v "x" or "y" ⇒ v "y" · (ƛ "z" ⇒ ⟨⟩))
    ∷ []

pub straights-hold : wrong right table ≡ []
unfolding right
straights-hold = refl

-- The record holds of a straight term, and of none that lacks one of its clauses.
pub holds : Straight (lets "x" ﹐ "y" ≔ a ⨟ v "y" · v "x")
unfolding binders variables count plain
holds = record { plain = refl; once = (record { placed = refl; used = refl; inside = refl }, (record { placed = refl; used = refl; inside = refl }, tt)) }

pub asks-plain : Straight (one fst a) → ⊥
unfolding plain
asks-plain s = false≢true s.plain

pub asks-placed : Straight (ƛ "x" ⇒ ƛ "x" ⇒ v "x") → ⊥
unfolding binders count
asks-placed s = omega (arith, s.once.0.placed)

pub asks-used : Straight (ƛ "x" ⇒ ⟨⟩) → ⊥
unfolding binders variables count
asks-used s = omega (arith, s.once.0.used)

pub asks-inside : Straight ((ƛ "x" ⇒ ⟨⟩) · v "x") → ⊥
unfolding binders variables count
asks-inside s = omega (arith, s.once.0.inside)

-- of each binder, not of the first alone
pub asks-each : Straight (lets "x" ﹐ "y" ≔ a ⨟ v "x") → ⊥
unfolding binders variables count
asks-each s = omega (arith, s.once.1.0.used)
