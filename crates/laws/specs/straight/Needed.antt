-- Each condition of `Straight` is needed: for each a smallest term that lacks it alone and breaks a promise. antt computes the table.
-- Assumes nothing.
use Rattle.std.specs.Prelude.{ℕ, ◌+◌, ◌-◌, ◌*◌, ◌≡◌, refl, Bool, true, false, ◌||◌, List, [], ◌∷◌, map, ◌==◌}
use Rattle.rules.specs.Basic.{◌<?◌, ◌‥◌, say}
use Rattle.rules.specs.Limits.{limits}
use Rattle.rules.specs.Name.{Name}
use Rattle.rules.specs.Term.{Term, var, leaf, one, two, abs, both, branch, unit, inl, fst, snd, abort, promote, derelict, pair, app, discard, let_a_pair, copy, nodes, encode, fits}
use Rattle.rules.specs.Free.{occurrences}
use Rattle.rules.specs.Substitution.{subst}
use Rattle.rules.specs.Step.{contract, step}
use Rattle.rules.specs.Reduction.{Reduced, stopped, outgrew, reduce_from, reduce}
use Rattle.rules.specs.Straight.{binders, variables, count, stands, uses, plain, every, once, straight}

pub data Condition : Type 0 where
  no-case-fst-snd-discard-copy one_place used-once inside : Condition

pub data Promise : Type 0 where
  not-refused result-straight unbound-kept nodes-lost limit-enough : Promise

-- what does not hold
abbrev pub failing : {A : Type 0} → A → Bool → List A
failing a true = []
failing a false = a ∷ []

unfoldable pub lacks : Term → List Condition
unfolding plain binders variables count
lacks t =
    failing no-case-fst-snd-discard-copy (plain t)
    ‥ failing one_place (every (λ b. stands b.name t == 1) (binders t))
    ‥ failing used-once (every (λ b. uses b.name t == 1) (binders t))
    ‥ failing inside (every (λ b. uses b.name b.covers == uses b.name t) (binders t))

unfoldable pub breaks_at : (limit : ℕ) → Term → Reduced → List Promise
unfolding straight once plain binders variables count occurrences nodes
breaks_at limit t (outgrew n u) = not-refused ∷ []
breaks_at limit t (stopped n c b u) =
    failing result-straight (straight u)
    ‥ failing unbound-kept (every (λ x. occurrences x u == occurrences x t) (variables t ‥ variables u))
    ‥ failing nodes-lost (nodes t == nodes u + (3 * c.app + 4 * c.lets + 2 * c.derelict))
    ‥ failing limit-enough (b || ((2 * limit) <? (nodes t - 1)))

unfoldable pub breaks : (limit : ℕ) → Term → List Promise
unfolding breaks_at reduce_from step contract subst fits encode nodes
breaks limit t = breaks_at limit t (reduce limits limit t)

pub record Row : Type 0 where
  pub term : Term
  pub limit : ℕ
  pub lacks : List Condition
  pub breaks : List Promise

abbrev pub x : Name
x = say "x"

abbrev pub y : Name
y = say "y"

abbrev pub z : Name
z = say "z"

abbrev pub ⟨⟩ : Term
⟨⟩ = leaf unit

abbrev pub table : List Row
table =
    -- case inl () of inl x => x | inr y => y: five nodes, one after a step
    (record { term = branch x y (one inl ⟨⟩) (var x) (var y); limit = 1; lacks = no-case-fst-snd-discard-copy ∷ []; breaks = nodes-lost ∷ [] })
    -- fst ((), ()) and snd ((), ())
    ∷ (record { term = one fst (two pair ⟨⟩ ⟨⟩); limit = 1; lacks = no-case-fst-snd-discard-copy ∷ []; breaks = nodes-lost ∷ [] })
    ∷ (record { term = one snd (two pair ⟨⟩ ⟨⟩); limit = 1; lacks = no-case-fst-snd-discard-copy ∷ []; breaks = nodes-lost ∷ [] })
    -- discard !() in ()
    ∷ (record { term = two discard (one promote ⟨⟩) ⟨⟩; limit = 1; lacks = no-case-fst-snd-discard-copy ∷ []; breaks = nodes-lost ∷ [] })
    -- copy !() as (x, y) in (x y): loses one node
    ∷ (record { term = both copy x y (one promote ⟨⟩) (two app (var x) (var y)); limit = 1; lacks = no-case-fst-snd-discard-copy ∷ []; breaks = nodes-lost ∷ [] })
    -- ((\x. \x. x) z): z is lost
    ∷ (record { term = two app (abs x (abs x (var x))) (var z); limit = 1; lacks = one_place ∷ []; breaks = unbound-kept ∷ [] })
    -- let (x, x) = (z, y) in x: y is lost
    ∷ (record { term = both let_a_pair x x (two pair (var z) (var y)) (var x); limit = 1; lacks = one_place ∷ []; breaks = unbound-kept ∷ [] })
    -- ((\x. ()) z): not used, z is lost
    ∷ (record { term = two app (abs x ⟨⟩) (var z); limit = 1; lacks = used-once ∷ []; breaks = unbound-kept ∷ [] })
    -- ((\x. (x, x)) z): used twice, z is doubled
    ∷ (record { term = two app (abs x (two pair (var x) (var x))) (var z); limit = 1; lacks = used-once ∷ []; breaks = unbound-kept ∷ [] })
    -- ((\x. (x x)) (\y. (y y))): used twice, and no limit is enough
    ∷ (record { term = two app (abs x (two app (var x) (var x))) (abs y (two app (var y) (var y))); limit = 4; lacks = used-once ∷ []; breaks = result-straight ∷ nodes-lost ∷ limit-enough ∷ [] })
    -- ((\x. ()) x): used outside, x is lost
    ∷ (record { term = two app (abs x ⟨⟩) (var x); limit = 1; lacks = inside ∷ []; breaks = unbound-kept ∷ [] })
    -- P1, ((\x. \y. x) y): y is caught, and the result is straight
    ∷ (record { term = two app (abs x (abs y (var x))) (var y); limit = 1; lacks = inside ∷ []; breaks = unbound-kept ∷ [] })
    -- P2, let (x, y) = (y, ()) in (x y): y is used inside and outside
    ∷ (record { term = both let_a_pair x y (two pair (var y) ⟨⟩) (two app (var x) (var y)); limit = 1; lacks = used-once ∷ inside ∷ []; breaks = unbound-kept ∷ [] })
    -- P3, P9 and a term with a step of each of the three rules are straight, and break nothing
    ∷ (record { term = one abort (two app (abs x (var x)) ⟨⟩); limit = 9; lacks = []; breaks = [] })
    ∷ (record { term = two app (two app (abs x (abs y (two app (var x) (var y)))) (var z)) (var z); limit = 4; lacks = []; breaks = [] })
    ∷ (record { term = two app (abs x (both let_a_pair y z (two pair (var x) ⟨⟩) (two pair (one derelict (one promote (var z))) (var y)))) ⟨⟩; limit = 9; lacks = []; breaks = [] })
    ∷ []

-- the conditions that it lacks, the promises that it breaks, and whether it is straight
abbrev pub Found : Type 0
Found = List Condition × List Promise × Bool

abbrev pub nothing : List Condition → Bool
nothing [] = true
nothing (c ∷ cs) = false

abbrev pub stated : Row → Found
stated r = (r.lacks, r.breaks, nothing r.lacks)

abbrev pub computed : Row → Found
computed r = (lacks r.term, breaks r.limit r.term, straight r.term)

pub needed : map computed table ≡ map stated table
unfolding lacks breaks straight once plain binders variables count
needed = refl
