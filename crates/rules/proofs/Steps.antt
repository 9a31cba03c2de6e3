-- Free names, substitution and step: each scope, each rule, each part that is entered and each that is not. One table, computed.
use Prim.Native.Nat.{ℕ, suc}
use Prim.Native.String.{String}
use mathlib.Core.Path.{◌≡◌, refl}
use mathlib.Core.Bool.{Bool, false, ◌&&◌}
use mathlib.Core.List.{List, [], ◌∷◌, map}
use lib.Dec.{eqb}
use Rattle.std.specs.Prelude.{if◌then◌else◌}
use Rattle.rules.specs.Basic.{say}
use Rattle.rules.specs.Name.{before, encode_names}
use Rattle.rules.specs.Term.{Term, one, two, encode, leaf, trivial, inl, inr, fst, snd, abort, promote, derelict, discard}
use Rattle.rules.specs.Free.{insert, union, without, free, occurrences}
use Rattle.rules.specs.Substitution.{subst}
use Rattle.rules.specs.Step.{Rule, App, Let, Case, Fst, Snd, Derelict, Copy, Discard, Stepped, normal, found, step, contract, is_normal_term}
use Rattle.rules.proofs.Notation.{equal, v, ⟨⟩, ⟨◌﹐◌⟩, ◌·◌, ƛ◌⇒◌, lets◌﹐◌≔◌⨟◌, copies◌⇉◌﹐◌⨟◌, cases◌of◌⇒◌or◌⇒◌, number_of_rule, wrong}

infix 70 ◌leaves_free◌
infix 70 unit_for_x_in◌is◌changing◌
infix 70 ◌by◌to◌
infix 70 enters◌at◌
pub data Row : Type 0 where
  ◌leaves_free◌ : Term → List String → Row
  -- with the number of places that change
  unit_for_x_in◌is◌changing◌ : (term result : Term) → ℕ → Row
  -- the first step is at the root
  ◌by◌to◌ : Term → Rule → Term → Row
  -- a redex in that part is contracted, at that place; or it is not
  enters◌at◌ : (Term → Term) → ℕ → Row
  shuts : (Term → Term) → Row
  -- the tags of the first parts that make a redex of a node
  contracts : (Term → Term) → List ℕ → Row

-- a redex, and what it steps to
abbrev pub R : Term
R = (ƛ "z" ⇒ v "z") · v "c"

abbrev pub found_is : Rule → ℕ → Term → Stepped → Bool
found_is r p t normal = false
found_is r p t (found r' p' h t') = eqb (number_of_rule r) (number_of_rule r') && (eqb p p' && equal (encode t) (encode t'))

abbrev pub a : Term
a = v "a"

-- one term for each tag
abbrev pub samples : List Term
samples =
    a ∷ ⟨⟩ ∷ ⟨ a ﹐ a ⟩ ∷ (lets "x" ﹐ "y" ≔ a ⨟ a) ∷ (ƛ "x" ⇒ a) ∷ a · a ∷ one inl a ∷ one inr a ∷ (cases a of "x" ⇒ a or "y" ⇒ a) ∷ leaf trivial
    ∷ one fst a ∷ one snd a ∷ one abort a ∷ one promote a ∷ one derelict a ∷ two discard a a ∷ (copies a ⇉ "x" ﹐ "y" ⨟ a) ∷ []

abbrev pub redexes : (Term → Bool) → (tag : ℕ) → List Term → List ℕ
redexes normal? n [] = []
redexes normal? n (t ∷ ts) = if normal? t then redexes normal? (suc n) ts else n ∷ redexes normal? (suc n) ts

unfoldable pub right : Row → Bool
unfolding before insert union without free occurrences subst step contract encode
right (t leaves_free xs) = equal (encode_names (free t)) (encode_names (map say xs))
right (unit_for_x_in t is u changing n) = equal (encode (subst (say "x") ⟨⟩ t)) (encode u) && eqb (occurrences (say "x") t) n
right (t by r to u) = found_is r 0 u (step t)
right (enters f at p) = found_is App p (f (v "c")) (step (f R))
right (shuts f) = is_normal_term (step (f R))
right (contracts f ks) = equal (redexes (λ t. is_normal_term (step (f t))) 1 samples) ks

abbrev pub table : List Row
table =
    -- each name once, ascending by bytes, a name that begins another first
    v "x10" · v "x2" · v "x" · v "x1" · v "X" · v "_" · v "a" · v "x" leaves_free ("X" ∷ "_" ∷ "a" ∷ "x" ∷ "x1" ∷ "x10" ∷ "x2" ∷ [])
    -- LetPair and Copy cover their body only, Case's x its left, y its right
    ∷ (ƛ "x" ⇒ v "x" · v "y") leaves_free ("y" ∷ [])
    ∷ (lets "x" ﹐ "y" ≔ v "x" · v "y" ⨟ ⟨⟩) leaves_free ("x" ∷ "y" ∷ [])
    ∷ (lets "x" ﹐ "y" ≔ ⟨⟩ ⨟ v "x" · v "y" · v "w") leaves_free ("w" ∷ [])
    ∷ (copies v "x" · v "y" ⇉ "x" ﹐ "y" ⨟ ⟨⟩) leaves_free ("x" ∷ "y" ∷ [])
    ∷ (copies ⟨⟩ ⇉ "x" ﹐ "y" ⨟ v "x" · v "y" · v "w") leaves_free ("w" ∷ [])
    ∷ (cases v "x" · v "y" of "x" ⇒ ⟨⟩ or "y" ⇒ ⟨⟩) leaves_free ("x" ∷ "y" ∷ [])
    ∷ (cases ⟨⟩ of "x" ⇒ v "x" · v "y" or "y" ⇒ ⟨⟩) leaves_free ("y" ∷ [])
    ∷ (cases ⟨⟩ of "x" ⇒ ⟨⟩ or "y" ⇒ v "x" · v "y") leaves_free ("x" ∷ [])
    ∷ two discard (v "b") (one promote a) leaves_free ("a" ∷ "b" ∷ [])
    -- substitution stops in what a binder of that name covers
    ∷ unit_for_x_in v "x" · v "x1" · v "y" is ⟨⟩ · v "x1" · v "y" changing 1
    ∷ unit_for_x_in two discard (v "x") (one promote (v "x")) is two discard ⟨⟩ (one promote ⟨⟩) changing 2
    ∷ unit_for_x_in ƛ "x" ⇒ v "x" is ƛ "x" ⇒ v "x" changing 0
    ∷ unit_for_x_in ƛ "y" ⇒ v "x" is ƛ "y" ⇒ ⟨⟩ changing 1
    ∷ unit_for_x_in lets "x" ﹐ "y" ≔ v "x" ⨟ v "x" is lets "x" ﹐ "y" ≔ ⟨⟩ ⨟ v "x" changing 1
    ∷ unit_for_x_in lets "y" ﹐ "x" ≔ v "x" ⨟ v "x" is lets "y" ﹐ "x" ≔ ⟨⟩ ⨟ v "x" changing 1
    ∷ unit_for_x_in copies v "x" ⇉ "x" ﹐ "y" ⨟ v "x" is copies ⟨⟩ ⇉ "x" ﹐ "y" ⨟ v "x" changing 1
    ∷ unit_for_x_in copies v "x" ⇉ "y" ﹐ "x" ⨟ v "x" is copies ⟨⟩ ⇉ "y" ﹐ "x" ⨟ v "x" changing 1
    ∷ unit_for_x_in copies v "x" ⇉ "y" ﹐ "z" ⨟ v "x" is copies ⟨⟩ ⇉ "y" ﹐ "z" ⨟ ⟨⟩ changing 2
    ∷ unit_for_x_in cases v "x" of "x" ⇒ v "x" or "y" ⇒ v "x" is cases ⟨⟩ of "x" ⇒ v "x" or "y" ⇒ ⟨⟩ changing 2
    ∷ unit_for_x_in cases v "x" of "y" ⇒ v "x" or "x" ⇒ v "x" is cases ⟨⟩ of "y" ⇒ ⟨⟩ or "x" ⇒ v "x" changing 2
    -- the eight rules, each before any step in a part
    ∷ (ƛ "x" ⇒ v "x" · v "x") · R by App to R · R
    ∷ (lets "x" ﹐ "y" ≔ ⟨ v "y" ﹐ R ⟩ ⨟ v "x" · v "y") by Let to R · R
    -- one name twice: the first value goes in everywhere
    ∷ (lets "x" ﹐ "x" ≔ ⟨ a ﹐ v "b" ⟩ ⨟ v "x") by Let to a
    ∷ (cases one inl R of "x" ⇒ v "x" · v "y" or "y" ⇒ v "y" · v "x") by Case to R · v "y"
    ∷ (cases one inr R of "x" ⇒ v "x" · v "y" or "y" ⇒ v "y" · v "x") by Case to R · v "x"
    ∷ one fst ⟨ R ﹐ a ⟩ by Fst to R
    ∷ one snd ⟨ a ﹐ R ⟩ by Snd to R
    ∷ one derelict (one promote R) by Derelict to R
    ∷ (copies one promote R ⇉ "x" ﹐ "y" ⨟ v "x") by Copy to one promote R
    ∷ (copies one promote (v "y") ⇉ "x" ﹐ "y" ⨟ v "x" · v "y") by Copy to one promote (one promote (v "y")) · one promote (v "y")
    ∷ two discard (one promote R) (R · a) by Discard to R · a
    -- which first parts make a redex
    ∷ contracts (λ t. t · a) (5 ∷ [])
    ∷ contracts (λ t. lets "x" ﹐ "y" ≔ t ⨟ a) (3 ∷ [])
    ∷ contracts (λ t. cases t of "x" ⇒ a or "y" ⇒ a) (7 ∷ 8 ∷ [])
    ∷ contracts (one fst) (3 ∷ [])
    ∷ contracts (one snd) (3 ∷ [])
    ∷ contracts (one derelict) (14 ∷ [])
    ∷ contracts (λ t. copies t ⇉ "x" ﹐ "y" ⨟ a) (14 ∷ [])
    ∷ contracts (λ t. two discard t a) (14 ∷ [])
    -- parts in order; Case the scrutinee alone, Copy the source alone, Abort never
    ∷ enters (λ t. t · R) at 1
    ∷ enters (λ t. a · t) at 4
    ∷ enters (λ t. lets "x1" ﹐ "y" ≔ t ⨟ R) at 6
    ∷ enters (λ t. lets "x1" ﹐ "y" ≔ a ⨟ t) at 9
    ∷ enters (λ t. ⟨ t ﹐ R ⟩) at 1
    ∷ enters (λ t. ⟨ a ﹐ t ⟩) at 4
    ∷ enters (λ t. two discard t R) at 1
    ∷ enters (λ t. two discard a t) at 4
    ∷ enters (λ t. cases t of "x1" ⇒ R or "y" ⇒ R) at 6
    ∷ shuts (λ t. cases a of "x" ⇒ t or "y" ⇒ a)
    ∷ shuts (λ t. cases a of "x" ⇒ a or "y" ⇒ t)
    ∷ enters (λ t. copies t ⇉ "x1" ﹐ "y" ⨟ R) at 6
    ∷ shuts (λ t. copies a ⇉ "x" ﹐ "y" ⨟ t)
    ∷ enters (λ t. ƛ "x1" ⇒ t) at 4
    ∷ enters (one inl) at 1
    ∷ enters (one inr) at 1
    ∷ enters (one fst) at 1
    ∷ enters (one snd) at 1
    ∷ enters (one derelict) at 1
    ∷ enters (one promote) at 1
    ∷ shuts (one abort)
    ∷ enters (λ t. a · ⟨ a ﹐ t ⟩) at 8
    ∷ []

pub steps-hold : wrong right table ≡ []
unfolding right
steps-hold = refl
