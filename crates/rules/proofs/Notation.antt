-- Small signs, so that a table reads like the document: terms, formulas, proofs, bytes in hexadecimal.
-- Assumes nothing: these are definitions.
use Prim.Native.Nat.{ℕ, zero, suc, ◌+◌, ◌-◌, ◌*◌}
use Prim.Native.Char.{code}
use Prim.Native.String.{String}
use Prim.Native.String as Str
use mathlib.Core.Bool.{Bool, true, false, ◌&&◌}
use mathlib.Core.List.{List, [], ◌∷◌}
use mathlib.Core.Option.{Option, none, some}
use lib.Dec.{ltb, eqb}
use Rattle.std.specs.Prelude.{if◌then◌else◌}
use Rattle.rules.specs.Basic.{Bytes, say, ◌‥◌}
use Rattle.rules.specs.Formula.{Formula, atom, constant, plain, negated, One}
use Rattle.rules.specs.Term.{Term, var, leaf, one, promote, two, abs, both, branch, unit, pair, app, let_a_pair, copy}
use Rattle.rules.specs.Proof.{Proof, proof, row, Plain, cut}
use Rattle.rules.specs.Proof.{plain as plain_rule}
use Rattle.rules.specs.Step.{Rule, App, Let, Case, Fst, Snd, Derelict, Copy, Discard}

infixl 90 ◌·◌
infixr 85 ƛ◌⇒◌
infixr 85 lets◌﹐◌≔◌⨟◌
infixr 85 copies◌⇉◌﹐◌⨟◌
infixr 85 cases◌of◌⇒◌or◌⇒◌
infix 80 by◌on◌from◌
infix 80 cuts◌from◌
abbrev pub v : String → Term
v x = var (say x)

abbrev pub ⟨⟩ : Term
⟨⟩ = leaf unit

abbrev pub ⟨◌﹐◌⟩ : Term → Term → Term
⟨ a ﹐ b ⟩ = two pair a b

abbrev pub ◌·◌ : Term → Term → Term
f · a = two app f a

abbrev pub ƛ◌⇒◌ : String → Term → Term
ƛ x ⇒ e = abs (say x) e

abbrev pub lets◌﹐◌≔◌⨟◌ : String → String → Term → Term → Term
lets x ﹐ y ≔ p ⨟ e = both let_a_pair (say x) (say y) p e

abbrev pub copies◌⇉◌﹐◌⨟◌ : Term → String → String → Term → Term
copies s ⇉ x ﹐ y ⨟ e = both copy (say x) (say y) s e

abbrev pub cases◌of◌⇒◌or◌⇒◌ : Term → String → Term → String → Term → Term
cases s of x ⇒ l or y ⇒ r = branch (say x) (say y) s l r

-- n Promotes around t
abbrev pub promotes : ℕ → Term → Term
promotes zero t = t
promotes (suc n) t = one promote (promotes n t)

abbrev pub A : Formula
A = atom plain (say "A")

abbrev pub A⊥ : Formula
A⊥ = atom negated (say "A")

abbrev pub 𝟏 : Formula
𝟏 = constant One

-- a proof: the rule, `linear`, the premises
abbrev pub by◌on◌from◌ : Plain → List Formula → List Proof → Proof
by k on l from ps = proof (plain_rule k) l (row ps)

abbrev pub cuts◌from◌ : Formula → List Proof → Proof
cuts f from ps = proof (cut f) [] (row ps)

-- bytes as pairs of hexadecimal digits, with spaces where they help
abbrev pub nibble : ℕ → ℕ
nibble c = if ltb c 58 then c - 48 else c - 87

abbrev pub hex_from : Option ℕ → String → Bytes
hex_from h Str.[] = []
hex_from none (Str.◌∷◌ c s) = if eqb (code c) 32 then hex_from none s else hex_from (some (nibble (code c))) s
hex_from (some h) (Str.◌∷◌ c s) = (16 * h + nibble (code c)) ∷ hex_from none s

abbrev pub hex : String → Bytes
hex s = hex_from none s

-- The tables' own equality of bytes: `same` of specs/Name.antt is one of the definitions that are tried.
abbrev pub equal : Bytes → Bytes → Bool
equal [] [] = true
equal [] (b ∷ y) = false
equal (a ∷ x) [] = false
equal (a ∷ x) (b ∷ y) = eqb a b && equal x y

-- the places of the rows of a table that are not right
abbrev pub wrong_from : {R : Type 0} → (right : R → Bool) → ℕ → List R → List ℕ
wrong_from right n [] = []
wrong_from right n (r ∷ rs) = if right r then wrong_from right (suc n) rs else n ∷ wrong_from right (suc n) rs

abbrev pub wrong : {R : Type 0} → (right : R → Bool) → List R → List ℕ
wrong right rs = wrong_from right 0 rs

-- a rule of reduction as a number, in the order of the counts
abbrev pub number_of_rule : Rule → ℕ
number_of_rule App = 0
number_of_rule Let = 1
number_of_rule Case = 2
number_of_rule Fst = 3
number_of_rule Snd = 4
number_of_rule Derelict = 5
number_of_rule Copy = 6
number_of_rule Discard = 7

-- some bytes, so many times
abbrev pub repeat : ℕ → Bytes → Bytes
repeat zero s = []
repeat (suc n) s = s ‥ repeat n s
