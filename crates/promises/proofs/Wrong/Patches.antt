-- Terms and proofs on which one wrong version alone is wrong.
-- Assumes nothing: these are definitions.
use Prim.Native.Nat.{ℕ, zero, suc}
use Prim.Native.String.{String}
use mathlib.Core.List.{[], ◌∷◌}
use Rattle.rules.specs.Formula.{connective, Plus}
use Rattle.rules.specs.Term.{Term, one, fst, abort, promote}
use Rattle.rules.specs.Proof.{Proof, Axiom, OneIntro}
use Rattle.rules.proofs.Notation.{v, ⟨⟩, ⟨◌﹐◌⟩, ◌·◌, ƛ◌⇒◌, lets◌﹐◌≔◌⨟◌, copies◌⇉◌﹐◌⨟◌, cases◌of◌⇒◌or◌⇒◌, promotes, A, A⊥, 𝟏, by◌on◌from◌, cuts◌from◌}

-- P7: two steps, by App and by Fst
abbrev pub two_steps : Term
two_steps = one fst ((ƛ "x" ⇒ v "x") · ⟨ v "a" ﹐ v "b" ⟩)

-- P1: y is caught
abbrev pub caught : Term
caught = (ƛ "x" ⇒ ƛ "y" ⇒ v "x") · v "y"

-- P2: a holds the second name; and by Copy
abbrev pub crossed : Term
crossed = lets "x" ﹐ "y" ≔ ⟨ v "y" ﹐ ⟨⟩ ⟩ ⨟ v "x" · v "y"

abbrev pub copies_crossed : Term
copies_crossed = copies one promote (v "y") ⇉ "x" ﹐ "y" ⨟ v "x" · v "y"

-- P3, P4, and a step in a branch
abbrev pub redex : Term
redex = (ƛ "z" ⇒ v "z") · ⟨⟩

abbrev pub in_abort : Term
in_abort = one abort redex

abbrev pub in_body : Term
in_body = copies v "s" ⇉ "x" ﹐ "y" ⨟ redex

abbrev pub in_left : Term
in_left = cases v "s" of "x" ⇒ redex or "y" ⇒ v "y"

abbrev pub in_right : Term
in_right = cases v "s" of "x" ⇒ v "x" or "y" ⇒ redex

-- n copies of a term and a last one, in pairs to the right
abbrev pub pairs : ℕ → Term → Term → Term
pairs zero t u = u
pairs (suc n) t u = ⟨ t ﹐ pairs n t u ⟩

abbrev pub long : String
long = "abcdefghijklmnopqrstuvwx"

-- 4,103 bytes half-way, 303 in the end
abbrev pub half_way : Term
half_way = lets "x" ﹐ long ≔ ⟨ v long ﹐ ⟨⟩ ⟩ ⨟ pairs 151 (v "x") (v "x")

-- 4,101 bytes half-way, 2,495 in the end
abbrev pub copies_half_way : Term
copies_half_way = copies one promote (v "abcdefghijkl") ⇉ "x" ﹐ long ⨟ pairs 10 (v "x") (pairs 145 (v long) (v long))

-- a step to 603 nodes
abbrev pub grows : Term
grows = (ƛ "x" ⇒ ⟨ v "x" ﹐ v "x" ⟩) · promotes 300 ⟨⟩

-- P11: two entries for A; and Plus over parts that take names
abbrev pub two_entries : Proof
two_entries = cuts A from (by OneIntro on [] from [] ∷ cuts A from (by OneIntro on [] from [] ∷ by Axiom on (A⊥ ∷ []) from [] ∷ []) ∷ [])

abbrev pub plus_of_names : Proof
plus_of_names = cuts connective Plus 𝟏 𝟏 from (by Axiom on (𝟏 ∷ []) from [] ∷ by OneIntro on [] from [] ∷ [])
