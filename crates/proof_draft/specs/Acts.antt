-- What the walk does at a rule, by the rule's tag and its count of premises; and what extraction makes then. Assumes nothing: these are definitions.
use Rattle.std.specs.Prelude.{ℕ, zero, suc, ◌≤◌, ◌≡◌, List, [], ◌∷◌, Option, Some, None, if◌then◌else◌, ◌==◌}
use Rattle.rules.specs.Basic.{Bytes}
use Rattle.rules.specs.Formula.{Formula}
use Rattle.rules.specs.Term.{leaf, Leaf as LeafName, unit, trivial}
use Rattle.rules.specs.Proof.{Proof, cut}
use Rattle.rules.specs.Extraction.{terms, Entries, axiom_name, identity, extract}
use Rattle.draft.specs.declared.row.RowKind.{RowKind}
use Rattle.draft.specs.declared.row.RowKind.TheVariants.{Inl, Inr, Promote, Derelict, Discard, Copy}
use Rattle.draft.specs.Made.{over}
use Rattle.proof.specs.Shape.{rule_of, linear_of, premises_of}
use Rattle.proof_draft.specs.Walk.{over_first, pair_of, cut_of}
use Rattle.proof_draft.specs.declared.plan.Act.{Act}
use Rattle.proof_draft.specs.declared.plan.Act.TheVariants.{Leaf, Bare, Axiom, First, Pair, Cut}

abbrev pub cut_act : (premises : ℕ) → Act
cut_act zero = Leaf 0
cut_act (suc zero) = Leaf 0
cut_act (suc (suc zero)) = Cut
cut_act (suc (suc (suc m))) = Leaf 0

-- Tensor and With
abbrev pub pair_act : (part premises : ℕ) → Act
pair_act i zero = Leaf i
pair_act i (suc zero) = First None 0
pair_act i (suc (suc zero)) = Pair
pair_act i (suc (suc (suc m))) = Leaf i

-- a rule that wraps its first premise, or Unit
abbrev pub wrapping_act : RowKind → (premises : ℕ) → Act
wrapping_act k zero = Bare k
wrapping_act k (suc m) = First (Some k) 0

-- a rule that reads its first premise, and without one is Unit
abbrev pub over_act : Option RowKind → (names premises : ℕ) → Act
over_act k n zero = Leaf 0
over_act k n (suc m) = First k n

abbrev pub act_of : (tag premises : ℕ) → Act
act_of t m =
    if t == 1 then Axiom
    else (if t == 2 then cut_act m
    else (if t == 3 then Leaf 0
    else (if t == 5 then pair_act 0 m
    else (if t == 7 then Leaf 1
    else (if t == 8 then pair_act 1 m
    else (if t == 9 then wrapping_act Inl m
    else (if t == 10 then wrapping_act Inr m
    else (if t == 11 then wrapping_act Promote m
    else (if t == 13 then over_act (Some Discard) 0 m
    else (if t == 14 then over_act (Some Copy) 3 m
    else (if t == 15 then wrapping_act Derelict m
    else over_act None 0 m)))))))))))

-- the parts with which a draft begins
abbrev pub leaf_at : ℕ → LeafName
leaf_at zero = unit
leaf_at (suc i) = trivial

-- ---- what extraction makes

pub record Leaves (p : Proof) (i : ℕ) : Type 0 where
  pub among : i ≤ 1
  pub is : (es : Entries) (n : ℕ) → extract terms p es n ≡ (leaf (leaf_at i), n)

pub record Bares (p : Proof) (k : RowKind) : Type 0 where
  pub none : premises_of p ≡ []
  pub is : (s : Bytes) (es : Entries) (n : ℕ) → extract terms p es n ≡ (over s (Some k) 0 (leaf unit), n)

pub record Names (p : Proof) : Type 0 where
  pub is : (es : Entries) (n : ℕ) → extract terms p es n ≡ identity terms (axiom_name es (linear_of p)) n

pub record Overs (p : Proof) (k : Option RowKind) (m : ℕ) : Type 0 where
  pub premise : Proof
  pub others : List Proof
  pub are : premises_of p ≡ premise ∷ others
  pub few : m ≤ 3
  pub is : (s : Bytes) (es : Entries) (n : ℕ) → extract terms p es n ≡ over_first s k m premise es n

pub record Pairs (p : Proof) : Type 0 where
  pub one : Proof
  pub other : Proof
  pub are : premises_of p ≡ one ∷ other ∷ []
  pub is : (es : Entries) (n : ℕ) → extract terms p es n ≡ pair_of one other es n

pub record Cuts (p : Proof) : Type 0 where
  pub formula : Formula
  pub one : Proof
  pub other : Proof
  pub rule : rule_of p ≡ cut formula
  pub are : premises_of p ≡ one ∷ other ∷ []
  pub is : (es : Entries) (n : ℕ) → extract terms p es n ≡ cut_of formula one other es n

abbrev pub Acts : Act → Proof → Type 0
Acts (Leaf i) p = Leaves p i
Acts (Bare k) p = Bares p k
Acts Axiom p = Names p
Acts (First k m) p = Overs p k m
Acts Pair p = Pairs p
Acts Cut p = Cuts p
