-- Extraction: every rule with 0 to 3 premises, every kind of Cut, Axiom's search, the counter's bound; each term's size too. One table, computed.
use Rattle.std.specs.Prelude.{Ok, Err}
use Prim.Native.Nat.{ℕ, suc, ◌-◌}
use Prim.Native.String.{String}
use mathlib.Core.Path.{◌≡◌, refl}
use mathlib.Core.Bool.{Bool, true, false, ◌&&◌}
use mathlib.Core.List.{List, [], ◌∷◌}
use lib.ListN.{take}
use lib.Dec.{eqb}
use Rattle.rules.specs.Basic.{Bytes, say, digits}
use Rattle.rules.specs.Limits.{Limits, limits}
use Rattle.rules.specs.Refusal.{Outcome, number_of}
use Rattle.rules.specs.Formula.{Formula, atom, constant, exponential, connective, plain, negated, Bottom, Top, Zero, OfCourse, WhyNot, Tensor, Par, With, Plus, Lolli}
use Rattle.rules.specs.Term.{Term, nodes, encode, size}
use Rattle.rules.specs.Proof.{Proof, proof, row, Rule, plain as plain_rule, focus, cut, FocusPositive, FocusNegative, Axiom, OneIntro, BottomIntro, TensorIntro, ParIntro, TopIntro, WithIntro, PlusIntroLeft, PlusIntroRight, OfCourseIntro, WhyNotIntro, Weakening, Contraction, Dereliction, Blur}
use Rattle.rules.specs.Text.{text}
use Rattle.rules.specs.Extraction.{extract_from, extract, oldest, axiom_name}
use Rattle.rules.proofs.Notation.{equal, A, A⊥, 𝟏, by◌on◌from◌, cuts◌from◌, hex, wrong}

infix 75 ◌▹◌
infix 70 ◌gives◌
infix 70 rule◌gives◌
infix 70 ◌gives_bytes◌
infix 70 ◌from◌gives◌
infix 70 ◌from◌is_refused_by◌
-- a term's text, and the next counter
pub data Answer : Type 0 where
  ◌▹◌ : (text : String) (counter : ℕ) → Answer

pub data Row : Type 0 where
  -- from counter 0
  ◌gives◌ : Proof → Answer → Row
  -- a rule with none, one, two, three of these premises: `a`, `λx. x` with a new name, `⟨⟩`
  rule◌gives◌ : Rule → List Answer → Row
  ◌gives_bytes◌ : Proof → String → Row
  ◌from◌gives◌ : Proof → (counter : ℕ) → Answer → Row
  ◌from◌is_refused_by◌ : Proof → (counter number : ℕ) → Row

abbrev pub id : Proof
id = by Axiom on (𝟏 ∷ []) from []

abbrev pub unit : Proof
unit = by OneIntro on [] from []

abbrev pub axiom' : List Formula → Proof
axiom' l = by Axiom on l from []

-- Axiom as the last consumer of cuts on these formulas, the oldest first
abbrev pub within : List Formula → List Formula → Proof
within [] l = axiom' l
within (f ∷ fs) l = cuts f from (unit ∷ within fs l ∷ [])

abbrev pub B : Formula
B = atom plain (say "B")

abbrev pub B⊥ : Formula
B⊥ = atom negated (say "B")

abbrev pub premises : List Proof
premises = axiom' (A ∷ []) ∷ id ∷ by TopIntro on [] from [] ∷ []

abbrev pub fitting : (bytes nodes : ℕ) → Limits
fitting b n = record { bytes = b; nodes = n; rules = 0; formulas = 0 }

abbrev pub is_good : Outcome (Term × ℕ) → Bool
is_good (Ok r) = true
is_good (Err r) = false

abbrev pub is8 : Outcome (Term × ℕ) → Bool
is8 (Ok r) = false
is8 (Err r) = eqb (number_of r.reason) 8

-- the text and the counter; and at the term's own size it is given, at one byte or one node less it is 8
abbrev pub answered : (counter : ℕ) → Proof → Answer → Outcome (Term × ℕ) → Bool
answered n p (w ▹ m) (Err r) = false
answered n p (w ▹ m) (Ok r) =
    equal (text r.0) (say w) && (eqb r.1 m && (is_good (extract_from (fitting (size r.0) (nodes r.0)) n p)
    && (is8 (extract_from (fitting (size r.0 - 1) (nodes r.0)) n p) && is8 (extract_from (fitting (size r.0) (nodes r.0 - 1)) n p))))

abbrev pub right-from : (counter : ℕ) → Proof → Answer → Bool
right-from n p a = answered n p a (extract_from limits n p)

abbrev pub each : Rule → (premises : ℕ) → List Answer → Bool
each r k [] = eqb k 4
each r k (a ∷ as') = right-from 0 (proof r (𝟏 ∷ []) (row (take k premises))) a && each r (suc k) as'

abbrev pub bytes_are : Bytes → Outcome (Term × ℕ) → Bool
bytes_are s (Ok r) = equal (encode r.0) s
bytes_are s (Err r) = false

abbrev pub refused_by : ℕ → Outcome (Term × ℕ) → Bool
refused_by n (Ok r) = false
refused_by n (Err r) = eqb (number_of r.reason) n && (eqb r.place 0 && eqb r.input 0)

unfoldable pub right : Row → Bool
unfolding text encode nodes extract_from extract oldest axiom_name digits
right (p gives a) = right-from 0 p a
right (rule r gives as') = each r 0 as'
right (p gives_bytes s) = bytes_are (hex s) (extract_from limits 0 p)
right (p from n gives a) = right-from n p a
right (p from n is_refused_by k) = refused_by k (extract_from limits n p)

-- a rule that reads its first premise: what it gives with none, and with any
abbrev pub reads_first : Rule → (none any : Answer) → Row
reads_first r z a = rule r gives (z ∷ a ∷ a ∷ a ∷ [])

abbrev pub passes : Rule → Row
passes r = reads_first r ("()" ▹ 0) ("a" ▹ 0)

abbrev pub applies : Formula → Row
applies f = cuts f from (id ∷ id ∷ []) gives "(λx2. x2 λx1. x1)" ▹ 3

abbrev pub table : List Row
table =
    reads_first (plain_rule Axiom) ("λx0. x0" ▹ 1) ("λx0. x0" ▹ 1)
    ∷ rule cut 𝟏 gives ("()" ▹ 0 ∷ "()" ▹ 0 ∷ "(λx1. x1 a)" ▹ 2 ∷ "()" ▹ 0 ∷ [])
    ∷ reads_first (plain_rule OneIntro) ("()" ▹ 0) ("()" ▹ 0)
    ∷ passes (plain_rule BottomIntro)
    ∷ rule plain_rule TensorIntro gives ("()" ▹ 0 ∷ "a" ▹ 0 ∷ "(a, λx0. x0)" ▹ 1 ∷ "()" ▹ 0 ∷ [])
    ∷ passes (plain_rule ParIntro)
    ∷ reads_first (plain_rule TopIntro) ("⟨⟩" ▹ 0) ("⟨⟩" ▹ 0)
    ∷ rule plain_rule WithIntro gives ("⟨⟩" ▹ 0 ∷ "a" ▹ 0 ∷ "(a, λx0. x0)" ▹ 1 ∷ "⟨⟩" ▹ 0 ∷ [])
    ∷ reads_first (plain_rule PlusIntroLeft) ("inl ()" ▹ 0) ("inl a" ▹ 0)
    ∷ reads_first (plain_rule PlusIntroRight) ("inr ()" ▹ 0) ("inr a" ▹ 0)
    ∷ reads_first (plain_rule OfCourseIntro) ("!()" ▹ 0) ("!a" ▹ 0)
    ∷ passes (plain_rule WhyNotIntro)
    ∷ reads_first (plain_rule Weakening) ("()" ▹ 0) ("discard in a" ▹ 0)
    ∷ reads_first (plain_rule Contraction) ("()" ▹ 0) ("copy x2 as (x0, x1) in a" ▹ 3)
    ∷ reads_first (plain_rule Dereliction) ("derelict ()" ▹ 0) ("derelict a" ▹ 0)
    ∷ passes (focus FocusPositive 0)
    ∷ passes (focus FocusNegative 65535)
    ∷ passes (plain_rule Blur)
    -- Weakening discards Unit; Contraction's names come before its premise's
    ∷ by Weakening on [] from (id ∷ []) gives_bytes "10 02 05 02 7830 01 02 7830"
    ∷ by Contraction on [] from (id ∷ []) gives "copy x2 as (x0, x1) in λx3. x3" ▹ 4
    -- Cut: its own name, producer, consumer, then for Tensor and Plus two more; the others apply consumer to producer
    ∷ applies A
    ∷ applies A⊥
    ∷ applies (constant Bottom)
    ∷ applies (constant Top)
    ∷ applies (constant Zero)
    ∷ applies (exponential OfCourse A)
    ∷ applies (exponential WhyNot A)
    ∷ applies (connective Par A A)
    ∷ applies (connective With A A)
    ∷ applies (connective Lolli A A)
    ∷ cuts connective Tensor A A from (id ∷ id ∷ []) gives "let (x3, x4) = λx1. x1 in λx2. x2" ▹ 5
    ∷ cuts connective Plus A A from (id ∷ id ∷ []) gives "case λx1. x1 of { inl x3 => λx2. x2 | inr x4 => λx2. x2 }" ▹ 5
    -- Axiom goes through `linear` in order; an Atom is at least its lower-cased self, a NegAtom may be passed over
    ∷ axiom' [] gives "λx0. x0" ▹ 1
    ∷ axiom' (A⊥ ∷ []) gives "λx0. x0" ▹ 1
    ∷ axiom' (A⊥ ∷ 𝟏 ∷ exponential OfCourse B ∷ connective Par B B ∷ atom plain (say "AZ_az9") ∷ B ∷ []) gives "az_az9" ▹ 0
    -- the oldest entry of the same atom and the other sign; the consumer has it, the producer not
    ∷ within (A ∷ []) (A⊥ ∷ []) gives "(a0 ())" ▹ 1
    ∷ within (A⊥ ∷ []) (A ∷ []) gives "(a0 ())" ▹ 1
    ∷ within (A ∷ []) (A ∷ []) gives "(a ())" ▹ 1
    ∷ within (A⊥ ∷ []) (A⊥ ∷ []) gives "(λx1. x1 ())" ▹ 2
    ∷ within (B ∷ A ∷ A ∷ []) (A⊥ ∷ []) gives "(((a1 ()) ()) ())" ▹ 3
    ∷ within (B⊥ ∷ A⊥ ∷ A⊥ ∷ []) (A ∷ []) gives "(((a1 ()) ()) ())" ▹ 3
    ∷ within (A ∷ []) (B⊥ ∷ A⊥ ∷ B ∷ []) gives "(a0 ())" ▹ 1
    ∷ within (A ∷ []) (B ∷ A⊥ ∷ []) gives "(b ())" ▹ 1
    ∷ within (atom plain (say "a") ∷ atom plain (say "A1") ∷ exponential OfCourse A ∷ []) (A⊥ ∷ []) gives "(((λx3. x3 ()) ()) ())" ▹ 4
    ∷ cuts A from (axiom' (A⊥ ∷ []) ∷ unit ∷ []) gives "(() λx1. x1)" ▹ 2
    ∷ by TensorIntro on [] from (within (A ∷ []) (A⊥ ∷ []) ∷ axiom' (A⊥ ∷ []) ∷ []) gives "((a0 ()), λx1. x1)" ▹ 2
    -- the counter after extraction may be 100,000,000 and no more
    ∷ id from 99_999_999 gives "λx99999999. x99999999" ▹ 100_000_000
    ∷ id from 100_000_000 is_refused_by 9
    ∷ unit from 100_000_000 gives "()" ▹ 100_000_000
    ∷ unit from 100_000_001 is_refused_by 9
    ∷ []

pub extractions-hold : wrong right table ≡ []
unfolding right
extractions-hold = refl
