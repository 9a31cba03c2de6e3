-- A whole input: what reading it comes to, from what reading its first node finds.
-- Assumes nothing.
use Rattle.std.specs.Prelude.{Ok}
use Prim.Native.Nat.{ℕ, ◌+◌, ◌<◌, ◌≤◌}
use native.Mathlib.Omega.{arith}
use mathlib.Core.Path.{◌≡◌, refl, ap, ◌∙◌}
use lib.ListN.{length}
use borrow.Author.Tests.{lt-ltb, le-ltb}
use Rattle.rules.specs.declared.Reason.{Reason}
use Rattle.rules.specs.Basic.{Bytes}
use Rattle.rules.specs.Limits.{Limits}
use Rattle.rules.specs.Refusal.{refuse, mapped, Outcome}
use Rattle.rules.specs.declared.Reason.TheVariants.{InputTooLong, LeftOver}
use Rattle.rules.specs.Reading.{got, node, ended, whole, read_term, read_formula}
use Rattle.rules.specs.Term.{terms, encode, nodes}
use Rattle.rules.specs.Formula.{formulas, encode_formula, formula_nodes}
use Rattle.rules.specs.Legal.{Legal, LegalFormula}
use Rattle.laws.specs.reading.Holds.{told}
use Rattle.laws.specs.reading.WrittenTerm.{written-terms}
use Rattle.laws.specs.reading.WrittenFormula.{written-formulas}
use Rattle.laws.specs.reading.Sound.{node-sound}
use Rattle.laws.specs.reading.Steady.{steady-node}
use Rattle.reader.specs.declared.class.Form.{Form}
use Rattle.reader.specs.declared.class.Form.TheVariants.{Term, Formula}
use Rattle.reader.specs.Form.{ItemOf, layout_of, count_of, most_of, read_of}
use Rattle.reader.specs.View.{view, past, fault}
use Rattle.reader.specs.Viewed.{view-bad, Passed, passed}
use Rattle.reader.proofs.class.Views.{rest_in, rest_out}

-- the count of nodes is that of what was read
node-met : (f : Form) (most depth u at : ℕ) (r : Bytes) {x : ItemOf f} {v p : ℕ} {q : Bytes} → node (layout_of f) most depth u at r ≡ got x v p q → v ≡ u + count_of f x
node-met Term most depth u at r e = (told _ (node terms most depth u at r) (node-sound terms encode nodes Legal written-terms most depth u at r) e).met
node-met Formula most depth u at r e =
    (told _ (node formulas most depth u at r) (node-sound formulas encode_formula formula_nodes LegalFormula written-formulas most depth u at r) e).met

read_is : (f : Form) (L : Limits) (i : ℕ) (s : Bytes) → read_of f L i s ≡ whole L i s (node (layout_of f) (most_of f L) (most_of f L)) 0
unfolding read_term read_formula
read_is Term L i s = refl
read_is Formula L i s = refl

module _ (f : Form) (i : ℕ) (s : Bytes) (L : Limits) {bytes most : ℕ} (b : L.bytes ≡ bytes) (m : most_of f L ≡ most) where
  abbrev answer : Outcome ℕ
  answer = mapped (count_of f) (read_of f L i s)

  pub whole_long : bytes < length s → answer ≡ refuse InputTooLong bytes i
  unfolding whole
  whole_long h = rw (read_is f L i s, b, lt-ltb bytes (length s) h)

  module _ (short : length s ≤ bytes) where
    ends : answer ≡ mapped (count_of f) (ended i (node (layout_of f) most most 0 0 s))
    unfolding whole
    ends = rw (read_is f L i s, m, b, le-ltb bytes (length s) short)

    pub whole-bad : {n : Reason} {p : ℕ} → view (node (layout_of f) most most 0 0 s) ≡ fault n p → answer ≡ refuse n p i
    whole-bad e = ends ∙ rw (view-bad (node (layout_of f) most most 0 0 s) e)

    module _ {p v : ℕ} (e : view (node (layout_of f) most most 0 0 s) ≡ past p v) where
      w : Passed s (node (layout_of f) most most 0 0 s) p v
      w = passed (node (layout_of f) most most) (steady-node (layout_of f) most most) s 0 0 (omega arith) e

      pub whole-more : p < length s → answer ≡ refuse LeftOver p i
      whole-more h = ends ∙ rw (w.is, rest_in s p h)

      pub whole-good : length s ≤ p → answer ≡ Ok v
      whole-good h =
          let z : count_of f w.value ≡ v = omega (arith, node-met f most most 0 0 s w.is) in
          ends ∙ rw (w.is, rest_out s p h) (ap Ok z)
