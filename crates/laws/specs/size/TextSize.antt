-- How long the text of a formula and of a term can be, by induction on it, and limits under which it fits the buffer that is asked for.
-- Assumes nothing.
use Rattle.std.specs.Prelude.{◌+◌, ◌*◌, ◌≤◌, length}
use Rattle.std.proofs.Common.{arith, length-append}
use Rattle.rules.specs.Basic.{say}
use Rattle.rules.specs.Limits.{Limits, limits, wide_limits, text_room, formula_text_room}
use Rattle.rules.specs.Formula.{Formula, atom, constant, exponential, connective, Sign, plain, negated, Constant, One, Bottom, Top, Zero, Exponential, OfCourse, WhyNot, Connective, Tensor, Par, With, Plus, Lolli, encode_formula, formula_nodes}
use Rattle.rules.specs.Term.{Term, var, leaf, one, two, abs, both, branch, Leaf, unit, trivial, One as OneKind, inl, inr, fst, snd, abort, promote, derelict, pair, app, discard, let_a_pair, copy, encode, nodes}
use Rattle.rules.specs.Text.{sign_text, constant_text, exponential_text, connective_text, text_of_formula, leaf_text, one_text, text}

sign-short : (k : Sign) → length (say (sign_text k)) ≤ 3
sign-short plain = omega arith
sign-short negated = omega arith

constant-short : (k : Constant) → length (say (constant_text k)) ≤ 3
constant-short One = omega arith
constant-short Bottom = omega arith
constant-short Top = omega arith
constant-short Zero = omega arith

exponential-short : (k : Exponential) → length (say (exponential_text k)) ≤ 1
exponential-short OfCourse = omega arith
exponential-short WhyNot = omega arith

connective-short : (k : Connective) → length (say (connective_text k)) ≤ 5
connective-short Tensor = omega arith
connective-short Par = omega arith
connective-short With = omega arith
connective-short Plus = omega arith
connective-short Lolli = omega arith

pub formula-text-size : (f : Formula) → length (text_of_formula f) + 2 ≤ length (encode_formula f) + 4 * formula_nodes f
unfolding text_of_formula encode_formula formula_nodes
formula-text-size (atom k x) = omega (arith, sign-short k, length-append x (say (sign_text k)))
formula-text-size (constant k) = omega (arith, constant-short k)
formula-text-size (exponential k a) = omega (arith, exponential-short k, length-append (say (exponential_text k)) (text_of_formula a), formula-text-size a)
formula-text-size (connective k a b) =
    simp length-append (omega (arith, connective-short k, formula-text-size a, formula-text-size b))

leaf-short : (k : Leaf) → length (say (leaf_text k)) ≤ 6
leaf-short unit = omega arith
leaf-short trivial = omega arith

one-short : (k : OneKind) → length (say (one_text k)) ≤ 9
one-short inl = omega arith
one-short inr = omega arith
one-short fst = omega arith
one-short snd = omega arith
one-short abort = omega arith
one-short promote = omega arith
one-short derelict = omega arith

-- the words of a Case are the longest: 32 bytes, for 3 of its own
pub term-text-size : (t : Term) → length (text t) ≤ length (encode t) + 29 * nodes t
unfolding text encode nodes
term-text-size (var x) = omega arith
term-text-size (leaf k) = omega (arith, leaf-short k)
term-text-size (one k e) = omega (arith, one-short k, length-append (say (one_text k)) (text e), term-text-size e)
term-text-size (two pair a b) = simp length-append (omega (arith, term-text-size a, term-text-size b))
term-text-size (two app a b) = simp length-append (omega (arith, term-text-size a, term-text-size b))
term-text-size (two discard a b) = simp length-append (omega (arith, term-text-size b))
term-text-size (abs x e) = simp length-append (omega (arith, term-text-size e))
term-text-size (both let_a_pair x y e b) = simp length-append (omega (arith, term-text-size e, term-text-size b))
term-text-size (both copy x y e b) = simp length-append (omega (arith, term-text-size e, term-text-size b))
term-text-size (branch x y e l r) = simp length-append (omega (arith, term-text-size e, term-text-size l, term-text-size r))

-- limits under which the texts fit, and that ours are such
pub record TextsFit (L : Limits) : Type 0 where
  pub formula : L.bytes + 4 * L.formulas ≤ formula_text_room L
  pub term : L.bytes + 29 * L.nodes ≤ text_room L

pub limits-fit : TextsFit limits
limits-fit = record { formula = omega arith; term = omega arith }

pub wide-limits-fit : TextsFit wide_limits
wide-limits-fit = record { formula = omega arith; term = omega arith }
