-- `axiom::axiom_name` meets its contract: the first formula that gives a name decides. Assumes nothing.
use Prim.Native.Nat.{ℕ, ◌+◌, ◌-◌, ◌<◌}
use mathlib.Core.Path.{◌≡◌, sym, subst}
use mathlib.Core.Option.{none}
use native.Mathlib.Omega.{arith}
use borrow.Author.Rules.{rules}
use lib.ListN.{length, get_or}
use Rattle.proof_draft.specs.Searching.{Listed, Takes}
use Rattle.proof_draft.proofs.axiom.Axioms.{row_first, row_one, row_next, takes_none, takes-next, takes-found, gives-none}
use Rattle.proof_draft.proofs.axiom.axiom_name.Goals as goal

pub name_given-name-requires : goal.name_given-name-requires
name_given-name-requires c = row_first _ _ _ _ _ (omega (arith, c.loop-passed-test.true)) c.loop-passed.invariant.0

pub returns-then-is_some : goal.returns-then-is_some
returns-then-is_some c =
    let n = c.name_given-name in
    (c.loop-passed.invariant.1 _ (takes-found _ _ _ _ _ (omega (arith, c.loop-passed-test.true)) n.result n.ensures.0 (search rules)), n.ensures.1)

pub skip_formulas-at-requires : goal.skip_formulas-at-requires
skip_formulas-at-requires c = row_one _ _ _ _ _ (omega (arith, c.loop-passed-test.true)) c.loop-passed.invariant.0

pub loop-passed-preserved : goal.loop-passed-preserved
loop-passed-preserved c =
    let a = c.args in
    let many = get_or a.s.now a.linear 0 in
    let left = many - c.loop-passed.passed in
    let h : 0 < left = omega (arith, c.loop-passed-test.true) in
    let fewer : left - 1 ≡ many - (c.loop-passed.passed + 1) = omega arith in
    let j = c.skip_formulas-at.result in
    let g = gives-none a.s.now a.entries.now (length a.entries.now) c.loop-passed.at c.name_given-name.result c.name_given-name.ensures.0 (search rules) in (
      subst (λ (m : ℕ). Listed a.s.now a.entries.now (length a.entries.now) j m) fewer (row_next a.s.now a.entries.now (length a.entries.now) c.loop-passed.at left h j c.skip_formulas-at.ensures c.loop-passed.invariant.0),
      λ o t. c.loop-passed.invariant.1 o
          (takes-next a.s.now a.entries.now (length a.entries.now) c.loop-passed.at left h j c.skip_formulas-at.ensures g o (subst (λ (m : ℕ). Takes a.s.now a.entries.now (length a.entries.now) j m o) (sym fewer) t)),
    )

pub returns : goal.returns
returns c =
    (c.loop-passed.invariant.1 none (takes_none _ _ _ _ _ (omega (arith, c.loop-passed-test.false))), tt)
