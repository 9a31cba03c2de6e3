-- `put::put_cut` meets its contract: by the tag of the formula. Assumes nothing.
use native.Mathlib.Omega.{arith}
use Rattle.proof.proofs.rule.Formulas.{formula-inside}
use Rattle.proof_draft.proofs.put.Putting.{put_is, joined_at, joined-other}
use Rattle.proof_draft.proofs.put.put_cut.Goals as goal

pub bounds-s-own : goal.bounds-s-own
bounds-s-own c = formula-inside _ _ c.requires.0.0 c.requires.0.1

pub returns-in-3 : goal.returns-in-3
returns-in-3 c = λ f a b v x y. put_is (joined_at _ a b _ _ f v 3 c.in-3.is) (c.push_row.ensures _ a b _ (omega arith) x y)

pub returns-in-8 : goal.returns-in-8
returns-in-8 c = λ f a b v x y. put_is (joined_at _ a b _ _ f v 8 c.in-8.is) (c.push_row-in-8.ensures _ a b _ (omega arith) x y)

pub returns-in_default : goal.returns-in_default
returns-in_default c = λ f a b v x y. put_is (joined-other _ a b _ _ f v (λ e. omega arith) (λ e. omega arith)) (c.push_row-in_default.ensures _ b a _ (omega arith) y x)
