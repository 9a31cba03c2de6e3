-- `calm` meets its contract: whatever is calm among the terms left makes the whole calm, and in the end none is left. Assumes nothing.
use native.Mathlib.Omega.{arith}
use mathlib.Core.Path.{◌≡◌}
use mathlib.Core.Bool.{false}
use lib.ListN.{get_or}
use Rattle.term.proofs.node.Terms.{at_small, some-names}
use Rattle.redex.specs.Searched.{reduces}
use Rattle.redex.proofs.calm.Quiet.{quiet}
use Rattle.redex.proofs.calm.Sweeping.{done, some-here, ahead, turned}
use Rattle.redex.proofs.calm.calm.Goals as goal

pub after_names-i-requires : goal.after_names-i-requires
after_names-i-requires c = let l = c.loop-i in some-names _ _ (some-here _ _ _ c.loop-i-test.true l.invariant.0 c.requires.s_value) _ c.names_of.ensures

pub loop-i-preserved : goal.loop-i-preserved
loop-i-preserved c = let l = c.loop-i in let t = c.loop-i-test.true in let a = some-here _ _ _ t l.invariant.0 c.requires.s_value in let q = c.names_of.ensures in let h = c.after_names-i.ensures in
    let r : reduces l.last (get_or c.args.s.now l.i 0) ≡ false = cc in
    (turned _ _ _ t l.invariant.0 _ _ q h r, omega (arith, at_small _ _ a.0 a.1))

pub loop-i-smaller : goal.loop-i-smaller
loop-i-smaller c = let l = c.loop-i in omega (arith, ahead _ _ _ c.loop-i-test.true l.invariant.0 _ _ c.names_of.ensures c.after_names-i.ensures c.requires.s_value)

pub names_of-requires : goal.names_of-requires
names_of-requires c = let l = c.loop-i in let a = some-here _ _ _ c.loop-i-test.true l.invariant.0 c.requires.s_value in omega (arith, at_small _ _ a.0 a.1)

pub reduces-requires : goal.reduces-requires
reduces-requires c = let l = c.loop-i in let a = some-here _ _ _ c.loop-i-test.true l.invariant.0 c.requires.s_value in (l.invariant.1, omega (arith, at_small _ _ a.0 a.1))

pub returns : goal.returns
returns c = let l = c.loop-i in λ t d e. quiet t (done _ _ _ l.invariant.0 (omega arith) t d)
