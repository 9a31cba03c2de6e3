-- `word::is_among` meets its contract: the words that are not compared yet decide. Assumes nothing.
use Prim.Native.Nat.{ℕ}
use mathlib.Core.Bool.{Bool}
use mathlib.Core.Path.{◌≡◌, sym, ap, ◌∙◌}
use native.Mathlib.Omega.{arith}
use lib.ListN.{length, take, drop}
use Rattle.rules.specs.Basic.{Bytes}
use Rattle.rules.specs.Name.{Name, same}
use Rattle.reader.specs.Form.{Form}
use Rattle.reader.specs.Words.{compared}
use Rattle.reader.proofs.word.Rows.{decides-none, decides-found, decides-later}
use Rattle.reader.proofs.word.is_among.Goals as goal

-- what `spells` says of a word of n letters
module _ (f : Form) (s : Bytes) (at n : ℕ) (w : Name) (long : length w ≡ n) where
  spelled : (r b : Bool) → r ≡ same (compared f (take (length w) (drop at s))) w → r ≡ b → same (compared f (take n (drop at s))) w ≡ b
  spelled r b e is = ap (λ (k : ℕ). same (compared f (take k (drop at s))) w) (sym long) ∙ sym e ∙ is

pub loop-word-preserved : goal.loop-word-preserved
loop-word-preserved c =
    let a = c.args in
    let i = c.loop-word.invariant in
    let step = c.in-Some.ensures.steps in
    let long = step.1.1 ∙ i.2 in
    let off = spelled a.form a.s.now a.at a.n c.in-Some.word.now long _ _ c.spells.ensures c.if-spells.false in
    (omega (arith, i.0, step.0), tt, step.0 ∙ i.2, decides-later _ a.n c.requires.0 _ _ i.3 _ _ step.1.0 long off)

pub returns : goal.returns
returns c =
    let i = c.loop-word.invariant in
    decides-none _ c.args.n c.requires.0 _ _ i.3 (omega (arith, i.2, c.in-None.ensures.steps.1.0))

pub returns-then-spells : goal.returns-then-spells
returns-then-spells c =
    let a = c.args in
    let i = c.loop-word.invariant in
    let step = c.in-Some.ensures.steps in
    let long = step.1.1 ∙ i.2 in
    let on = spelled a.form a.s.now a.at a.n c.in-Some.word.now long _ _ c.spells.ensures c.if-spells.true in
    decides-found _ a.n c.requires.0 _ _ i.3 _ _ step.1.0 long on
