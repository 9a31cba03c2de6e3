-- `name::skip_following` meets its contract: what is left to read from p on is what was to be read from `at` on. Assumes nothing.
use Rattle.rules.specs.declared.Reason.TheVariants.{BadName}
use Prim.Native.Nat.{ℕ, ◌+◌, ◌-◌}
use native.Mathlib.Omega.{arith}
use mathlib.Core.Path.{◌≡◌, sym, ap, ◌∙◌}
use mathlib.Core.Bool.{true, false}
use lib.ListN.{get_or, drop}
use Rattle.rules.specs.Name.{follows}
use Rattle.rules.specs.Reading.{byte_for}
use Rattle.reader.specs.View.{past, skipped}
use Rattle.reader.proofs.class.Views.{letter-on, letter-off, many-on, many-off, many-none}
use Rattle.reader.proofs.name.skip_following.Goals as goal

pub loop-p-preserved : goal.loop-p-preserved
loop-p-preserved c =
    let l = c.loop-p in
    let a = c.args in
    let s = a.s.now in
    let e : follows (get_or s l.p 0) ≡ true = cc in (
      l.invariant.0,
      λ u.
          l.invariant.1 u
          ∙ many-on (byte_for follows BadName) (a.end - l.p) u l.p (drop l.p s) (a.end - (l.p + 1)) (omega arith) _ u (l.p + 1) _ (letter-on follows s u l.p (omega arith) e),
    )

pub returns : goal.returns
returns c =
    let l = c.loop-p in
    let a = c.args in
    let e : l.p ≡ a.end = omega arith in
    λ u. ap (λ (p : ℕ). past p u) (sym e) ∙ sym (l.invariant.1 u ∙ many-none (byte_for follows BadName) (a.end - l.p) u l.p (drop l.p a.s.now) (omega arith))

pub returns-then-not-follows : goal.returns-then-not-follows
returns-then-not-follows c =
    let l = c.loop-p in
    let a = c.args in
    let s = a.s.now in
    let e : follows (get_or s l.p 0) ≡ false = cc in
    λ u.
    ap (skipped u) c.fault.ensures
    ∙ sym (l.invariant.1 u
    ∙ many-off (byte_for follows BadName) (a.end - l.p) u l.p (drop l.p s) (a.end - (l.p + 1)) (omega arith) BadName l.p (letter-off follows s u l.p (omega arith) e))
