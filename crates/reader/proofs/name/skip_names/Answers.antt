-- `name::skip_names` meets its contract: what is left to read from p on is what was to be read from `at` on. Assumes nothing.
use Prim.Native.Nat.{ℕ, ◌+◌, ◌-◌}
use native.Mathlib.Omega.{arith}
use mathlib.Core.Path.{sym, ap, ◌∙◌}
use lib.ListN.{drop}
use Rattle.rules.specs.Reading.{name}
use Rattle.laws.specs.reading.Steady.{steady-name}
use Rattle.reader.specs.Words.{spelling_of}
use Rattle.laws.specs.Handed.{handed}
use Rattle.reader.specs.View.{skipped}
use Rattle.reader.specs.Viewed.{view-bad, Passed, passed}
use Rattle.reader.proofs.class.Views.{times-on, times-off, times_none}
use Rattle.reader.proofs.name.skip_names.Goals as goal

pub loop-preserved : goal.loop-preserved
loop-preserved c =
    let a = c.args in
    let l = c.loop in
    let s = a.s.now in
    let k : (u : ℕ) → Passed s (name (spelling_of a.form) u l.p (drop l.p s)) _ u =
    λ u. passed (name (spelling_of a.form)) (steady-name (spelling_of a.form)) s u l.p l.invariant.0 (sym (c.skip_name.ensures u) ∙ ap (skipped u) c.in_ok-p.was) in (
      (k 0).within,
      λ u. l.invariant.1 u ∙ times-on (name (spelling_of a.form)) (a.n - l.counter) u l.p (drop l.p s) (a.n - (l.counter + 1)) (omega arith) (k u).value u _ _ (k u).is,
    )

pub returns : goal.returns
returns c =
    let a = c.args in
    let l = c.loop in
    λ u. sym (l.invariant.1 u ∙ times_none (name (spelling_of a.form)) (a.n - l.counter) u l.p (drop l.p a.s.now) (omega arith))

pub returns-in_err-p : goal.returns-in_err-p
returns-in_err-p c =
    let a = c.args in
    let l = c.loop in
    let s = a.s.now in
    λ u.
    ap (skipped u) (handed c.from_residual.result c.from_residual.ensures.1)
    ∙ sym (l.invariant.1 u
    ∙ times-off (name (spelling_of a.form)) (a.n - l.counter) u l.p (drop l.p s) (a.n - (l.counter + 1)) (omega arith) _ _
    (view-bad (name (spelling_of a.form) u l.p (drop l.p s)) (sym (c.skip_name.ensures u) ∙ ap (skipped u) c.in_err-p.was)))
