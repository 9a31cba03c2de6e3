-- Two names put into a term, in either order: equal terms, if neither name is free in what goes in for the other (request (viii); TwoFeeds says it of the call).
-- Nothing is renamed, so a name that is caught is caught in both orders. By induction on the term.
-- Assumes nothing.
use Rattle.std.specs.Prelude.{◌≡◌, Bool, ◌||◌, if◌then◌else◌}
use Rattle.std.proofs.Math.Path.{refl, ap, ap₂}
use Rattle.std.proofs.Common.{sym, ◌∙◌, true≢false}
use Rattle.std.proofs.Math.Bool.{true, false}
use Rattle.rules.specs.Name.{Name, same}
use Rattle.rules.specs.Term.{Term, var, leaf, one, two, abs, both, branch}
use Rattle.rules.specs.Free.{occurrences}
use Rattle.rules.specs.Substitution.{subst}
use Rattle.laws.specs.free.Same.{same-equal}
use Rattle.laws.specs.substitution.SubstNone.{subst-none}

module _ (x y : Name) (a b : Term) (apart : same x y ≡ false) (no-x : occurrences x b ≡ 0) (no-y : occurrences y a ≡ 0) where
  abbrev Swaps : Term → Type 0
  Swaps t = subst x a (subst y b t) ≡ subst y b (subst x a t)

  at-var : (n : Name) (p q : Bool) → same x n ≡ p → same y n ≡ q → subst x a (if q then b else var n) ≡ subst y b (if p then a else var n)
  unfolding subst
  at-var n true true e f = absurd (true≢false (sym e ∙ ap (same x) (sym (same-equal y n f)) ∙ apart))
  at-var n true false e f = rw e (sym (subst-none y b a no-y))
  at-var n false true e f = rw f (subst-none x a b no-x)
  at-var n false false e f = rw (e, f)

  -- under a binder that stops x, or y, or both
  under : (p q : Bool) (t : Term) → Swaps t → (if p then (if q then t else subst y b t) else subst x a (if q then t else subst y b t)) ≡ (if q then (if p then t else subst x a t) else subst y b (if p then t else subst x a t))
  under true true t h = refl
  under true false t h = refl
  under false true t h = refl
  under false false t h = h

  pub subst-swap : (t : Term) → Swaps t
  unfolding subst
  subst-swap (var n) = at-var n (same x n) (same y n) refl refl
  subst-swap (leaf k) = refl
  subst-swap (one k e) = ap (one k) (subst-swap e)
  subst-swap (two k c d) = ap₂ (two k) (subst-swap c) (subst-swap d)
  subst-swap (abs n e) = ap (abs n) (under (same x n) (same y n) e (subst-swap e))
  subst-swap (both k n m c d) = ap₂ (both k n m) (subst-swap c) (under (same x n || same x m) (same y n || same y m) d (subst-swap d))
  subst-swap (branch n m c l r) =
      let p = subst-swap c in
      let q = under (same x n) (same y n) l (subst-swap l) in
      let w = under (same x m) (same y m) r (subst-swap r) in
      λ i. branch n m (p i) (q i) (w i)
