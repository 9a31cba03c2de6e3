-- Passing a node with one part and no names: one node was to be read, and one is still to be read. Assumes nothing.
use Prim.Native.Nat.{ℕ, ◌+◌, ◌-◌, ◌<◌, ◌≤◌}
use native.Mathlib.Omega.{arith}
use mathlib.Core.Path.{◌≡◌, refl, sym, ap, ◌∙◌}
use lib.ListN.{length, get_or, drop}
use Rattle.std.specs.Prelude.{Ok}
use Rattle.rules.specs.Basic.{Bytes}
use Rattle.rules.specs.Layout.{head_by_tag}
use Rattle.rules.specs.Reading.{name}
use Rattle.reader.specs.declared.class.Form.{Form}
use Rattle.reader.specs.Form.{layout_of}
use Rattle.reader.specs.Classes.{code_at}
use Rattle.reader.specs.Passed.{OnePassed}
use Rattle.reader.proofs.class.Views.{times_none}
use Rattle.reader.proofs.node.Rest.{Rest, rest-is}
use Rattle.reader.proofs.node.Turn.{turn_on}

-- passed up to p
abbrev pub Passes : Form → Bytes → (at p : ℕ) → Type 0
Passes f s at p = (most used : ℕ) → (at < p → used + (p - at) ≤ most) → OnePassed (layout_of f) most s used at p

module _ (f : Form) (s : Bytes) where
  one-step : (most u p : ℕ) → p < length s → u < most → code_at (layout_of f) (head_by_tag (layout_of f).heads (get_or s p 0)) ≡ 9 → Rest (layout_of f) most s 1 u p ≡ Rest (layout_of f) most s 1 (u + 1) (p + 1)
  one-step most u p i r e =
      turn_on f most s 1 u p (omega arith) i r 9 (sym e) (λ q. omega arith) (Ok (p + 1))
      (λ v. sym (times_none (name (layout_of f).spelling) 0 v (p + 1) (drop (p + 1) s) refl)) (p + 1) refl

  pub passes_none : (at : ℕ) → Passes f s at at
  passes_none at most used h =
      let e : used ≡ used + (at - at) = omega arith in
      sym (rest-is (layout_of f) most s 1 used at) ∙ ap (λ u. Rest (layout_of f) most s 1 u at) e ∙ rest-is (layout_of f) most s 1 (used + (at - at)) at

  pub passes-more : (at p : ℕ) → at ≤ p → p < length s → code_at (layout_of f) (head_by_tag (layout_of f).heads (get_or s p 0)) ≡ 9 → Passes f s at p → Passes f s at (p + 1)
  passes-more at p l i e g most used h =
      let m : used + (p + 1 - at) ≤ most = h (omega arith) in
      let z : used + (p - at) + 1 ≡ used + (p + 1 - at) = omega arith in
      g most used (λ q. omega arith)
      ∙ sym (rest-is (layout_of f) most s 1 (used + (p - at)) p)
      ∙ one-step most (used + (p - at)) p i (omega arith) e
      ∙ ap (λ u. Rest (layout_of f) most s 1 u (p + 1)) z
      ∙ rest-is (layout_of f) most s 1 (used + (p + 1 - at)) (p + 1)
