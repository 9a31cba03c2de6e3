-- Going on over one node more that is no redex: it gives way to its parts, and what is calm among those left makes the whole calm. By the node that
-- stands there if the bytes are a term. Assumes nothing.
use Prim.Native.Nat.{ℕ, zero, suc, ◌+◌, ◌-◌, ◌/◌, ◌%◌, ◌<◌}
use native.Mathlib.Omega.{arith}
use mathlib.Core.Path.{◌≡◌, refl, sym, ap, ◌∙◌}
use mathlib.Core.Bool.{Bool, true, false}
use lib.ListN.{length, get_or}
use lib.Dec.{eqb}
use borrow.Author.Tests.{eqb-true, eqb-false}
use Rattle.rules.specs.Basic.{Bytes}
use Rattle.rules.specs.Layout.{head_by_tag}
use Rattle.rules.specs.Name.{name_spelling}
use Rattle.rules.specs.Term.{Term, var, leaf, one, two, abs, both, branch, unit, trivial, inl, inr, fst, snd, abort, promote, derelict, pair, app, discard, let_a_pair, copy, terms}
use Rattle.reader.specs.Classes.{code_at}
use Rattle.term.specs.Node.{tag, names, names_after}
use Rattle.term.specs.Place.{TermAt}
use Rattle.term.proofs.node.Names.{AfterIs, none_after, name_done}
use Rattle.term.proofs.node.Terms.{at_tag, at-count-names}
use Rattle.redex.specs.Searched.{reduces}
use Rattle.redex.proofs.find.Firsts.{wants-nothing}
use Rattle.reader.specs.Count.{jumped, NamesTo}
use Rattle.redex.specs.Swept.{Swept}
use Rattle.redex.proofs.calm.Sweeping.{some-here, turned, forgotten}
use Rattle.redex.specs.After.{wanting, CalmAt}

-- where names end by their lengths, they end
jump-after : (s : Bytes) (k at : ℕ) → AfterIs s at k (jumped s at k)
unfolding jumped
jump-after s zero at = none_after s at 0 refl
jump-after s (suc k) at =
    let z : suc k - 1 ≡ k = omega arith in
    name_done s at (suc k) (λ e. omega arith) (jumped s (at + 1 + get_or s at 0) k) (rw z (jump-after s k (at + 1 + get_or s at 0)))

-- a tag's code says how many names follow it
code-names : (u : Term) → code_at terms (head_by_tag terms.heads (tag u)) / 2 % 4 ≡ names_after (tag u)
code-names (var x) = refl
code-names (leaf unit) = refl
code-names (leaf trivial) = refl
code-names (one inl e) = refl
code-names (one inr e) = refl
code-names (one fst e) = refl
code-names (one snd e) = refl
code-names (one abort e) = refl
code-names (one promote e) = refl
code-names (one derelict e) = refl
code-names (two pair a b) = refl
code-names (two app a b) = refl
code-names (two discard a b) = refl
code-names (abs x e) = refl
code-names (both let_a_pair x y e b) = refl
code-names (both copy x y e b) = refl
code-names (branch x y e l r) = refl

-- a node with one name wants nothing
one_name : (u v : Term) → length (names u) ≡ 1 → reduces (tag u) (tag v) ≡ false
one_name (var x) v h = sym (wants-nothing v)
one_name (abs x e) v h = sym (wants-nothing v)
one_name (leaf k) v h = absurd (omega arith)
one_name (one k e) v h = absurd (omega arith)
one_name (two k a b) v h = absurd (omega arith)
one_name (both k x y e b) v h = absurd (omega arith)
one_name (branch x y e l r) v h = absurd (omega arith)

-- and so does one that is never a redex
never-one : (u v : Term) → wanting (tag u) ≡ 0 → reduces (tag u) (tag v) ≡ false
never-one (var x) v h = sym (wants-nothing v)
never-one (leaf unit) v h = sym (wants-nothing v)
never-one (leaf trivial) v h = sym (wants-nothing v)
never-one (one inl e) v h = sym (wants-nothing v)
never-one (one inr e) v h = sym (wants-nothing v)
never-one (one abort e) v h = sym (wants-nothing v)
never-one (one promote e) v h = sym (wants-nothing v)
never-one (one fst e) v h = absurd (omega arith)
never-one (one snd e) v h = absurd (omega arith)
never-one (one derelict e) v h = absurd (omega arith)
never-one (two pair a b) v h = sym (wants-nothing v)
never-one (two app a b) v h = absurd (omega arith)
never-one (two discard a b) v h = absurd (omega arith)
never-one (abs x e) v h = sym (wants-nothing v)
never-one (both let_a_pair x y e b) v h = absurd (omega arith)
never-one (both copy x y e b) v h = absurd (omega arith)
never-one (branch x y e l r) v h = absurd (omega arith)

module _ (s : Bytes) (i : ℕ) (w : Swept s i 0) (h : i < length s) (code : ℕ) (is : code ≡ code_at terms (head_by_tag terms.heads (get_or s i 0))) (j : ℕ)
    (n : NamesTo s name_spelling (i + 1) (code / 2 % 4) j) (c : CalmAt s (get_or s i 0) (code / 2 % 4) j) where
  pub calm_more : Swept s j 0
  calm_more t e =
      let a = some-here s i 0 h w (t, e) in
      let u = a.0 in
      let k : get_or s i 0 ≡ tag u = at_tag s i u a.1 in
      let q : code / 2 % 4 ≡ names_after (get_or s i 0) =
      ap (λ (z : ℕ). z / 2 % 4) (is ∙ ap (λ (z : ℕ). code_at terms (head_by_tag terms.heads z)) k) ∙ code-names u ∙ ap (λ (z : ℕ). names_after z) (sym k) in
      let l = turned s i 0 h w (code / 2 % 4) j q (rw n.jumps (jump-after s (code / 2 % 4) (i + 1))) (ap (λ (z : ℕ). reduces 0 z) k ∙ sym (wants-nothing u)) t e in
      forgotten s j (get_or s i 0) t l (λ v b. after u a.1 k q v b (eqb (code / 2 % 4) 1) refl (eqb (wanting (get_or s i 0)) 0) refl)
    where
      after : (u : Term) → TermAt s i u → get_or s i 0 ≡ tag u → code / 2 % 4 ≡ names_after (get_or s i 0) → (v : Term) → TermAt s j v → (b : Bool) → eqb (code / 2 % 4) 1 ≡ b
          → (d : Bool) → eqb (wanting (get_or s i 0)) 0 ≡ d → reduces (get_or s i 0) (tag v) ≡ false
      after u a k q v b true f d g = ap (λ (z : ℕ). reduces z (tag v)) k ∙ one_name u v (sym (at-count-names s i u a) ∙ sym q ∙ eqb-true _ _ f)
      after u a k q v b false f true g = ap (λ (z : ℕ). reduces z (tag v)) k ∙ never-one u v (ap (λ (z : ℕ). wanting z) (sym k) ∙ eqb-true _ _ g)
      after u a k q v b false f false g = ap (λ (z : ℕ). reduces (get_or s i 0) z) (sym (at_tag s j v b)) ∙ c (eqb-false _ _ f) (eqb-false _ _ g)
