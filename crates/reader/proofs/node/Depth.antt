-- Two depths that suffice read the same: where no node may follow, both say so, and each node that was read leaves one less to follow.
-- Assumes nothing.
use Rattle.rules.specs.declared.Reason.TheVariants.{OneTooMany}
use Prim.Native.Nat.{ℕ, zero, suc, ◌+◌, ◌≤◌}
use native.Mathlib.Omega.{arith}
use mathlib.Core.Path.{◌≡◌, refl, sym, ap, ◌∙◌}
use mathlib.Core.Bool.{Bool, true, false}
use mathlib.Core.List.{[], ◌∷◌}
use mathlib.Core.Option.{Option, none, some}
use borrow.Author.Tests.{le-ltb}
use Rattle.std.specs.Prelude.{if◌then◌else◌}
use Rattle.rules.specs.Basic.{Bytes, ◌<?◌}
use Rattle.rules.specs.Layout.{Layout, head_by_tag}
use Rattle.rules.specs.Reading.{Got, got, bad, Reader, and_then, pure, times, byte, name, listed, tag, too_many, node}
use Rattle.laws.specs.reading.Steady.{names-level, node-upward}

-- what follows a reading need agree only on what it can read
module _ {A B : Type 0} where
  then_same : (g : Got ℕ A) (k l : A → Reader ℕ B) → ((x : A) (u p : ℕ) (r : Bytes) → g ≡ got x u p r → k x u p r ≡ l x u p r) → and_then g k ≡ and_then g l
  then_same (got x u p r) k l h = h x u p r refl
  then_same (bad n p) k l h = refl

tag-counts : {H : Type 0} (most : ℕ) (hs : ℕ → Option H) (u at : ℕ) (r : Bytes) {h : H} {v p : ℕ} {q : Bytes} → tag most hs u at r ≡ got h v p q → v ≡ u + 1
unfolding tag byte
tag-counts most hs u at [] e = absurd (let z : ◌≡◌ {A = ℕ} 0 1 = cc in omega arith)
tag-counts {H} most hs u at (b ∷ r) {h} {v} {p} {q} e = go (u <? most) (hs b) e
  where
    go : (t : Bool) (o : Option H) → (if t then listed u at (at + 1) r o else bad OneTooMany at) ≡ got h v p q → v ≡ u + 1
    go true none e = absurd (let z : ◌≡◌ {A = ℕ} 0 1 = cc in omega arith)
    go true (some h') e = cc
    go false o e = absurd (let z : ◌≡◌ {A = ℕ} 0 1 = cc in omega arith)

module _ {H A : Type 0} (F : Layout H A) (most : ℕ) where
  abbrev Same : ℕ → ℕ → Type 0
  Same f g = (u at : ℕ) (r : Bytes) → most ≤ u + f → most ≤ u + g → node F most f u at r ≡ node F most g u at r

  parts_same : (f g : ℕ) → Same f g → (n u at : ℕ) (r : Bytes) → most ≤ u + f → most ≤ u + g → times (node F most f) n u at r ≡ times (node F most g) n u at r
  unfolding times
  parts_same f g e zero u at r a b = refl
  parts_same f g e (suc n) u at r a b =
      ap (λ t. and_then t (λ x u p r. and_then (times (node F most f) n u p r) (λ xs. pure (x, xs)))) (e u at r a b)
      ∙ then_same (node F most g u at r) _ _ (λ x v p q i.
      let h : u ≤ v = node-upward F most g u at r i in
      ap (λ t. and_then t (λ xs. pure (x, xs))) (parts_same f g e n v p q (omega arith) (omega arith)))

  -- no node may follow
  full : (f u at : ℕ) (r : Bytes) → most ≤ u → node F most (suc f) u at r ≡ node F most zero u at r
  unfolding node tag too_many byte
  full f u at [] h = refl
  full f u at (b ∷ r) h = simp (le-ltb u most h)

  pub same : (f g : ℕ) → Same f g
  unfolding node
  same zero zero u at r a b = refl
  same zero (suc g) u at r a b = sym (full g u at r (omega arith))
  same (suc f) zero u at r a b = full f u at r (omega arith)
  same (suc f) (suc g) u at r a b =
      then_same (tag most (head_by_tag F.heads) u at r) _ _ (λ h v p q e.
      then_same (times (name F.spelling) (F.names h) v p q) _ _ (λ xs w p' q' e'.
      let z : w ≡ u + 1 = names-level v p q F.spelling (F.names h) e' ∙ tag-counts most (head_by_tag F.heads) u at r e in
      ap (λ t. and_then t (λ ts. pure (F.build h xs ts))) (parts_same f g (same f g) (F.parts h) w p' q' (omega arith) (omega arith))))
