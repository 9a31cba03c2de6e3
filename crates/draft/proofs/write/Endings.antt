-- What the steps of writing a part leave: the bytes of the head and of the parts, one after the other, are those of its term. Assumes nothing.
use Prim.Native.Nat.{ℕ, zero, suc, ◌+◌, ◌-◌}
use mathlib.Core.Path.{◌≡◌, refl, sym, ap, ◌∙◌}
use mathlib.Core.List.{List, ◌++◌, append-nil}
use lib.ListN.{set}
use Rattle.rules.specs.Basic.{Bytes}
use Rattle.rules.specs.Term.{Term, encode}
use Rattle.buffer.specs.Wrote.{Wrote}
use Rattle.buffer.specs.Writing.{chain}
use Rattle.words.specs.Digits.{wrote_as, wrote_one}
use Rattle.draft.specs.declared.row.Row.{Row}
use Rattle.draft.specs.Draft.{row_at, shape_of, Drafts}
use Rattle.draft.specs.Steady.{drafts-unit, drafts-trivial, drafts-one}
use Rattle.draft.specs.Heads.{front, parts_of, written}
use Rattle.draft.specs.Writing.{Puts}
use Rattle.draft.proofs.write.Shapes.{shaped-bytes}
use Rattle.draft.proofs.write.Opening.{Opened, opened}

-- the bytes of so many parts
written-three : (c : ℕ) (a b : Bytes) → (c ≡ 0 → ⊥) → (c ≡ 1 → ⊥) → (c ≡ 2 → ⊥) → written c a b ≡ a ++ (b ++ b)
written-three zero a b x y z = absurd (x refl)
written-three (suc zero) a b x y z = absurd (y refl)
written-three (suc (suc zero)) a b x y z = absurd (z refl)
written-three (suc (suc (suc c))) a b x y z = refl

-- what is written by then, when no part is left
module _ (s : Bytes) (ws : List Row) (n p : ℕ) {out out₁ : Bytes} {at q : ℕ} (a : p ≡ 0 → ⊥) (b : p ≡ 1 → ⊥)
    (h : Wrote out at (front s (row_at ws (p - 2))) out₁ q) (c : ℕ)
    (e : c ≡ parts_of (shape_of (row_at ws (p - 2)).kind)) where
  abbrev r : Row
  r = row_at ws (p - 2)

  -- the bytes of a term that the part is, with so many parts
  bytes : (t : Term) (o : Opened s ws n r t)
      → encode t ≡ front s r ++ written c (encode (o.part r.first)) (encode (o.part r.second))
  bytes t o =
      ap (λ (u : Term). encode u) o.is ∙ shaped-bytes s r o.part (shape_of r.kind)
      ∙ ap (λ (m : ℕ). front s r ++ written m (encode (o.part r.first)) (encode (o.part r.second))) (sym e)

  pub end-head : c ≡ 0 → Puts s ws n p out at out₁ q
  end-head x t d =
      let o = opened p a b d in
      wrote_as
      (sym
      (bytes t o
      ∙ ap (λ (m : ℕ). front s r ++ written m (encode (o.part r.first)) (encode (o.part r.second))) x
      ∙ append-nil (front s r)))
      h

  module _ {out₂ : Bytes} {q' : ℕ} (f : Puts s ws n r.first out₁ q out₂ q') where
    pub end-first : c ≡ 1 → Puts s ws n p out at out₂ q'
    end-first x t d =
        let o = opened p a b d in
        wrote_as
        (sym
        (bytes t o
        ∙ ap (λ (m : ℕ). front s r ++ written m (encode (o.part r.first)) (encode (o.part r.second))) x))
        (chain h (f (o.part r.first) o.first))

    module _ {out₃ : Bytes} {q'' : ℕ} (f' : Puts s ws n r.second out₂ q' out₃ q'') where
      pub end-second : c ≡ 2 → Puts s ws n p out at out₃ q''
      end-second x t d =
          let o = opened p a b d in
          wrote_as
          (sym
          (bytes t o
          ∙ ap (λ (m : ℕ). front s r ++ written m (encode (o.part r.first)) (encode (o.part r.second))) x))
          (chain h (chain (f (o.part r.first) o.first) (f' (o.part r.second) o.second)))

      pub end-third : {out₄ : Bytes} {q''' : ℕ} → Puts s ws n r.second out₃ q'' out₄ q''' → (c ≡ 0 → ⊥) → (c ≡ 1 → ⊥) → (c ≡ 2 → ⊥) → Puts s ws n p out at out₄ q'''
      end-third f'' x y z t d =
          let o = opened p a b d in
          let g = o.part r.second in
          wrote_as
          (sym
          (bytes t o
          ∙ ap (λ (l : Bytes). front s r ++ l) (written-three c (encode (o.part r.first)) (encode g) x y z)))
          (chain h (chain (f (o.part r.first) o.first) (chain (f' g o.second) (f'' g o.second))))

-- the parts with which a draft begins
pub end-unit : {s : Bytes} {ws : List Row} {n p : ℕ} (out : Bytes) (at : ℕ) → p ≡ 0 → Puts s ws n p out at (set out at 2) (at + 1)
unfolding encode
end-unit {s} {ws} {n} out at e t d =
    let x : Drafts s ws n 0 t = rw e at d in
    wrote_as (ap (λ (u : Term). encode u) (drafts-one (drafts-unit d.rows) x)) (wrote_one out at 2)

pub end-trivial : {s : Bytes} {ws : List Row} {n p : ℕ} (out : Bytes) (at : ℕ) → p ≡ 1 → Puts s ws n p out at (set out at 10) (at + 1)
unfolding encode
end-trivial {s} {ws} {n} out at e t d =
    let x : Drafts s ws n 1 t = rw e at d in
    wrote_as (ap (λ (u : Term). encode u) (drafts-one (drafts-trivial d.rows) x)) (wrote_one out at 10)
