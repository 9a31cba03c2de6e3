-- What the steps of writing a part need: room for the head and for each part, and legal parts. Assumes nothing.
use Prim.Native.Nat.{ℕ, zero, suc, ◌+◌, ◌-◌, ◌<◌, ◌≤◌}
use mathlib.Core.Path.{◌≡◌, refl, ap, ◌∙◌}
use mathlib.Core.List.{List}
use native.Mathlib.Omega.{arith}
use lib.ListN.{length}
use Rattle.rules.specs.Basic.{Bytes}
use Rattle.rules.specs.Term.{Term, var, leaf, one, two, abs, both, branch, encode, size}
use Rattle.rules.specs.Legal.{Legal}
use Rattle.buffer.specs.Wrote.{Wrote}
use Rattle.buffer.specs.Writing.{wrote-length}
use Rattle.draft.specs.declared.row.Row.{Row}
use Rattle.draft.specs.declared.row.RowKind.TheVariants.{Named}
use Rattle.draft.specs.Draft.{row_at, name_of, Shape, shape_of, named, identity, discarding, letting, branching, copying, wrapping, joining, shaped}
use Rattle.draft.specs.Made.{Small}
use Rattle.draft.specs.Heads.{head, front, parts_of, summed, Middleroom}
use Rattle.draft.specs.Writing.{Writable, Puts}
use Rattle.draft.proofs.write.Shapes.{shaped-size}
use Rattle.draft.proofs.write.Opening.{Opened, opened}

-- sums over so many parts
summed-head : (c h a b : ℕ) → h ≤ summed c h a b
summed-head zero h a b = omega arith
summed-head (suc zero) h a b = omega arith
summed-head (suc (suc zero)) h a b = omega arith
summed-head (suc (suc (suc c))) h a b = omega arith

summed-first : (c h a b : ℕ) → (c ≡ 0 → ⊥) → h + a ≤ summed c h a b
summed-first zero h a b x = absurd (x refl)
summed-first (suc zero) h a b x = omega arith
summed-first (suc (suc zero)) h a b x = omega arith
summed-first (suc (suc (suc c))) h a b x = omega arith

summed_second : (c h a b : ℕ) → (c ≡ 0 → ⊥) → (c ≡ 1 → ⊥) → h + a + b ≤ summed c h a b
summed_second zero h a b x y = absurd (x refl)
summed_second (suc zero) h a b x y = absurd (y refl)
summed_second (suc (suc zero)) h a b x y = omega arith
summed_second (suc (suc (suc c))) h a b x y = omega arith

summed-third : (c h a b : ℕ) → (c ≡ 0 → ⊥) → (c ≡ 1 → ⊥) → (c ≡ 2 → ⊥) → h + a + b + b ≤ summed c h a b
summed-third zero h a b x y z = absurd (x refl)
summed-third (suc zero) h a b x y z = absurd (y refl)
summed-third (suc (suc zero)) h a b x y z = absurd (z refl)
summed-third (suc (suc (suc c))) h a b x y z = omega arith

-- parts of a legal term are legal
legal-first : (s : Bytes) (r : Row) (part : ℕ → Term) (k : Shape) → (parts_of k ≡ 0 → ⊥) → Legal (shaped s r part k) → Legal (part r.first)
legal-first s r part named x l = absurd (x refl)
legal-first s r part identity x l = absurd (x refl)
legal-first s r part discarding x l = l.1
legal-first s r part letting x l = l.2
legal-first s r part branching x l = l.2
legal-first s r part copying x l = l.3
legal-first s r part (wrapping k) x l = l
legal-first s r part (joining k) x l = l.0

legal-second : (s : Bytes) (r : Row) (part : ℕ → Term) (k : Shape) → (parts_of k ≡ 0 → ⊥) → (parts_of k ≡ 1 → ⊥) → Legal (shaped s r part k) → Legal (part r.second)
legal-second s r part named x y l = absurd (x refl)
legal-second s r part identity x y l = absurd (x refl)
legal-second s r part discarding x y l = absurd (y refl)
legal-second s r part letting x y l = l.3
legal-second s r part branching x y l = l.3
legal-second s r part copying x y l = absurd (y refl)
legal-second s r part (wrapping k) x y l = absurd (y refl)
legal-second s r part (joining k) x y l = l.1

legal-name : (s : Bytes) (r : Row) (part : ℕ → Term) → r.kind ≡ Named → Legal (shaped s r part (shape_of r.kind)) → length (name_of s r.stem r.number) ≤ 255
legal-name s r part e l =
    let m : Legal (shaped s r part named) = rw e at l in
    omega (arith, m.short)

-- the room that is left for each part
module _ {s : Bytes} {ws : List Row} {n p : ℕ} {out : Bytes} {at : ℕ} {t : Term} (w : Writable s ws n p out at t) (a : p ≡ 0 → ⊥) (b : p ≡ 1 → ⊥) where
  abbrev r : Row
  r = row_at ws (p - 2)

  abbrev k : Shape
  k = shape_of r.kind

  abbrev o : Opened s ws n (row_at ws (p - 2)) t
  o = opened p a b w.drafts

  abbrev own : ℕ
  own = length (head s r.number r.stem k)

  abbrev first : ℕ
  first = size (o.part r.first)

  abbrev other : ℕ
  other = size (o.part r.second)

  whole : size t ≡ summed (parts_of k) own first other
  whole = ap (λ (u : Term). size u) o.is ∙ shaped-size s r o.part k

  lawful : Legal (shaped s r o.part k)
  lawful = rw o.is at w.legal

  pub head-room : Small ws n → Middleroom s out (at + 1) r
  head-room m =
      record {
        room = omega (arith, w.room, whole, summed-head (parts_of k) own first other);
        short = λ e. legal-name s r o.part e lawful;
        small = m.each (p - 2) (omega (arith, w.drafts.among, a, b));
      }

  module _ {out₁ : Bytes} {q : ℕ} (h : Wrote out at (front s r) out₁ q) (c : ℕ) (e : c ≡ parts_of k) (x : c ≡ 0 → ⊥) where
    pub first-room : (u : Term) × Writable s ws n r.first out₁ q u
    first-room = (
      o.part r.first,
      record {
        drafts = o.first;
        legal = legal-first s r o.part k (λ z. x (e ∙ z)) lawful;
        room = omega (arith, w.room, whole, h.ends, wrote-length h, summed-first (parts_of k) own first other (λ z. x (e ∙ z)));
      },
    )

    module _ {out₂ : Bytes} {q' : ℕ} (f : Puts s ws n r.first out₁ q out₂ q') (y : c ≡ 1 → ⊥) where
      pub second-room : (u : Term) × Writable s ws n r.second out₂ q' u
      second-room =
          let g = f (o.part r.first) o.first in (
            o.part r.second,
            record {
              drafts = o.second;
              legal = legal-second s r o.part k (λ z. x (e ∙ z)) (λ z. y (e ∙ z)) lawful;
              room = omega (arith, w.room, whole, h.ends, wrote-length h, g.ends, wrote-length g, summed_second (parts_of k) own first other (λ z. x (e ∙ z)) (λ z. y (e ∙ z)));
            },
          )

      pub third-room : {out₃ : Bytes} {q'' : ℕ} → Puts s ws n r.second out₂ q' out₃ q'' → (c ≡ 2 → ⊥) → (u : Term) × Writable s ws n r.second out₃ q'' u
      third-room f' z =
          let g = f (o.part r.first) o.first in
          let g' = f' (o.part r.second) o.second in (
            o.part r.second,
            record {
              drafts = o.second;
              legal = legal-second s r o.part k (λ v. x (e ∙ v)) (λ v. y (e ∙ v)) lawful;
              room = omega (arith, w.room, whole, h.ends, wrote-length h, g.ends, wrote-length g, g'.ends, wrote-length g', summed-third (parts_of k) own first other (λ v. x (e ∙ v)) (λ v. y (e ∙ v)) (λ v. z (e ∙ v)));
            },
          )

-- every term has a byte
pub some_byte : (t : Term) → 0 < size t
unfolding encode
some_byte (var x) = omega arith
some_byte (leaf k) = omega arith
some_byte (one k e) = omega arith
some_byte (two k a b) = omega arith
some_byte (abs x e) = omega arith
some_byte (both k x y e b) = omega arith
some_byte (branch x y e l r) = omega arith
