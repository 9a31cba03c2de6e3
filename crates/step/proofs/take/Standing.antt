-- A redex between what stands around it: its contraction is the step of the whole, the test of its size is the rules' test, and three runs,
-- one after the other, are the bytes of the new whole. Assumes nothing.
use Prim.Native.Nat.{ℕ, ◌+◌, ◌-◌, ◌≤◌}
use mathlib.Core.Path.{◌≡◌, refl, sym, ap, ◌∙◌}
use mathlib.Core.Bool.{true, ◌&&◌}
use mathlib.Core.Option.{Option as Maybe}
use mathlib.Core.List.{[], ◌++◌, append-nil, append_assoc}
use native.Mathlib.Omega.{arith}
use Rattle.std.specs.Prelude.{Option, Some, None}
use lib.ListN.{length, drop, replicate, length-append, length-replicate}
use lib.Seq.{slice, drop_at, length-slice}
use Rattle.std.specs.Prelude.{Ok, Err}
use Rattle.rules.specs.declared.Reason.TheVariants.{Outgrows}
use Rattle.rules.specs.Basic.{Bytes}
use Rattle.rules.specs.Limits.{limits, output_room}
use Rattle.rules.specs.Term.{Term, encode, nodes, size, fits}
use Rattle.rules.specs.Step.{found, half_fits, step_fits}
use Rattle.laws.specs.free.Same.{both_true}
use Rattle.laws.specs.reading.Fits.{within}
use Rattle.buffer.specs.Wrote.{Wrote}
use Rattle.buffer.specs.Writing.{slice-split, slice_is, chain, wrote-length}
use Rattle.term.proofs.node.Names.{drop_app}
use Rattle.contraction.specs.Beside.{fits_around, step-fits-in-frame}
use Rattle.contraction.specs.Contracted.{Replaced, Contracts, becomes, outgrows}
use Rattle.contraction.specs.declared.part.Contraction.{Contraction}
use Rattle.contraction.specs.Contracting.{Contracting}
use Rattle.step.specs.Taken.{contracted, Framed, Takes}
use Rattle.rules.specs.declared.Refusal.{Refusal}
use Rattle.step.specs.declared.Stepped.TheVariants.{Found}

module _ {src : Bytes} {n place : ℕ} {out : Bytes} {f : Term → Term} {t : Term} (j : Framed src n place out f t) where
  abbrev left : Bytes
  left = j.frame.left

  abbrev right : Bytes
  right = j.frame.right

  abbrev u : Term
  u = j.result

  abbrev h : Maybe Term
  h = j.half

  bytes : src ≡ left ++ (encode t ++ right)
  bytes = j.whole ∙ j.frame.bytes t

  from_place : drop place src ≡ encode t ++ right
  from_place = ap (λ (z : Bytes). drop place z) bytes ∙ drop_at left (encode t ++ right) place j.frame.long

  long : length src ≡ place + (size t + length right)
  long = ap (λ (z : Bytes). length z) bytes ∙ omega (arith, length-append left (encode t ++ right), length-append (encode t) right, j.frame.long)

  pub job : {work : Bytes} → output_room limits ≤ length work → Contracting src place n (length src) (replicate limits.nodes 0) work t j.rule h u
  job c =
      let w = within limits (f t) j.fits in
      record {
        redex =
            record {
              stands = record { rest = right; bytes = from_place };
              nodes-in = omega (arith, j.count, j.frame.count t);
              bytes-in = omega (arith, long);
              behind = omega arith;
              few = omega (arith, w, j.count);
              short = omega (arith, w, ap (λ (z : Bytes). length z) j.whole);
            };
        contracts = j.contracts;
        row = length-replicate {A = ℕ} limits.nodes 0;
        made-room = c;
      }

  -- the step of the whole
  step_is : contracted place f t ≡ found j.rule place h (f u)
  unfolding contracted
  step_is = rw j.contracts

  -- the test is the rules'
  tested : (half_fits limits h && fits_around n (length src) t u) ≡ step_fits limits h (f u)
  tested =
      let l : length src ≡ size (f t) = ap (λ (z : Bytes). length z) j.whole in
      ap (λ (k : ℕ). half_fits limits h && fits_around k (length src) t u) j.count
      ∙ ap (λ (k : ℕ). half_fits limits h && fits_around (nodes (f t)) k t u) l
      ∙ step-fits-in-frame j.frame t u h

  module _ {work : Bytes} {c : Option Contraction} (v : Contracts src place n (length src) t j.rule h u work c) where
    pub outgrew : c ≡ None → {r : Refusal} → r ≡ record { reason = Outgrows; place = 0; input = 0 } → Takes (contracted place f t) out out (Err r)
    outgrew q {r} e = go v
      where
        go : Contracts src place n (length src) t j.rule h u work c → Takes (contracted place f t) out out (Err r)
        go (becomes m y s r) = absurd (cc)
        go (outgrows y s) = let z = sym tested ∙ y in record { says = rw (step_is, z) (ap Err e); leaves = rw (step_is, z) }

    module _ {m : Contraction} (q : c ≡ Some m) where
      abbrev k : ℕ
      k = m.size

      abbrev end : ℕ
      end = m.end

      record Is : Type 0 where
        passes : step_fits limits h (f u) ≡ true
        replaced : Replaced src place n t j.rule u work m

      is : Is
      is = go v
        where
          go : Contracts src place n (length src) t j.rule h u work c → Is
          go (becomes m' y s z) = let a : m ≡ m' = cc in record { passes = sym tested ∙ y; replaced = rw a z }
          go (outgrows y s) = absurd (cc)

      end-inside : end ≤ length src
      end-inside = omega (arith, is.replaced.inside, long)

      before-is : slice 0 place src ≡ left
      before-is =
          let d : place ≡ 0 + length left = omega (arith, j.frame.long) in
          ap (λ (k : ℕ). slice 0 k src) d ∙ slice_is 0 src left (encode t ++ right) bytes

      after_is : slice (place + size t) (length src) src ≡ right
      after_is =
          let d : drop (place + size t) src ≡ right ++ [] = drop_app (encode t) right src place (place + size t) from_place refl ∙ sym (append-nil right) in
          let l : length src ≡ place + size t + length right = omega (arith, long) in
          ap (λ (k : ℕ). slice (place + size t) k src) l ∙ slice_is (place + size t) src right [] d

      -- the three runs
      pub runs : slice 0 place src ++ (slice 0 k work ++ slice end (length src) src) ≡ encode (f u)
      runs =
          let a : slice end (length src) src ≡ slice end (place + size t) src ++ slice (place + size t) (length src) src
          = slice-split end (place + size t) (length src) src is.replaced.inside (omega (arith, long)) in
          rw (before-is, a, after_is)
          (ap (λ (z : Bytes). left ++ z) (sym (append_assoc (slice 0 k work) (slice end (place + size t) src) right) ∙ ap (λ (z : Bytes). z ++ right) is.replaced.bytes)
          ∙ sym (j.frame.bytes u))

      whole_long : place + (k + (length src - end)) ≤ limits.bytes
      whole_long =
          let w = within limits (f u) (both_true (half_fits limits h) (fits limits (f u)) is.passes).1 in
          omega (
            arith,
            w,
            ap (λ (z : Bytes). length z) runs,
            length-append (slice 0 place src) (slice 0 k work ++ slice end (length src) src),
            length-append (slice 0 k work) (slice end (length src) src),
            length-slice 0 place src (omega (arith, long)),
            length-slice 0 k work is.replaced.written,
            length-slice end (length src) src (omega arith),
          )

      pub room : (place ≤ length src) × (place ≤ length out) × (k ≤ length work) × (end ≤ length src)
      room = (omega (arith, long), omega (arith, whole_long, j.room), is.replaced.written, end-inside)

      module _ {out₁ : Bytes} {o₁ : ℕ} (x : Wrote out 0 (slice 0 place src) out₁ o₁) where
        pub second-room : o₁ + (k - 0) ≤ length out₁
        second-room = omega (arith, whole_long, j.room, x.ends, length-slice 0 place src room.0, wrote-length x)

        module _ {out₂ : Bytes} {o₂ : ℕ} (y : Wrote out₁ o₁ (slice 0 k work) out₂ o₂) where
          pub third-room : o₂ + (length src - end) ≤ length out₂
          third-room =
              omega (arith, whole_long, j.room, x.ends, length-slice 0 place src room.0, wrote-length x, y.ends, length-slice 0 k work is.replaced.written, wrote-length y)

          pub made : {out₃ : Bytes} {o₃ : ℕ} → Wrote out₂ o₂ (slice end (length src) src) out₃ o₃ → Takes (contracted place f t) out out₃ (Ok (Found (record { rule = m.rule; place = place; length = o₃ })))
          made {out₃} {o₃} z =
              let w : Wrote out 0 (encode (f u)) out₃ o₃ = rw (← runs) (chain x (chain y z)) in
              let e : o₃ ≡ size (f u) = w.ends ∙ omega arith in
              record { says = rw (step_is, is.passes, is.replaced.rule, e); leaves = rw (step_is, is.passes) w.holds }
