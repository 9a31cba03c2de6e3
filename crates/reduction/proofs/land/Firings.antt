-- A contraction where the search stands: it is the step of the whole, its test is the rules' test, and what was written is put in front of
-- what stays of the redex. Assumes nothing.
use Prim.Native.Nat.{ℕ, ◌+◌, ◌-◌, ◌≤◌}
use mathlib.Core.Path.{◌≡◌, refl, sym, subst, ap, ◌∙◌}
use mathlib.Core.Bool.{Bool, true, ◌&&◌}
use mathlib.Core.List.{List, [], ◌∷◌, ◌++◌, append_assoc}
use native.Mathlib.Omega.{arith}
use Rattle.std.specs.Prelude.{Option, Some, None}
use lib.ListN.{length, take, drop, length-append, take-append-drop}
use lib.Seq.{length-sets, slice, length-slice, length-take-le, drop-append-le}
use Rattle.rules.specs.Basic.{Bytes}
use Rattle.rules.specs.Limits.{limits, output_room}
use Rattle.rules.specs.Term.{Term, encode, nodes, size, fits}
use Rattle.laws.specs.reading.Fits.{within}
use Rattle.rules.specs.declared.Rule.{Rule}
use Rattle.rules.specs.Step.{half_fits, step_fits}
use Rattle.laws.specs.free.Same.{both_true}
use Rattle.buffer.specs.Wrote.{Wrote}
use Rattle.term.proofs.node.Names.{drop_app, long}
use Rattle.contraction.specs.Beside.{fits_around, step-fits-in-frame}
use Rattle.contraction.specs.Contracted as parts
use Rattle.contraction.specs.Contracted.{Row, becomes, outgrows}
use Rattle.contraction.specs.declared.part.Contraction.{Contraction}
use Rattle.contraction.specs.Contracting.{Contracting}
use Rattle.reduction.proofs.moves.Places.{place}
use Rattle.reduction.specs.Hole.{Above, plug, rights}
use Rattle.reduction.specs.Quiet.{Quiet, Steps}
use Rattle.reduction.specs.Seen.{Contracts}
use Rattle.reduction.specs.Standing.{Marks, Standing, Nearly, Landed}
use Rattle.reduction.specs.Fired.{Firing, Lands, Over}
use Rattle.reduction.specs.declared.place.Place.{Place}
use Rattle.reduction.proofs.moves.Contexts.{plug-frame, plug-size, only-nearest, first-same}
use Rattle.reduction.proofs.moves.Buffers.{wrote_right}
use Rattle.reduction.proofs.moves.Redexes.{redex-steps}
use Rattle.reduction.proofs.moves.Entries.{whole-size, whole-short}
use Rattle.reduction.proofs.moves.Seeking.{stands_at}

-- whatever comes to stand there, only the nearest node may wake
nearly : (c : Above) (t u : Term) → Quiet c t → Nearly c u
nearly [] t u q = tt
nearly (f ∷ c) t u q = (q.0, λ ne. first-same f t u ne q.1, only-nearest f c t u q)

-- what follows, in two runs
drop-slice : (i j : ℕ) (l : Bytes) → i ≤ j → j ≤ length l → drop i l ≡ slice i j l ++ drop j l
drop-slice i j l h g =
    ap (λ (z : Bytes). drop i z) (sym (take-append-drop j l)) ∙ drop-append-le i (take j l) (drop j l) (omega (arith, length-take-le j l g))

module _ {w : Term} {out scratch : List ℕ} {stack : Marks} {o i d n : ℕ} (e : Firing w out scratch stack (place o i d) n) where
  abbrev s : Standing w out scratch stack (place o i d)
  s = e.reducing.stands

  abbrev x : Contracts s.at
  x = e.reducing.redex

  abbrev t : Term
  t = s.at

  abbrev u : Term
  u = x.result

  abbrev l : ℕ
  l = o + (length scratch - i)

  abbrev next : Term
  next = plug s.above u

  pub short : l ≤ limits.bytes
  short = whole-short s

  pub job : {places : List ℕ} {made : Bytes} → Row places → output_room limits ≤ length made → Contracting scratch i n l places made t x.rule x.half u
  job r h =
      record {
        redex =
            record {
              stands = stands_at s;
              nodes-in = omega (arith, e.count, ap nodes s.is, (plug-frame s.above).count t);
              bytes-in = omega (arith, whole-size s, ap size s.is, plug-size s.above t);
              behind = omega arith;
              few = omega (arith, e.count, within limits w s.fits);
              short = short;
            };
        contracts = x.is;
        row = r;
        made-room = h;
      }

  steps : Steps w x.rule x.half next
  steps = redex-steps e.reducing

  -- the test is the rules'
  abbrev test : Bool
  test = half_fits limits x.half && fits_around n l t u

  tested : test ≡ step_fits limits x.half next
  tested =
      let a : n ≡ nodes (plug s.above t) = e.count ∙ ap nodes s.is in
      let b : l ≡ size (plug s.above t) = whole-size s ∙ ap size s.is in
      ap (λ (k : ℕ). half_fits limits x.half && fits_around k l t u) a
      ∙ ap (λ (k : ℕ). half_fits limits x.half && fits_around (nodes (plug s.above t)) k t u) b
      ∙ step-fits-in-frame (plug-frame s.above) t u x.half

  module _ {made₁ : Bytes} {a : Option Contraction} (v : parts.Contracts scratch i n l t x.rule x.half u made₁ a) where
    pub outgrew : a ≡ None → Over w out scratch stack (place o i d)
    outgrew q = go v
      where
        go : parts.Contracts scratch i n l t x.rule x.half u made₁ a → Over w out scratch stack (place o i d)
        go (becomes m b c y) = absurd (let z : ◌≡◌ {A = ℕ} 0 1 = cc in omega arith)
        go (outgrows b c) = record { rule = x.rule; half = x.half; next = next; steps = steps; tested = sym tested ∙ b; stands = s }

    module _ {m : Contraction} (q : a ≡ Some m) where
      abbrev k : ℕ
      k = m.size

      abbrev end : ℕ
      end = m.end

      -- what was made
      record Is : Type 0 where
        passes : test ≡ true
        replaced : parts.Replaced scratch i n t x.rule u made₁ m

      is : Is
      is = go v
        where
          go : parts.Contracts scratch i n l t x.rule x.half u made₁ a → Is
          go (becomes m' b c y) = let e : m ≡ m' = cc in record { passes = b; replaced = rw e y }
          go (outgrows b c) = absurd (let z : ◌≡◌ {A = ℕ} 0 1 = cc in omega arith)

      passes : step_fits limits x.half next ≡ true
      passes = sym tested ∙ is.passes

      fits_next : fits limits next ≡ true
      fits_next = (both_true (half_fits limits x.half) (fits limits next) passes).1

      -- the new whole is short, so there is room for it in front of what follows
      fits-before : o + (size u + (length scratch - (i + size t))) ≤ limits.bytes
      fits-before =
          omega (
            arith,
            within limits next fits_next,
            plug-size s.above u,
            s.sides.long,
            long scratch (encode t) (rights s.above) i s.sides.right,
          )

      end-inside : i + size t ≤ length scratch
      end-inside = omega (arith, s.sides.inside, long scratch (encode t) (rights s.above) i s.sides.right)

      made-long : length (slice 0 k made₁) ≡ k
      made-long = length-slice 0 k made₁ is.replaced.written ∙ omega arith

      -- what was written, and what stays, are as long as what the redex becomes
      long-is : k + (i + size t - end) ≡ size u
      long-is =
          sym (omega (arith, made-long, length-append (slice 0 k made₁) (slice end (i + size t) scratch), length-slice end (i + size t) scratch end-inside))
          ∙ ap (λ (z : Bytes). length z) is.replaced.bytes

      pub made-room : (k ≤ end) × (k ≤ limits.bytes) × (end - k + k ≡ end) × (end ≤ length scratch)
      made-room =
          let b = fits-before in
          let f = end-inside in
          let g = s.sides.scratch-room in
          let y = is.replaced.inside in
          let h : k ≤ end = omega (arith, long-is) in
          (h, omega (arith, long-is), omega arith, omega arith)

      pub copy-room : (k ≤ length made₁) × (end - k + (k - 0) ≤ length scratch)
      copy-room = let r = made-room in (is.replaced.written, omega arith)

      module _ {scratch₁ : List ℕ} {p : ℕ} (c : Wrote scratch (end - k) (slice 0 k made₁) scratch₁ p) where
        ends_at : p ≡ end
        ends_at = let r = made-room in c.ends ∙ omega (arith, made-long)

        -- what was written stands in front of what stays
        right : drop (end - k) scratch₁ ≡ encode u ++ rights s.above
        right =
            let r = made-room in
            wrote_right c (omega (arith, r, made-long))
            ∙ ap (λ (j : ℕ). slice 0 k made₁ ++ drop j scratch) ends_at
            ∙ ap (λ (z : Bytes). slice 0 k made₁ ++ z) (drop-slice end (i + size t) scratch is.replaced.inside end-inside)
            ∙ ap (λ (z : Bytes). slice 0 k made₁ ++ (slice end (i + size t) scratch ++ z)) (drop_app (encode t) (rights s.above) scratch i (i + size t) s.sides.right refl)
            ∙ sym (append_assoc (slice 0 k made₁) (slice end (i + size t) scratch) (rights s.above))
            ∙ ap (λ (z : Bytes). z ++ rights s.above) is.replaced.bytes

        pub landed : Landed next out scratch₁ stack (place o (end - k) d)
        landed =
            let r = made-room in
            let y = s.sides in
            let g : length scratch₁ ≡ length scratch = ap (λ (z : Bytes). length z) c.holds ∙ length-sets scratch (end - k) (slice 0 k made₁) in
            record {
              above = s.above;
              at = u;
              is = refl;
              nearly = nearly s.above t u s.quiet;
              fits = fits_next;
              sides =
                  record {
                    left = y.left;
                    long = y.long;
                    right = right;
                    inside = omega (arith, r, g);
                    held = y.held;
                    depth = y.depth;
                    room = y.room;
                    scratch-room = omega (arith, y.scratch-room, g);
                    stack-room = y.stack-room;
                  };
            }

      pub lands : {scratch₂ : List ℕ} (g : Place) → Standing next out scratch₂ stack g → Lands w m out scratch₂ stack g
      lands g y =
          let b : m.nodes ≡ nodes next = is.replaced.count ∙ omega (arith, e.count, ap nodes s.is, (plug-frame s.above).count t, (plug-frame s.above).count u) in
          record {
            next = next;
            half = x.half;
            steps = subst (λ (z : Rule). Steps w z x.half next) (sym is.replaced.rule) steps;
            tested = passes;
            count = b;
            stands = y;
          }
