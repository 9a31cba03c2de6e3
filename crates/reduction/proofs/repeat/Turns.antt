-- A turn: the search goes on to a redex or to the end; what is left to do is what the rules leave to do, of the whole in which
-- the search stands. Assumes nothing.
use Prim.Native.Nat.{ℕ, suc, ◌+◌, ◌-◌, ◌≤◌}
use mathlib.Core.Path.{◌≡◌, refl, ap, ◌∙◌}
use mathlib.Core.Bool.{true, false}
use mathlib.Core.List.{List}
use native.Mathlib.Numerals.{add-one}
use native.Mathlib.Omega.{arith}
use lib.ListN.{length}
use lib.Seq.{slice}
use Rattle.rules.specs.Limits.{limits}
use Rattle.rules.specs.Term.{Term}
use Rattle.rules.specs.Step.{Stepped, is_normal_term}
use Rattle.rules.specs.Reduction.{stopped, plus, reduce_from, reduce}
use Rattle.buffer.specs.Wrote.{Wrote}
use Rattle.contraction.specs.declared.part.Contraction.{Contraction}
use Rattle.reduction.specs.Standing.{Marks, Ended, Reducing}
use Rattle.std.specs.Prelude.{Err}
use Rattle.reduction.specs.Fired.{Firing, Lands, Over}
use Rattle.reduction.specs.declared.place.Place.{Place}
use Rattle.reduction.proofs.moves.Redexes.{redex-steps}
use Rattle.reduction.proofs.moves.Wholes.{join-long, join-bytes, join-room}
use Rattle.reduction.specs.Counted.{counted}
use Rattle.reduction.specs.Told.{stopped_at, onward}
use Rattle.reduction.specs.declared.course.Course.{Course}
use Rattle.reduction.specs.Carried.{at-limit, at_rest, at-found, at-over}
use Rattle.reduction.specs.Turning.{Carried, Stands, AtRedex, GoesOn, Repeats}

-- no step remains
pub rests : {limit : ℕ} {t w : Term} {g : Course} {out : List ℕ} {l : ℕ} → Carried limit t w g → Ended w out l
    → Repeats (reduce limits limit t) out (stopped_at g.steps g.counts true l)
rests {limit} {w = w} {g = g} k e =
    rw (k.carries ∙ at_rest limits g.steps g.counts w (limit - g.steps) e.none)
    (record { says = rw e.long; bytes = rw (← e.long) e.bytes; fits = e.fits })

module _ {limit : ℕ} {t : Term} {out scratch out₁ : List ℕ} {stack stack₁ : Marks} {g : Course} {p : Place} (a : Stands limit t out scratch stack g) (on : Reducing a.whole out₁ scratch stack₁ p) where
  -- the search has gone on to a redex
  pub found : (g.steps ≡ limit → ⊥) → limit ≤ 4294967295 → AtRedex limit t out₁ scratch stack₁ g p
  found ne m = record { whole = a.whole; carried = a.carried; redex = on; below = omega (arith, ne, a.carried.within); small = m }

  -- what is still to come goes behind what was passed
  pub rest-room : (p.i ≤ length scratch) × (length scratch ≤ length scratch) × (p.o + (length scratch - p.i) ≤ length out₁)
  rest-room = let j = join-room on.stands in (j.0, omega arith, j.1)

  -- at the limit
  pub at-end : g.steps ≡ limit → {out₂ : List ℕ} {q : ℕ} → Wrote out₁ p.o (slice p.i (length scratch) scratch) out₂ q
      → Repeats (reduce limits limit t) out₂ (stopped_at g.steps g.counts false q)
  at-end h {out₂} {q} v =
      let s = on.stands in
      let z : limit - g.steps ≡ 0 = omega arith in
      let y = redex-steps on in
      let l = join-long s v in
      rw
      (a.carried.carries ∙ ap (λ (k : ℕ). reduce_from limits k g.steps g.counts a.whole) z ∙ at-limit limits g.steps g.counts a.whole
      ∙ ap (λ (x : Stepped). stopped g.steps g.counts (is_normal_term x) a.whole) y.is)
      (record { says = rw l; bytes = rw (← l) (join-bytes s v); fits = s.fits })

module _ {limit : ℕ} {t : Term} {out scratch : List ℕ} {stack : Marks} {g : Course} {p : Place} (a : AtRedex limit t out scratch stack g p) where
  pub fires : Firing a.whole out scratch stack p g.nodes
  fires = record { reducing = a.redex; count = a.carried.count }

  left : reduce limits limit t ≡ reduce_from limits (suc (limit - (g.steps + 1))) g.steps g.counts a.whole
  left =
      let z : limit - g.steps ≡ suc (limit - (g.steps + 1)) = omega (arith, a.below) in
      a.carried.carries ∙ ap (λ (m : ℕ). reduce_from limits m g.steps g.counts a.whole) z

  pub outgrows : {scratch₁ : List ℕ} (y : Over a.whole out scratch₁ stack p) {out₂ : List ℕ} {q : ℕ}
      → Wrote out p.o (slice p.i (length scratch₁) scratch₁) out₂ q → Repeats (reduce limits limit t) out₂ (Err (record { steps = g.steps; length = q }))
  outgrows y {out₂} {q} v =
      let s = y.stands in
      let l = join-long s v in
      rw (left ∙ at-over limits g.steps g.counts a.whole (limit - (g.steps + 1)) y.rule y.steps.place y.half y.next y.steps.is y.tested)
      (record { says = rw l; bytes = rw (← l) (join-bytes s v); fits = s.fits })

  pub goes : {scratch₁ : List ℕ} {m : Contraction} {q : Place} → Lands a.whole m out scratch₁ stack q
      → GoesOn limit t g.steps out scratch₁ stack (onward g m q)
  goes {m = m} y =
      record {
        stands =
            record {
              whole = y.next;
              carried =
                  record {
                    count = y.count;
                    within = omega (arith, a.below);
                    added = counted m.rule g.counts (plus m.rule g.counts) g.steps refl a.carried.added;
                    carries = left ∙ at-found limits g.steps g.counts a.whole (limit - (g.steps + 1)) m.rule y.steps.place y.half y.next y.steps.is y.tested ∙ rw add-one;
                  };
              stands = y.stands;
            };
        one = refl;
      }

-- the buffers keep their lengths
pub record Kept (out₀ scratch₀ : List ℕ) (stack₀ : Marks) (out scratch : List ℕ) (stack : Marks) : Type 0 where
  pub same_out : length out ≡ length out₀
  pub same-scratch : length scratch ≡ length scratch₀
  pub same-stack : length stack ≡ length stack₀
