-- What the search finds is where the rules step: the redex of the spot stands there, in its frame. Assumes nothing.
use Prim.Native.Nat.{ℕ, ◌+◌}
use mathlib.Core.Path.{◌≡◌, refl, sym, ap, ◌∙◌}
use mathlib.Core.Option.{Option, none, some}
use native.Mathlib.Omega.{arith}
use Rattle.rules.specs.Basic.{Bytes}
use Rattle.rules.specs.Term.{Term, encode, nodes, size}
use Rattle.rules.specs.Step.{normal, step}
use Rattle.redex.specs.Spot.{Spot, spot, step-spot, Contracts, spot-contracts}
use Rattle.redex.specs.Around.{Around, Arounds, spot-around}
use Rattle.redex.specs.Searched.{sought_at, sought}
use Rattle.term.specs.Given.{Reads}
use Rattle.step.specs.Taken.{contracted, Framed, Takes}
use Rattle.std.specs.Prelude.{Ok, Err}
use Rattle.step.specs.declared.Stepped.TheVariants.{Normal}

-- the redex u stands at p in the whole f, and the step of t is its contraction
pub record Spotted (src : Bytes) (n p : ℕ) (out : Bytes) (t : Term) : Type 0 where
  pub around : Term → Term
  pub redex : Term
  pub job : Framed src n p out around redex
  pub is : step t ≡ contracted p around redex

module _ {src : Bytes} {n : ℕ} {out : Bytes} {t : Term} (d : Reads src n out t) where
  at-spot : (q : Spot) → Around t q → Contracts (some q) → Framed src n q.place out q.around q.redex
  at-spot q a c =
      record {
        frame = a.frame;
        whole = d.whole ∙ ap encode (sym a.whole);
        count = d.count ∙ ap nodes (sym a.whole);
        fits = rw a.whole d.fits;
        room = d.room;
        rule = c.0;
        half = c.1;
        result = c.2;
        contracts = c.3;
      }

  pub spotted : (p : ℕ) → Ok p ≡ sought 0 t → Spotted src n p out t
  unfolding contracted
  spotted p e = go (spot t) refl e (spot-around t) (spot-contracts t)
    where
      go : (s : Option Spot) → spot t ≡ s → Ok p ≡ sought_at 0 (size t) s → Arounds t s → Contracts s → Spotted src n p out t
      go none h r a c = absurd (cc)
      go (some q) h r a c =
          let k : p ≡ 0 + q.place = cc in
          let l : p ≡ q.place = omega arith in
          record {
            around = q.around;
            redex = q.redex;
            job = rw l (at-spot q a c);
            is = step-spot t ∙ rw (h, l);
          }

  pub nowhere : (m : ℕ) → Err m ≡ sought 0 t → Takes (step t) out out (Ok Normal)
  nowhere m e = go (spot t) refl e
    where
      go : (s : Option Spot) → spot t ≡ s → Err m ≡ sought_at 0 (size t) s → Takes (step t) out out (Ok Normal)
      go none h r = let k : step t ≡ normal = step-spot t ∙ rw h in rw k (record { says = refl; leaves = refl })
      go (some q) h r = absurd (cc)
