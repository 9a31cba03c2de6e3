-- One step of a straight term leaves a straight term that fits the limits: `StraightStep`, from the weights that the step takes out.
-- Assumes nothing.
use Rattle.std.specs.Prelude.{ℕ, ◌≡◌}
use Rattle.std.proofs.Common.{arith}
use Rattle.std.proofs.Math.Option.{Option}
use Rattle.rules.specs.Term.{Term, nodes}
use Rattle.rules.specs.declared.Rule.{Rule}
use Rattle.rules.specs.Step.{Stepped, normal, found, step}
use Rattle.rules.specs.Straight.{Straight}
use Rattle.laws.specs.straight.Promise.{StraightStep}
use Rattle.laws.specs.straight.Weights.{stands_of, stands-weigh}
use Rattle.laws.specs.straight.Agree.{straight-counted, counted-straight}
use Rattle.laws.specs.straight.Contraction.{Taken}
use Rattle.laws.specs.straight.OneStep.{Meets, taken}
use Rattle.laws.specs.straight.StepKept.{kept, taken-nodes, loses, taken-bytes, taken-fits}

-- ONE STEP OF A STRAIGHT TERM
meets-map : (P Q : Rule → Option Term → Term → Type 0) (s : Stepped) → ((r : Rule) (h : Option Term) (u : Term) → P r h u → Q r h u) → Meets P s → Meets Q s
meets-map P Q normal f h = tt
meets-map P Q (found r p h u) f m = f r h u m

pub one-step : (t : Term) → Straight t → Meets (StraightStep t) (step t)
one-step t s =
    let c = straight-counted t s in
    meets-map (Taken t) (StraightStep t) (step t)
    (λ r h u m.
    record {
      straight = counted-straight u (kept t r h u c m);
      unbound = m.frees;
      binders = λ x. omega (arith, m.weighs (stands_of x), stands-weigh x t, stands-weigh x u);
      nodes = loses r m.names (nodes t) (nodes u) m.rule (taken-nodes t r h u m);
      bytes = taken-bytes t r h u m;
      fits = λ L. taken-fits L t r h u m;
    })
    (taken t c)

pub found-step : (t : Term) (r : Rule) (p : ℕ) (h : Option Term) (u : Term) → Straight t → step t ≡ found r p h u → StraightStep t r h u
found-step t r p h u s e = rw e at (one-step t s)
