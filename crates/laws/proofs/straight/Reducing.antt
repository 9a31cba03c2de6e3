-- Bounded reduction of a straight term: by induction on the step limit, each step losing two nodes at least.
-- Assumes nothing.
use Prim.Native.Nat.{ℕ, zero, suc, ◌+◌, ◌*◌, ◌≤◌}
use Rattle.std.specs.Prelude.{◌≡◌, Bool, true}
use Rattle.std.proofs.Math.Path.{refl}
use Rattle.std.proofs.Common.{ap₂, ◌∙◌, arith}
use Rattle.std.proofs.Math.Option.{Option}
use Rattle.rules.specs.Limits.{Limits}
use Rattle.rules.specs.Name.{Name}
use Rattle.rules.specs.Term.{Term, nodes, fits}
use Rattle.rules.specs.Legal.{Legal}
use Rattle.rules.specs.Free.{occurrences}
use Rattle.rules.specs.declared.Rule.{Rule}
use Rattle.rules.specs.declared.Rule.TheVariants.{App, Let, Case, Fst, Snd, Derelict, Copy, Discard}
use Rattle.rules.specs.declared.Counts.{Counts}
use Rattle.rules.specs.Step.{Stepped, normal, found, step, is_normal_term, half_fits, step_fits}
use Rattle.rules.specs.Reduction.{plus, stopped, reduce_from}
use Rattle.rules.specs.Straight.{stands, Straight}
use Rattle.laws.specs.free.Same.{both_true}
use Rattle.laws.specs.size.Parts.{some-node}
use Rattle.laws.specs.step.StepLegal.{step-legal}
use Rattle.laws.specs.straight.Promise.{Loses, StraightStep, only, StraightReduction}
use Rattle.laws.specs.straight.OneStep.{Meets}
use Rattle.laws.proofs.straight.StepKept.{one-step}

-- What is left of t, after steps or none.
record Left (L : Limits) (t u : Term) : Type 0 where
  straight : Straight u
  fits : fits L u ≡ true
  legal : Legal t → Legal u
  unbound : (x : Name) → occurrences x u ≡ occurrences x t
  binders : (x : Name) → stands x u ≤ stands x t

-- The rest of a reduction: from t, after so many steps of each rule.
record Rest (L : Limits) (limit : ℕ) (t : Term) (a l d : ℕ) : Type 0 where
  app : ℕ
  lets : ℕ
  derelict : ℕ
  none_left : Bool
  result : Term
  stops : reduce_from L limit (a + l + d) (only a l d) t ≡ stopped (app + lets + derelict) (only app lets derelict) none_left result
  says : none_left ≡ is_normal_term (step result)
  left : Left L t result
  lost : nodes t + (3 * a + 4 * l + 2 * d) ≡ nodes result + (3 * app + 4 * lets + 2 * derelict)
  -- two nodes never make a step
  enough : nodes t ≤ 2 * limit + 2 → none_left ≡ true

least : (r : Rule) (n m : ℕ) → Loses r n m → m + 2 ≤ n
least App n m h = omega arith
least Let n m h = omega arith
least Derelict n m h = omega arith
least Case n m h = elim h [ ]
least Fst n m h = elim h [ ]
least Snd n m h = elim h [ ]
least Copy n m h = elim h [ ]
least Discard n m h = elim h [ ]

small-normal : (t : Term) → nodes t ≤ 2 → (s : Stepped) → Meets (StraightStep t) s → is_normal_term s ≡ true
small-normal t h normal m = refl
small-normal t h (found r p k u) m = absurd (omega (arith, least r (nodes t) (nodes u) m.nodes, some-node u))

at-normal : (L : Limits) (limit n : ℕ) (c : Counts) (t : Term) → step t ≡ normal → reduce_from L (suc limit) n c t ≡ stopped n c true t
unfolding reduce_from
at-normal L limit n c t e = rw (e, reduce_from)

at-found : (L : Limits) (limit n : ℕ) (c : Counts) (t : Term) (r : Rule) (p : ℕ) (h : Option Term) (u : Term) → step t ≡ found r p h u → step_fits L h u ≡ true
    → reduce_from L (suc limit) n c t ≡ reduce_from L limit (suc n) (plus r c) u
unfolding reduce_from
at-found L limit n c t r p h u e f = rw (e, reduce_from) (rw f)

module _ (L : Limits) where
  abbrev Goes : ℕ → Type 0
  Goes limit = (t : Term) → Straight t → fits L t ≡ true → (a l d : ℕ) → Rest L limit t a l d

  -- no step
  over : (limit : ℕ) (t : Term) → Straight t → fits L t ≡ true → (a l d : ℕ) (b : Bool)
      → reduce_from L limit (a + l + d) (only a l d) t ≡ stopped (a + l + d) (only a l d) b t
      → b ≡ is_normal_term (step t)
      → (nodes t ≤ 2 * limit + 2 → b ≡ true)
      → Rest L limit t a l d
  over limit t s f a l d b e i g =
      record {
        app = a;
        lets = l;
        derelict = d;
        none_left = b;
        result = t;
        stops = e;
        says = i;
        left = record { straight = s; fits = f; legal = λ h. h; unbound = λ x. refl; binders = λ x. omega arith };
        lost = refl;
        enough = g;
      }

  -- a step by rule r, by which k nodes are lost, and then the rest
  further : (limit : ℕ) → Goes limit → (t : Term) → fits L t ≡ true → (a l d : ℕ) (r : Rule) (p : ℕ) (h : Option Term) (u : Term) → step t ≡ found r p h u → StraightStep t r h u
      → (a' l' d' k : ℕ)
      → plus r (only a l d) ≡ only a' l' d'
      → suc (a + l + d) ≡ a' + l' + d'
      → 3 * a' + 4 * l' + 2 * d' ≡ 3 * a + 4 * l + 2 * d + k
      → nodes t ≡ nodes u + k
      → 2 ≤ k
      → Rest L (suc limit) t a l d
  further limit go t f a l d r p h u e m a' l' d' k i j c n q =
      let w = go u m.straight (both_true (half_fits L h) (fits L u) (m.fits L f)).1 a' l' d' in
      record {
        app = w.app;
        lets = w.lets;
        derelict = w.derelict;
        none_left = w.none_left;
        result = w.result;
        stops = at-found L limit (a + l + d) (only a l d) t r p h u e (m.fits L f) ∙ ap₂ (λ (s : ℕ) (y : Counts). reduce_from L limit s y u) j i ∙ w.stops;
        says = w.says;
        left = record {
          straight = w.left.straight;
          fits = w.left.fits;
          legal = λ y. w.left.legal (rw e at (step-legal t y)).1;
          unbound = λ x. w.left.unbound x ∙ m.unbound x;
          binders = λ x. omega (arith, w.left.binders x, m.binders x);
        };
        lost = omega (arith, w.lost);
        enough = λ y. w.enough (omega arith);
      }

  next : (limit : ℕ) → Goes limit → (t : Term) → Straight t → fits L t ≡ true → (a l d : ℕ) (s : Stepped) → step t ≡ s → Meets (StraightStep t) s → Rest L (suc limit) t a l d
  next limit go t w f a l d normal e m = over (suc limit) t w f a l d true (at-normal L limit (a + l + d) (only a l d) t e) (rw e) (λ h. refl)
  next limit go t w f a l d (found App p h u) e m = further limit go t f a l d App p h u e m (suc a) l d 3 refl (omega arith) (omega arith) m.nodes (omega arith)
  next limit go t w f a l d (found Let p h u) e m = further limit go t f a l d Let p h u e m a (suc l) d 4 refl (omega arith) (omega arith) m.nodes (omega arith)
  next limit go t w f a l d (found Derelict p h u) e m = further limit go t f a l d Derelict p h u e m a l (suc d) 2 refl (omega arith) (omega arith) m.nodes (omega arith)
  next limit go t w f a l d (found Case p h u) e m = absurd m.nodes
  next limit go t w f a l d (found Fst p h u) e m = absurd m.nodes
  next limit go t w f a l d (found Snd p h u) e m = absurd m.nodes
  next limit go t w f a l d (found Copy p h u) e m = absurd m.nodes
  next limit go t w f a l d (found Discard p h u) e m = absurd m.nodes

  rest : (limit : ℕ) → Goes limit
  unfolding reduce_from
  rest zero t w f a l d = over zero t w f a l d (is_normal_term (step t)) refl refl (λ h. small-normal t (omega arith) (step t) (one-step t w))
  rest (suc limit) t w f a l d = next limit (rest limit) t w f a l d (step t) refl (one-step t w)

  -- BOUNDED REDUCTION OF A STRAIGHT TERM (demand 3)
  pub straight-reduction : (limit : ℕ) (t : Term) → Straight t → fits L t ≡ true → StraightReduction L limit t
  straight-reduction limit t w f =
      let r = rest limit t w f 0 0 0 in
      record {
        app = r.app;
        lets = r.lets;
        derelict = r.derelict;
        none_left = r.none_left;
        result = r.result;
        stops = r.stops;
        says = r.says;
        straight = r.left.straight;
        fits = r.left.fits;
        legal = r.left.legal;
        unbound = r.left.unbound;
        binders = r.left.binders;
        lost = omega (arith, r.lost);
        enough = λ h. r.enough (omega arith);
      }

  -- half may even be rounded down
  pub rounded-down : (limit : ℕ) (t : Term) (w : Straight t) (f : fits L t ≡ true) → nodes t ≤ 2 * limit + 2 → (straight-reduction limit t w f).none_left ≡ true
  unfolding straight-reduction
  rounded-down limit t w f h = (rest limit t w f 0 0 0).enough h
