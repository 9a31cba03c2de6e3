-- A turn of the sweep: the terms that are left stand from its place on; a node gives way to its parts. Whatever is calm among those left makes
-- the whole calm. Assumes nothing.
use Prim.Native.Nat.{ℕ, ◌+◌, ◌<◌, ◌≤◌}
use native.Mathlib.Omega.{arith}
use mathlib.Core.Path.{◌≡◌, sym, ap, ◌∙◌}
use mathlib.Core.Bool.{false}
use mathlib.Core.List.{List, [], ◌∷◌, ◌++◌, append-nil}
use lib.ListN.{length, get_or, length-append}
use Rattle.rules.specs.Basic.{Bytes}
use Rattle.rules.specs.Term.{Term, var, leaf, one, two, abs, both, branch, encode, parts}
use Rattle.term.specs.Node.{tag, names_after, encode_all}
use Rattle.term.specs.Place.{TermAt, TermsAt}
use Rattle.term.proofs.node.Names.{AfterIs}
use Rattle.term.proofs.node.Terms.{apart-size, first, unrolled, at_tag, starts, whole, alone, encode_all-append}
use Rattle.redex.specs.Searched.{reduces}
use Rattle.redex.specs.Calm.{Calm, AllCalm, CalmAfter}
use Rattle.redex.specs.Swept.{Left, Swept}

-- a node and those behind it, from its parts and those behind it
all-calm : (k : ℕ) (ts : List Term) → CalmAfter k ts → AllCalm ts
all-calm k [] c = tt
all-calm k (t ∷ ts) c = c.1

gathered : (u : Term) (ts : List Term) → CalmAfter (tag u) (parts u ++ ts) → Calm u × AllCalm ts
gathered (var x) ts c = (tt, all-calm 1 ts c)
gathered (leaf k) ts c = (tt, all-calm _ ts c)
gathered (one k e) ts c = ((c.0, c.1.0), c.1.1)
gathered (two k a b) ts c = ((c.0, (c.1.0, c.1.1.0)), c.1.1.1)
gathered (abs x e) ts c = ((c.0, c.1.0), c.1.1)
gathered (both k x y e b) ts c = ((c.0, (c.1.0, c.1.1.0)), c.1.1.1)
gathered (branch x y e l r) ts c = ((c.0, (c.1.0, (c.1.1.0, c.1.1.1.0))), c.1.1.1.1)

pub begin : (s : Bytes) → Swept s 0 0
begin s t e =
    record {
      row = t ∷ [];
      stand = alone s 0 t (whole t s e);
      ends = omega (arith, ap length (append-nil (encode t)), ap length e);
      calms = λ c. c.1.0;
    }

module _ (s : Bytes) (i last : ℕ) where
  -- at the end nothing is left
  pub done : Swept s i last → length s ≤ i → (t : Term) → s ≡ encode t → Calm t
  done w h t e = go (w t e).row (w t e).ends (w t e).calms
    where
      go : (row : List Term) → i + length (encode_all row) ≡ length s → (CalmAfter last row → Calm t) → Calm t
      go [] e c = c tt
      go (u ∷ ts) e c = absurd (omega (arith, length-append (encode u) (encode_all ts), apart-size u))

  -- before the end a node is left
  pub record Here (t : Term) : Type 0 where
    pub node : Term
    pub others : List Term
    pub stand : TermsAt s i (length (node ∷ others)) (node ∷ others)
    pub ends : i + length (encode_all (node ∷ others)) ≡ length s
    pub calms : CalmAfter last (node ∷ others) → Calm t

  here_of : (t : Term) → i < length s → Left s i last t → Here t
  here_of t h l = go l.row l.stand l.ends l.calms
    where
      go : (row : List Term) → TermsAt s i (length row) row → i + length (encode_all row) ≡ length s → (CalmAfter last row → Calm t) → Here t
      go [] w e c = absurd (omega arith)
      go (u ∷ ts) w e c = record { node = u; others = ts; stand = w; ends = e; calms = c }

  module _ (h : i < length s) (w : Swept s i last) where
    pub some-here : ((t : Term) × (s ≡ encode t)) → (u : Term) × TermAt s i u
    some-here (t, e) = let l = here_of t h (w t e) in (l.node, first s i _ l.node l.others l.stand)

    module _ (q j : ℕ) (eq : q ≡ names_after (get_or s i 0)) (ej : AfterIs s (i + 1) q j) where
      pub ahead : ((t : Term) × (s ≡ encode t)) → (i < j) × (j ≤ length s)
      ahead (t, e) =
          let l = here_of t h (w t e) in
          let a = first s i _ l.node l.others l.stand in
          omega (arith, starts s i q j eq ej l.node a, l.ends, length-append (encode l.node) (encode_all l.others), apart-size l.node)

      pub turned : reduces last (get_or s i 0) ≡ false → Swept s j (get_or s i 0)
      turned r t e =
          let l = here_of t h (w t e) in
          let u = l.node in
          let ts = l.others in
          let a = first s i _ u ts l.stand in
          let k : get_or s i 0 ≡ tag u = at_tag s i u a in
          let st : TermsAt s j (length (parts u ++ ts)) (parts u ++ ts) = unrolled s i _ u ts l.stand j _ (starts s i q j eq ej u a) (omega (arith, length-append (parts u) ts)) in
          record {
            row = parts u ++ ts;
            stand = st;
            ends =
                omega (
                  arith,
                  starts s i q j eq ej u a,
                  l.ends,
                  length-append (encode u) (encode_all ts),
                  apart-size u,
                  ap (λ (z : List ℕ). length z) (encode_all-append (parts u) ts),
                  length-append (encode_all (parts u)) (encode_all ts),
                );
            calms = λ c. l.calms (let g = gathered u ts (rw k at c) in (ap (λ z. reduces last z) (sym k) ∙ r, g));
          }

-- a node that wants nothing of what follows it may be forgotten
pub forgotten : (s : Bytes) (i last : ℕ) (t : Term) → Left s i last t → ((v : Term) → TermAt s i v → reduces last (tag v) ≡ false) → Left s i 0 t
forgotten s i last t l f = record { row = l.row; stand = l.stand; ends = l.ends; calms = λ c. l.calms (go l.row l.stand c) }
  where
    go : (row : List Term) → TermsAt s i (length row) row → CalmAfter 0 row → CalmAfter last row
    go [] w c = tt
    go (v ∷ vs) w c = (f v (first s i _ v vs w), c.1)
