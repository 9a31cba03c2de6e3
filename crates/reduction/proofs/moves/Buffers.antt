-- The two buffers and the stack as lists: what a run of bytes leaves on the left and on the right of where it was written, what a mark
-- leaves of the marks below it, and that the two sides are the whole, which fits. Assumes nothing.
use Prim.Native.Nat.{ℕ, ◌+◌, ◌-◌, ◌≤◌, ◌<◌}
use mathlib.Core.Path.{◌≡◌, sym, ap, ◌∙◌}
use mathlib.Core.Bool.{true}
use Rattle.std.specs.Prelude.{Option, None}
use mathlib.Core.List.{List, [], ◌∷◌, ◌++◌, append_assoc}
use native.Mathlib.Omega.{arith}
use lib.ListN.{length, take, drop, set, get_or, length-append, length-drop}
use lib.Seq.{sets-eq, length-take-le, take_at, drop_at, get_or-set_same, get_or-set_other}
use Rattle.rules.specs.Basic.{Bytes}
use Rattle.rules.specs.Limits.{limits}
use Rattle.rules.specs.Term.{Term, encode, nodes, size, fits}
use Rattle.laws.specs.reading.Fits.{within}
use Rattle.buffer.specs.Wrote.{Wrote}
use Rattle.reduction.specs.Hole.{Hole, passed, Above, plug, lefts}
use Rattle.reduction.specs.Standing.{Marks, mark, Held, Sides}
use Rattle.reduction.proofs.moves.Contexts.{depth_below}

module _ {l xs l' : Bytes} {i p : ℕ} (w : Wrote l i xs l' p) (h : i + length xs ≤ length l) where
  split : l' ≡ take i l ++ xs ++ drop (i + length xs) l
  split = w.holds ∙ sets-eq xs l i h

  front : length (take i l) ≡ i
  front = length-take-le i l (omega (arith, h))

  pub wrote-left : take p l' ≡ take i l ++ xs
  wrote-left =
      ap (λ (z : Bytes). take p z) split
      ∙ take_at (take i l ++ xs) (drop (i + length xs) l) p (length-append (take i l) xs ∙ omega (arith, front, w.ends))

  pub wrote_right : drop i l' ≡ xs ++ drop p l
  wrote_right =
      ap (λ (z : Bytes). drop i z) (split ∙ append_assoc (take i l) xs (drop (i + length xs) l))
      ∙ drop_at (take i l) (xs ++ drop (i + length xs) l) i front
      ∙ ap (λ (k : ℕ). xs ++ drop k l) (sym w.ends)

-- ---- marks

pub held_below : (s : Marks) (c : Above) (k : ℕ) (v : Option ℕ) → length c ≤ k → Held s c → Held (set s k v) c
held_below s [] k v h d = tt
held_below s (f ∷ c) k v h d =
    (get_or-set_other s k (length c) v None (λ e. omega (arith, h, e)) ∙ d.0, held_below s c k v (omega arith) d.1)

pub held-set : (s : Marks) (f : Hole) (c : Above) (k : ℕ) (v : Option ℕ) → k ≡ length c → k < length s → v ≡ mark (length (passed f)) (length (lefts c)) → Held s c → Held (set s k v) (f ∷ c)
held-set s f c k v e h m d =
    (ap (λ (j : ℕ). get_or (set s k v) j None) (sym e) ∙ get_or-set_same s k v None h ∙ m, held_below s c k v (omega (arith, e)) d)

-- ---- both sides of a whole that fits

module _ {l r : Bytes} {c : Above} {out scratch : List ℕ} {stack : Marks} {o i d : ℕ} (s : Sides l r c out scratch stack o i d) (w : Term) where
  pub sides-size : l ++ r ≡ encode w → o + (length scratch - i) ≡ size w
  sides-size e =
      omega (arith, s.long, ap (λ (z : Bytes). length z) s.right, length-drop i scratch, length-append l r, ap (λ (z : Bytes). length z) e)

  module _ (f : fits limits w ≡ true) where
    pub sides-short : l ++ r ≡ encode w → o + (length scratch - i) ≤ limits.bytes
    sides-short e = omega (arith, sides-size e, within limits w f)

    pub depth-few : (t : Term) → w ≡ plug c t → d < limits.nodes
    depth-few t e = omega (arith, s.depth, depth_below c t, ap nodes e, within limits w f)
