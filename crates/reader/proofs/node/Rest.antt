-- Reading in one loop: what is still to be read is some nodes in a row, and reading a node puts its parts in its place.
-- Assumes nothing.
use Prim.Native.Nat.{ℕ, zero, suc, ◌+◌, ◌-◌, ◌<◌}
use native.Mathlib.Nat.{zero-add, suc-add, add_comm}
use native.Mathlib.Omega.{arith}
use mathlib.Core.Path.{◌≡◌, refl, sym, ap, ◌∙◌}
use mathlib.Core.Option.{some}
use lib.ListN.{length, get_or, drop}
use Rattle.rules.specs.declared.Reason.{Reason}
use Rattle.rules.specs.Basic.{Bytes}
use Rattle.rules.specs.Name.{Name}
use Rattle.rules.specs.Layout.{Layout, Tuple, head_by_tag}
use Rattle.rules.specs.Reading.{Got, got, bad, Reader, and_then, pure, times, name, node}
use Rattle.reader.specs.View.{view, past, fault, Read}
use Rattle.reader.proofs.class.Views.{view_made, times_none, times-off}
use Rattle.reader.proofs.node.Node.{node-on}

-- one more item in front
abbrev more : {A : Type 0} (n : ℕ) → A → Tuple A n → Tuple A (suc n)
more n x xs = (x, xs)

module _ {A : Type 0} (m : Reader ℕ A) where
  -- a + b items are a items and then b
  row : (a b u at : ℕ) (r : Bytes) → view (times m (a + b) u at r) ≡ view (and_then (times m a u at r) (λ xs. times m b))
  unfolding times
  row zero b u at r = rw (zero-add b)
  row (suc a) b u at r = rw (suc-add a b) (go (m u at r) (row a b))
    where
      later : (x : A) (g : Got ℕ (Tuple A a)) → view (and_then g (λ xs. times m b)) ≡ view (and_then (and_then g (λ xs. pure (more a x xs))) (λ xs. times m b))
      later x (got xs v p q) = refl
      later x (bad n p) = refl

      go : (g : Got ℕ A) → ((u at : ℕ) (r : Bytes) → view (times m (a + b) u at r) ≡ view (and_then (times m a u at r) (λ xs. times m b)))
          → view (and_then g (λ x u p r. and_then (times m (a + b) u p r) (λ xs. pure (more (a + b) x xs))))
          ≡ view (and_then (and_then g (λ x u p r. and_then (times m a u p r) (λ xs. pure (more a x xs)))) (λ xs. times m b))
      go (got x v p q) h = view_made (times m (a + b) v p q) (more (a + b) x) ∙ h v p q ∙ later x (times m a v p q)
      go (bad n p) h = refl

  -- the first item is what a items make
  put_first : (a c u at v p : ℕ) (r q : Bytes) (f : Tuple A a → A) → m u at r ≡ and_then (times m a v p q) (λ ts. pure (f ts))
      → view (times m (suc c) u at r) ≡ view (times m (a + c) v p q)
  unfolding times
  put_first a c u at v p r q f e = rw e (go (times m a v p q)) ∙ sym (row a c v p q)
    where
      go : (g : Got ℕ (Tuple A a)) → view (and_then (and_then g (λ ts. pure (f ts))) (λ x u p r. and_then (times m c u p r) (λ xs. pure (more c x xs)))) ≡ view (and_then g (λ xs. times m c))
      go (got ts w p q) = view_made (times m c w p q) (more c (f ts))
      go (bad n p) = refl

module _ {H A : Type 0} (F : Layout H A) (most : ℕ) (s : Bytes) where
  -- what reading c more nodes finds
  unfoldable pub Rest : (c u at : ℕ) → Read
  Rest c u at = view (times (node F most most) c u at (drop at s))

  pub rest-is : (c u at : ℕ) → Rest c u at ≡ view (times (node F most most) c u at (drop at s))
  unfolding Rest
  rest-is c u at = refl

  pub rest-same : {c d u v : ℕ} → c ≡ d → u ≡ v → (at : ℕ) → Rest c u at ≡ Rest d v at
  rest-same {c} {d} {u} {v} e i at = ap (λ k. Rest k u at) e ∙ ap (λ k. Rest d k at) i

  pub rest-one : (u at : ℕ) → view (node F most most u at (drop at s)) ≡ Rest 1 u at
  unfolding Rest times
  rest-one u at = sym (view_made (node F most most u at (drop at s)) (λ x. more 0 x tt))

  pub rest-none : (c u at : ℕ) → c ≡ 0 → Rest c u at ≡ past at u
  unfolding Rest
  rest-none c u at e = times_none (node F most most) c u at (drop at s) e

  -- the first of c nodes fails
  pub rest-bad : (c u at : ℕ) (n : Reason) (p : ℕ) → 0 < c → node F most most u at (drop at s) ≡ bad n p → Rest c u at ≡ fault n p
  unfolding Rest
  rest-bad c u at n p h e = times-off (node F most most) c u at (drop at s) (c - 1) (omega arith) n p e

  -- the first of c nodes has its tag and names: its parts are to be read, and then the others
  pub rest-step : (c u at : ℕ) → 0 < c → at < length s → u < most → (h : H) → head_by_tag F.heads (get_or s at 0) ≡ some h
      → (xs : Tuple Name (F.names h)) (p : ℕ) → times (name F.spelling) (F.names h) (u + 1) (at + 1) (drop (at + 1) s) ≡ got xs (u + 1) p (drop p s)
      → Rest c u at ≡ Rest (c - 1 + F.parts h) (u + 1) p
  unfolding Rest
  rest-step c u at l i j h e xs p q =
      ap (λ k. view (times (node F most most) k u at (drop at s))) z
      ∙ put_first (node F most most) (F.parts h) (c - 1) u at (u + 1) p (drop at s) (drop p s) (λ ts. F.build h xs ts)
      (node-on F most s u at i j h e xs (u + 1) p (drop p s) q)
      ∙ ap (λ k. view (times (node F most most) k (u + 1) p (drop p s))) (add_comm (F.parts h) (c - 1))
    where
      z : c ≡ suc (c - 1)
      z = omega arith
