-- What reading a node finds, by the tests that the code makes.
-- Assumes nothing.
use Rattle.rules.specs.declared.Reason.TheVariants.{EndsInside, NotListed, OneTooMany}
use Prim.Native.Nat.{ℕ, zero, suc, ◌+◌, ◌<◌, ◌≤◌}
use native.Mathlib.Omega.{arith}
use mathlib.Core.Path.{◌≡◌, ◌∙◌}
use mathlib.Core.Option.{none, some}
use lib.ListN.{length, get_or, drop}
use borrow.Author.Tests.{lt-ltb, le-ltb}
use Rattle.rules.specs.declared.Reason.{Reason}
use Rattle.rules.specs.Basic.{Bytes}
use Rattle.rules.specs.Name.{Name}
use Rattle.rules.specs.Layout.{Layout, Tuple, head_by_tag}
use Rattle.rules.specs.Reading.{got, bad, and_then, pure, times, byte, name, tag, too_many, node}
use Rattle.reader.proofs.class.Views.{rest_in, rest_out}
use Rattle.reader.proofs.node.Depth.{same}

module _ {H A : Type 0} (F : Layout H A) (most : ℕ) (s : Bytes) (u at : ℕ) where
  pub node-out : length s ≤ at → (f : ℕ) → node F most f u at (drop at s) ≡ bad EndsInside at
  unfolding node tag too_many byte
  node-out h zero = rw (rest_out s at h)
  node-out h (suc f) = rw (rest_out s at h)

  pub node-full : at < length s → most ≤ u → (f : ℕ) → node F most f u at (drop at s) ≡ bad OneTooMany at
  unfolding node tag too_many byte
  node-full h l zero = rw (rest_in s at h)
  node-full h l (suc f) = rw (rest_in s at h) (simp (le-ltb u most l))

-- The tag is there, and it is not one too many.
module _ {H A : Type 0} (F : Layout H A) (most : ℕ) (s : Bytes) (u at : ℕ) (inside : at < length s) (room : u < most) where
  deeper : node F most most u at (drop at s) ≡ node F most (suc most) u at (drop at s)
  deeper = same F most most (suc most) u at (drop at s) (omega arith) (omega arith)

  pub node-unknown : head_by_tag F.heads (get_or s at 0) ≡ none → node F most most u at (drop at s) ≡ bad NotListed at
  unfolding node tag byte
  node-unknown e = deeper ∙ rw (rest_in s at inside) (simp (lt-ltb u most room, e))

  module _ (h : H) (known : head_by_tag F.heads (get_or s at 0) ≡ some h) where
    head-known : tag most (head_by_tag F.heads) u at (drop at s) ≡ got h (u + 1) (at + 1) (drop (at + 1) s)
    unfolding tag byte
    head-known = rw (rest_in s at inside) (simp (lt-ltb u most room, known))

    pub node-off : (n : Reason) (p : ℕ) → times (name F.spelling) (F.names h) (u + 1) (at + 1) (drop (at + 1) s) ≡ bad n p
        → node F most most u at (drop at s) ≡ bad n p
    unfolding node
    node-off n p e = deeper ∙ rw (head-known, e)

    -- its names are there: what follows is its parts
    pub node-on : (xs : Tuple Name (F.names h)) (v p : ℕ) (q : Bytes) → times (name F.spelling) (F.names h) (u + 1) (at + 1) (drop (at + 1) s) ≡ got xs v p q
        → node F most most u at (drop at s) ≡ and_then (times (node F most most) (F.parts h) v p q) (λ ts. pure (F.build h xs ts))
    unfolding node
    node-on xs v p q e = deeper ∙ rw (head-known, e)
