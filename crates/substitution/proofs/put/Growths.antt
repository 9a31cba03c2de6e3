-- The size of a substitution from the numbers of its inputs, by the laws of bytes and nodes. Assumes nothing.
use Prim.Native.Nat.{ℕ, ◌+◌, ◌-◌, ◌*◌, ◌≤◌}
use mathlib.Core.Path.{◌≡◌}
use native.Mathlib.Nat.{mul-le-mul}
use native.Mathlib.Omega.{arith}
use lib.ListN.{length}
use Rattle.rules.specs.Name.{Name}
use Rattle.rules.specs.Term.{Term, nodes, size}
use Rattle.rules.specs.Free.{occurrences}
use Rattle.rules.specs.Substitution.{subst}
use Rattle.laws.specs.size.SubstSize.{subst-bytes, subst-nodes, occurrences-bytes, occurrences-nodes}

-- bytes and nodes of t, the free occurrences of x in it and the bytes of each, bytes and nodes of v
pub record Growth (bytes n count gap value added : ℕ) (x : Name) (t v : Term) : Type 0 where
  pub bytes-are : bytes ≡ size t
  pub nodes-are : n ≡ nodes t
  pub count-is : count ≡ occurrences x t
  pub gap_is : gap ≡ 2 + length x
  pub value-is : value ≡ size v
  pub added_is : added ≡ nodes v
  pub small : (bytes ≤ 65536) × (n ≤ 65536) × (value ≤ 65536) × (added ≤ 65536)

-- a product of two numbers up to 65536
pub product : (a b : ℕ) → a ≤ 65536 → b ≤ 65536 → a * b ≤ 4294967296
product a b h k = mul-le-mul h k

module _ {bytes n count gap value added : ℕ} {x : Name} {t v : Term} (h : Growth bytes n count gap value added x t v) where
  pub nodes-go : count * 1 ≤ n
  nodes-go = omega (arith, h.count-is, h.nodes-are, occurrences-nodes x t)

  gaps : count * gap ≡ occurrences x t * (2 + length x)
  gaps = rw (h.count-is, h.gap_is)

  pub bytes-go : count * gap ≤ bytes
  bytes-go = omega (arith, gaps, h.bytes-are, occurrences-bytes x t)

  pub count_small : count ≤ 65536
  count_small = omega (arith, nodes-go, h.small.1)

  pub nodes-after : n - count * 1 + count * added ≡ nodes (subst x v t)
  nodes-after =
      let e : count * added ≡ occurrences x t * nodes v = rw (h.count-is, h.added_is) in
      omega (arith, e, nodes-go, h.count-is, h.nodes-are, subst-nodes x v t)

  pub bytes_after : bytes - count * gap + count * value ≡ size (subst x v t)
  bytes_after =
      let e : count * value ≡ occurrences x t * size v = rw (h.count-is, h.value-is) in
      omega (arith, e, gaps, bytes-go, h.bytes-are, subst-bytes x v t)
