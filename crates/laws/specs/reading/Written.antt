-- What the laws of reading need of a layout: how an item's bytes, its count of nodes and its legality follow from its names and parts.
-- Assumes nothing.
use Rattle.std.specs.Prelude.{ℕ, zero, suc, ◌+◌, ◌≡◌, List, [], ◌∷◌}
use Rattle.std.proofs.Math.Option.{some}
use Rattle.std.proofs.Common.{arith}
use Rattle.std.proofs.Math.ListN.{get_elem?}
use Rattle.rules.specs.Basic.{Bytes, ◌‥◌}
use Rattle.rules.specs.Name.{Name, encode_name}
use Rattle.rules.specs.Legal.{LegalName}
use Rattle.rules.specs.Layout.{Layout, Tuple, head_by_tag}

-- of n things in a row: their bytes, the sum of their counts, and that each is so
module _ {A : Type 0} where
  abbrev pub bytes_of : (A → Bytes) → (n : ℕ) → Tuple A n → Bytes
  bytes_of enc zero xs = []
  bytes_of enc (suc n) xs = enc xs.0 ‥ bytes_of enc n xs.1

  abbrev pub sum_of : (A → ℕ) → (n : ℕ) → Tuple A n → ℕ
  sum_of count zero xs = 0
  sum_of count (suc n) xs = count xs.0 + sum_of count n xs.1

  abbrev pub Each : (A → Type 0) → (n : ℕ) → Tuple A n → Type 0
  Each P zero xs = Unit {0}
  Each P (suc n) xs = P xs.0 × Each P n xs.1

pub record Written {H A : Type 0} (F : Layout H A) (encode : A → Bytes) (nodes : A → ℕ) (Fine : A → Type 0) : Type 1 where
  pub tag_of : H → ℕ
  pub head_of : (h : H) → head_by_tag F.heads (tag_of h) ≡ some h
  pub tag-of : (k : ℕ) (h : H) → head_by_tag F.heads k ≡ some h → k ≡ tag_of h
  pub bytes : (h : H) (xs : Tuple Name (F.names h)) (ts : Tuple A (F.parts h))
      → encode (F.build h xs ts) ≡ tag_of h ∷ (bytes_of encode_name (F.names h) xs ‥ bytes_of encode (F.parts h) ts)
  pub count : (h : H) (xs : Tuple Name (F.names h)) (ts : Tuple A (F.parts h)) → nodes (F.build h xs ts) ≡ 1 + sum_of nodes (F.parts h) ts
  pub legal : (h : H) (xs : Tuple Name (F.names h)) (ts : Tuple A (F.parts h))
      → Each (LegalName F.spelling) (F.names h) xs → Each Fine (F.parts h) ts → Fine (F.build h xs ts)
  -- induction: what passes from the parts to what is built of them holds of all that is legal
  pub every : (P : A → Type 0)
      → ((h : H) (xs : Tuple Name (F.names h)) (ts : Tuple A (F.parts h)) → Each (LegalName F.spelling) (F.names h) xs → Each P (F.parts h) ts → P (F.build h xs ts))
      → (x : A) → Fine x → P x

-- Heads whose tags are their places in the list.
module _ {H : Type 0} (tag_of : H → ℕ) where
  abbrev pub Placed : ℕ → List H → Type 0
  Placed i [] = Unit {0}
  Placed i (h ∷ hs) = (tag_of h ≡ i) × Placed (suc i) hs

  placed_at : (hs : List H) (i : ℕ) → Placed i hs → (j : ℕ) (h : H) → get_elem? hs j ≡ some h → i + j ≡ tag_of h
  placed_at [] i e j h q = absurd (let z : ◌≡◌ {A = ℕ} 0 1 = cc in omega arith)
  placed_at (g ∷ hs) i e zero h q = let z : g ≡ h = cc in rw (← z) (omega (arith, e.0))
  placed_at (g ∷ hs) i e (suc j) h q = omega (arith, placed_at hs (suc i) e.1 j h q)

  pub placed : (hs : List H) → Placed 1 hs → (k : ℕ) (h : H) → head_by_tag hs k ≡ some h → k ≡ tag_of h
  placed hs e zero h q = absurd (let z : ◌≡◌ {A = ℕ} 0 1 = cc in omega arith)
  placed hs e (suc k) h q = omega (arith, placed_at hs 1 e k h q)
