-- The parts of a legal term are legal and smaller than it, and stand in its bytes one after the other: by cases of the term.
-- Assumes nothing.
use Rattle.std.specs.Prelude.{ℕ, zero, suc, ◌+◌, ◌<◌, ◌≤◌, ◌≡◌, refl, List, [], ◌∷◌, ◌++◌, length, take, drop}
use Rattle.std.proofs.Common.{sym, ap, ◌∙◌, append_assoc, append-nil, arith, length-append}
use Rattle.std.proofs.Math.Option.{some}
use Rattle.std.proofs.Math.ListN.{get_elem?}
use Rattle.rules.specs.Basic.{Bytes, ◌‥◌}
use Rattle.rules.specs.Name.{encode_name, encode_names}
use Rattle.rules.specs.Legal.{Legal}
use Rattle.rules.specs.Term.{Term, var, leaf, one, two, abs, both, branch, leaf_tag, one_tag, two_tag, both_tag, encode, nodes, names, parts}

-- a row of terms: its bytes, its nodes, and that each is legal
abbrev pub encode_all : List Term → Bytes
encode_all [] = []
encode_all (t ∷ ts) = encode t ‥ encode_all ts

abbrev pub nodes_of_all : List Term → ℕ
nodes_of_all [] = 0
nodes_of_all (t ∷ ts) = nodes t + nodes_of_all ts

abbrev pub AllLegal : List Term → Type 0
AllLegal [] = Unit {0}
AllLegal (t ∷ ts) = Legal t × AllLegal ts

-- a node's tag; its head: the tag and the names as bytes
abbrev pub tag : Term → ℕ
tag (var x) = 1
tag (leaf k) = leaf_tag k
tag (one k e) = one_tag k
tag (two k a b) = two_tag k
tag (abs x e) = 5
tag (both k x y e b) = both_tag k
tag (branch x y e l r) = 9

abbrev pub head : Term → Bytes
head t = tag t ∷ encode_names (names t)

-- a term is its head, then its parts
pub apart : (t : Term) → encode t ≡ head t ‥ encode_all (parts t)
unfolding encode
apart (var x) = simp append-nil
apart (leaf k) = refl
apart (one k e) = simp append-nil
apart (two k a b) = simp append-nil
apart (abs x e) = rw (append-nil x, append-nil (encode e))
apart (both k x y e b) = rw (append-nil y, append-nil (encode b), append_assoc x (encode_name y))
apart (branch x y e l r) = rw (append-nil y, append-nil (encode r), append_assoc x (encode_name y))

pub parts-nodes : (t : Term) → nodes t ≡ 1 + nodes_of_all (parts t)
unfolding nodes
parts-nodes (var x) = refl
parts-nodes (leaf k) = refl
parts-nodes (one k e) = omega arith
parts-nodes (two k a b) = omega arith
parts-nodes (abs x e) = omega arith
parts-nodes (both k x y e b) = omega arith
parts-nodes (branch x y e l r) = omega arith

pub some-node : (t : Term) → 1 ≤ nodes t
unfolding nodes
some-node (var x) = omega arith
some-node (leaf k) = omega arith
some-node (one k e) = omega arith
some-node (two k a b) = omega arith
some-node (abs x e) = omega arith
some-node (both k x y e b) = omega arith
some-node (branch x y e l r) = omega arith

pub parts-legal : (t : Term) → Legal t → AllLegal (parts t)
parts-legal (var x) p = tt
parts-legal (leaf k) p = tt
parts-legal (one k e) p = (p, tt)
parts-legal (two k a b) p = (p.0, (p.1, tt))
parts-legal (abs x e) p = (p.1, tt)
parts-legal (both k x y e b) p = (p.2, (p.3, tt))
parts-legal (branch x y e l r) p = (p.2, (p.3, (p.4, tt)))

-- the parts before part k, then part k, then those behind it
row-bytes : (ts : List Term) (k : ℕ) (u : Term) → get_elem? ts k ≡ some u → encode_all ts ≡ encode_all (take k ts) ‥ encode u ‥ encode_all (drop (suc k) ts)
row-bytes [] k u e = absurd (let z : ◌≡◌ {A = ℕ} 0 1 = cc in omega arith)
row-bytes (t ∷ ts) zero u e = let z : t ≡ u = cc in rw z
row-bytes (t ∷ ts) (suc k) u e = ap (λ l. encode t ++ l) (row-bytes ts k u e) ∙ sym (append_assoc (encode t) (encode_all (take k ts)) (encode u ‥ encode_all (drop (suc k) ts)))

row-nodes : (ts : List Term) (k : ℕ) (u : Term) → get_elem? ts k ≡ some u → nodes u ≤ nodes_of_all ts
row-nodes [] k u e = absurd (let z : ◌≡◌ {A = ℕ} 0 1 = cc in omega arith)
row-nodes (t ∷ ts) zero u e = let z : t ≡ u = cc in rw z (omega arith)
row-nodes (t ∷ ts) (suc k) u e = omega (arith, row-nodes ts k u e)

row-legal : (ts : List Term) (k : ℕ) (u : Term) → get_elem? ts k ≡ some u → AllLegal ts → Legal u
row-legal [] k u e l = absurd (let z : ◌≡◌ {A = ℕ} 0 1 = cc in omega arith)
row-legal (t ∷ ts) zero u e l = let z : t ≡ u = cc in rw (← z) l.0
row-legal (t ∷ ts) (suc k) u e l = row-legal ts k u e l.1

module _ (t : Term) (k : ℕ) (u : Term) (e : get_elem? (parts t) k ≡ some u) where
  pub child-bytes : encode t ≡ (head t ‥ encode_all (take k (parts t))) ‥ encode u ‥ encode_all (drop (suc k) (parts t))
  child-bytes =
      apart t ∙ ap (λ l. head t ++ l) (row-bytes (parts t) k u e)
      ∙ sym (append_assoc (head t) (encode_all (take k (parts t))) (encode u ‥ encode_all (drop (suc k) (parts t))))

  pub child-nodes : nodes u < nodes t
  child-nodes = omega (arith, parts-nodes t, row-nodes (parts t) k u e)

  pub child-size : length (encode u) < length (encode t)
  child-size =
      let front : Bytes = head t ‥ encode_all (take k (parts t)) in
      let back : Bytes = encode_all (drop (suc k) (parts t)) in
      omega (
        arith,
        ap length child-bytes,
        length-append front (encode u ‥ back),
        length-append (encode u) back,
        length-append (head t) (encode_all (take k (parts t))),
      )

  pub child-legal : Legal t → Legal u
  child-legal l = row-legal (parts t) k u e (parts-legal t l)
