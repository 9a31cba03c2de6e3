-- How long a term is, and how many nodes it has, after a substitution: each free occurrence of the name becomes the value.
-- By induction on the term; the bytes and the nodes are two cases of one law.
-- Assumes nothing.
use Rattle.std.specs.Prelude.{ℕ, ◌+◌, ◌*◌, ◌≤◌, ◌≡◌, ◌||◌, if◌then◌else◌}
use Rattle.std.proofs.Math.Path.{refl}
use Rattle.std.proofs.Math.Bool.{Bool, true, false}
use native.Mathlib.Omega.{arith}
use Rattle.std.proofs.Math.ListN.{length}
use Rattle.std.proofs.Common.{length-append}
use Rattle.rules.specs.Basic.{Bytes, ◌‥◌}
use Rattle.rules.specs.Name.{Name, same, encode_name}
use Rattle.rules.specs.Term.{Term, var, leaf, one, two, abs, both, branch, One, Two, Both, encode, nodes}
use Rattle.rules.specs.Free.{occurrences}
use Rattle.rules.specs.Substitution.{subst}
use Rattle.laws.specs.free.Same.{same-equal}

-- A size that adds up: what a node has of its own, by its kind and names, and the sizes of its parts.
pub record Adds (size : Term → ℕ) : Type 0 where
  pub one-own : One → ℕ
  pub two-own : Two → ℕ
  pub abs-own : Name → ℕ
  pub both_own : Both → Name → Name → ℕ
  pub branch-own : Name → Name → ℕ
  pub one-adds : (k : One) (e : Term) → size (one k e) ≡ one-own k + size e
  pub two-adds : (k : Two) (a b : Term) → size (two k a b) ≡ two-own k + size a + size b
  pub abs-adds : (y : Name) (e : Term) → size (abs y e) ≡ abs-own y + size e
  pub both-adds : (k : Both) (y z : Name) (e b : Term) → size (both k y z e b) ≡ both_own k y z + size e + size b
  pub branch-adds : (y z : Name) (e l r : Term) → size (branch y z e l r) ≡ branch-own y z + size e + size l + size r

module _ (size : Term → ℕ) (S : Adds size) (x : Name) (v : Term) where
  abbrev Grown : Term → Term → ℕ → Type 0
  Grown t u n = size u + n * size (var x) ≡ size t + n * size v

  covered : (b : Bool) (t u : Term) (n : ℕ) → Grown t u n → Grown t (if b then t else u) (if b then 0 else n)
  covered true t u n h = omega arith
  covered false t u n h = h

  at-var : (y : Name) (b : Bool) → same x y ≡ b → Grown (var y) (if b then v else var y) (if b then 1 else 0)
  at-var y true e = rw (← same-equal x y e) (omega arith)
  at-var y false e = omega arith

  grown : (t : Term) → Grown t (subst x v t) (occurrences x t)
  unfolding subst occurrences
  grown (var y) = at-var y (same x y) refl
  grown (leaf k) = omega arith
  grown (one k e) = omega (arith, grown e, S.one-adds k e, S.one-adds k (subst x v e))
  grown (two k a b) = omega (arith, grown a, grown b, S.two-adds k a b, S.two-adds k (subst x v a) (subst x v b))
  grown (abs y e) =
      let e' : Term = if same x y then e else subst x v e in
      omega (arith, covered (same x y) e (subst x v e) (occurrences x e) (grown e), S.abs-adds y e, S.abs-adds y e')
  grown (both k y z e b) =
      let h : Bool = same x y || same x z in
      let b' : Term = if h then b else subst x v b in
      omega (arith, grown e, covered h b (subst x v b) (occurrences x b) (grown b), S.both-adds k y z e b, S.both-adds k y z (subst x v e) b')
  grown (branch y z e l r) =
      let l' : Term = if same x y then l else subst x v l in
      let r' : Term = if same x z then r else subst x v r in
      omega (
        arith,
        grown e,
        covered (same x y) l (subst x v l) (occurrences x l) (grown l),
        covered (same x z) r (subst x v r) (occurrences x r) (grown r),
        S.branch-adds y z e l r,
        S.branch-adds y z (subst x v e) l' r',
      )

module _ (size : Term → ℕ) (S : Adds size) (x : Name) where
  less : (b : Bool) (t : Term) (n : ℕ) → n * size (var x) ≤ size t → (if b then 0 else n) * size (var x) ≤ size t
  less true t n h = omega arith
  less false t n h = h

  -- each free occurrence takes the size of the variable
  taken : (t : Term) → occurrences x t * size (var x) ≤ size t
  unfolding occurrences
  taken (var y) = own y (same x y) refl
    where
      own : (y : Name) (b : Bool) → same x y ≡ b → (if b then 1 else 0) * size (var x) ≤ size (var y)
      own y true e = rw (← same-equal x y e) (omega arith)
      own y false e = omega arith
  taken (leaf k) = omega arith
  taken (one k e) = omega (arith, taken e, S.one-adds k e)
  taken (two k a b) = omega (arith, taken a, taken b, S.two-adds k a b)
  taken (abs y e) = omega (arith, less (same x y) e (occurrences x e) (taken e), S.abs-adds y e)
  taken (both k y z e b) = omega (arith, taken e, less (same x y || same x z) b (occurrences x b) (taken b), S.both-adds k y z e b)
  taken (branch y z e l r) =
      omega (arith, taken e, less (same x y) l (occurrences x l) (taken l), less (same x z) r (occurrences x r) (taken r), S.branch-adds y z e l r)

two-names : (y z : Name) (l : Bytes) → length (encode_name y ‥ encode_name z ‥ l) ≡ 2 + length y + length z + length l
two-names y z l = omega (arith, length-append y (encode_name z ‥ l), length-append z l)

bytes-add : Adds (λ t. length (encode t))
unfolding encode
bytes-add =
    record {
      one-own = λ k. 1;
      two-own = λ k. 1;
      abs-own = λ y. 2 + length y;
      both_own = λ k y z. 3 + length y + length z;
      branch-own = λ y z. 3 + length y + length z;
      one-adds = λ k e. omega arith;
      two-adds = λ k a b. omega (arith, length-append (encode a) (encode b));
      abs-adds = λ y e. omega (arith, length-append y (encode e));
      both-adds = λ k y z e b. omega (arith, two-names y z (encode e ‥ encode b), length-append (encode e) (encode b));
      branch-adds = λ y z e l r.
          omega (arith, two-names y z (encode e ‥ encode l ‥ encode r), length-append (encode e) (encode l ‥ encode r), length-append (encode l) (encode r));
    }

nodes-add : Adds nodes
unfolding nodes
nodes-add =
    record {
      one-own = λ k. 1;
      two-own = λ k. 1;
      abs-own = λ y. 1;
      both_own = λ k y z. 1;
      branch-own = λ y z. 1;
      one-adds = λ k e. omega arith;
      two-adds = λ k a b. omega arith;
      abs-adds = λ y e. omega arith;
      both-adds = λ k y z e b. omega arith;
      branch-adds = λ y z e l r. omega arith;
    }

module _ (x : Name) (v t : Term) where
  pub subst-bytes : length (encode (subst x v t)) + occurrences x t * (2 + length x) ≡ length (encode t) + occurrences x t * length (encode v)
  unfolding encode
  subst-bytes = omega (arith, grown (λ t. length (encode t)) bytes-add x v t)

  pub subst-nodes : nodes (subst x v t) + occurrences x t ≡ nodes t + occurrences x t * nodes v
  unfolding nodes
  subst-nodes = omega (arith, grown nodes nodes-add x v t)

module _ (x : Name) (t : Term) where
  pub occurrences-bytes : occurrences x t * (2 + length x) ≤ length (encode t)
  unfolding encode
  occurrences-bytes = omega (arith, taken (λ t. length (encode t)) bytes-add x t)

  pub occurrences-nodes : occurrences x t ≤ nodes t
  unfolding nodes
  occurrences-nodes = omega (arith, taken nodes nodes-add x t)
