-- What a term weighs, where each node, variable and name at a binder has a weight; and what it weighs after a substitution.
-- Nodes, bytes, uses of a name and binders of a name are weights, so one law by induction on the term serves the four.
-- Assumes nothing.
use Rattle.std.specs.Prelude.{ℕ, ◌+◌, ◌*◌, ◌≡◌, Bool, ◌||◌, List, [], ◌∷◌, ◌++◌, map, length, if◌then◌else◌}
use Rattle.std.proofs.Math.Path.{refl, ap}
use Rattle.std.proofs.Math.Bool.{true, false}
use native.Mathlib.Omega.{arith}
use Rattle.std.proofs.Math.Nat.{zero-mul, one-mul}
use Rattle.std.proofs.Common.{length-append}
use Rattle.rules.specs.Name.{Name, same}
use Rattle.rules.specs.Term.{Term, var, leaf, one, two, abs, both, branch, encode, nodes, size}
use Rattle.rules.specs.Free.{occurrences}
use Rattle.rules.specs.Substitution.{subst}
use Rattle.rules.specs.Straight.{Binder, binders, variables, count, stands, uses}
use Rattle.laws.specs.free.Same.{same-equal}

pub record Weight : Type 0 where
  -- of a node that is no variable; of a variable; of a name at a binder
  pub node : ℕ
  pub variable : Name → ℕ
  pub binder : Name → ℕ

unfoldable pub weigh : Weight → Term → ℕ
weigh w (var x) = w.variable x
weigh w (leaf k) = w.node
weigh w (one k e) = w.node + weigh w e
weigh w (two k a b) = w.node + (weigh w a + weigh w b)
weigh w (abs x e) = w.node + (w.binder x + weigh w e)
weigh w (both k x y e b) = w.node + (w.binder x + (w.binder y + (weigh w e + weigh w b)))
weigh w (branch x y e l r) = w.node + (w.binder x + (w.binder y + (weigh w e + (weigh w l + weigh w r))))

-- 1 for the name, 0 for all others
abbrev pub just : Name → Name → ℕ
just x y = if same x y then 1 else 0

abbrev pub node_count_of : Weight
node_count_of = record { node = 1; variable = λ x. 1; binder = λ x. 0 }

abbrev pub bytes_of : Weight
bytes_of = record { node = 1; variable = λ x. 2 + length x; binder = λ x. 1 + length x }

abbrev pub uses_of : Name → Weight
uses_of z = record { node = 0; variable = just z; binder = λ x. 0 }

abbrev pub stands_of : Name → Weight
stands_of z = record { node = 0; variable = λ x. 0; binder = just z }

pub nodes-weigh : (t : Term) → weigh node_count_of t ≡ nodes t
unfolding weigh nodes
nodes-weigh (var x) = refl
nodes-weigh (leaf k) = refl
nodes-weigh (one k e) = omega (arith, nodes-weigh e)
nodes-weigh (two k a b) = omega (arith, nodes-weigh a, nodes-weigh b)
nodes-weigh (abs x e) = omega (arith, nodes-weigh e)
nodes-weigh (both k x y e b) = omega (arith, nodes-weigh e, nodes-weigh b)
nodes-weigh (branch x y e l r) = omega (arith, nodes-weigh e, nodes-weigh l, nodes-weigh r)

pub bytes-weigh : (t : Term) → weigh bytes_of t ≡ size t
unfolding weigh encode
bytes-weigh (var x) = omega arith
bytes-weigh (leaf k) = refl
bytes-weigh (one k e) = omega (arith, bytes-weigh e)
bytes-weigh (two k a b) = simp length-append (omega (arith, bytes-weigh a, bytes-weigh b))
bytes-weigh (abs x e) = simp length-append (omega (arith, bytes-weigh e))
bytes-weigh (both k x y e b) = simp length-append (omega (arith, bytes-weigh e, bytes-weigh b))
bytes-weigh (branch x y e l r) = simp length-append (omega (arith, bytes-weigh e, bytes-weigh l, bytes-weigh r))

pub count-append : (z : Name) (xs ys : List Name) → count z (xs ++ ys) ≡ count z xs + count z ys
unfolding count
count-append z [] ys = omega arith
count-append z (x ∷ xs) ys = omega (arith, count-append z xs ys)

pub uses-weigh : (z : Name) (t : Term) → weigh (uses_of z) t ≡ uses z t
unfolding weigh variables count
uses-weigh z (var x) = omega arith
uses-weigh z (leaf k) = refl
uses-weigh z (one k e) = omega (arith, uses-weigh z e)
uses-weigh z (two k a b) = simp count-append (omega (arith, uses-weigh z a, uses-weigh z b))
uses-weigh z (abs x e) = omega (arith, uses-weigh z e)
uses-weigh z (both k x y e b) = simp count-append (omega (arith, uses-weigh z e, uses-weigh z b))
uses-weigh z (branch x y e l r) = simp count-append (omega (arith, uses-weigh z e, uses-weigh z l, uses-weigh z r))

names-append : (a b : List Binder) → ◌≡◌ {A = List Name} (map (λ c. c.name) (a ++ b)) (map (λ c. c.name) a ++ map (λ c. c.name) b)
names-append [] b = refl
names-append (c ∷ a) b = ap (λ (l : List Name). c.name ∷ l) (names-append a b)

pub stands-weigh : (z : Name) (t : Term) → weigh (stands_of z) t ≡ stands z t
unfolding weigh binders count
stands-weigh z (var x) = refl
stands-weigh z (leaf k) = refl
stands-weigh z (one k e) = omega (arith, stands-weigh z e)
stands-weigh z (two k a b) = simp (names-append, count-append) (omega (arith, stands-weigh z a, stands-weigh z b))
stands-weigh z (abs x e) = omega (arith, stands-weigh z e)
stands-weigh z (both k x y e b) = simp (names-append, count-append) (omega (arith, stands-weigh z e, stands-weigh z b))
stands-weigh z (branch x y e l r) = simp (names-append, count-append) (omega (arith, stands-weigh z e, stands-weigh z l, stands-weigh z r))

-- Each free occurrence of x gives way to what goes in.
module _ (w : Weight) (x : Name) (v : Term) where
  abbrev Gives : Term → Term → ℕ → Type 0
  Gives t u n = weigh w u + n * w.variable x ≡ weigh w t + n * weigh w v

  gives-if : (b : Bool) (t u : Term) (n : ℕ) → Gives t u n → Gives t (if b then t else u) (if b then 0 else n)
  gives-if true t u n h = simp zero-mul
  gives-if false t u n h = h

  gives-var : (y : Name) (b : Bool) → same x y ≡ b → Gives (var y) (if b then v else var y) (if b then 1 else 0)
  unfolding weigh
  gives-var y true h = omega (arith, one-mul (w.variable x), one-mul (weigh w v), ap w.variable (same-equal x y h))
  gives-var y false h = simp zero-mul

  pub weigh-subst : (t : Term) → weigh w (subst x v t) + occurrences x t * w.variable x ≡ weigh w t + occurrences x t * weigh w v
  unfolding weigh subst occurrences
  weigh-subst (var y) = gives-var y (same x y) refl
  weigh-subst (leaf k) = simp zero-mul
  weigh-subst (one k e) = omega (arith, weigh-subst e)
  weigh-subst (two k a b) = omega (arith, weigh-subst a, weigh-subst b)
  weigh-subst (abs y e) = omega (arith, gives-if (same x y) e (subst x v e) (occurrences x e) (weigh-subst e))
  weigh-subst (both k y z e b) = omega (arith, weigh-subst e, gives-if (same x y || same x z) b (subst x v b) (occurrences x b) (weigh-subst b))
  weigh-subst (branch y z e l r) =
      omega (
        arith,
        weigh-subst e,
        gives-if (same x y) l (subst x v l) (occurrences x l) (weigh-subst l),
        gives-if (same x z) r (subst x v r) (occurrences x r) (weigh-subst r),
      )
