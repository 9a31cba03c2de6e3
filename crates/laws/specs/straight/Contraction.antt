-- What a contraction takes out of a straight term: two nodes, and for each name of the contracted node its binder and its one variable.
-- Three rules can apply; by the laws of what is put in once.
-- Assumes nothing.
use Rattle.std.specs.Prelude.{ℕ, ◌+◌, ◌*◌, ◌≤◌, ◌≡◌, refl, Bool, true, false, ◌||◌, List, [], ◌∷◌, length}
use Rattle.std.proofs.lemmas.Bool.{false≢true}
use Rattle.std.proofs.Math.Option.{Option, none, some}
use Rattle.std.proofs.Common.{arith}
use Rattle.rules.specs.Name.{Name, same}
use Rattle.rules.specs.Term.{Term, var, leaf, one, two, abs, both, branch, promote, derelict, pair, app, let_a_pair, inl, inr, fst, snd, abort, Two, discard}
use Rattle.rules.specs.Free.{occurrences}
use Rattle.rules.specs.Substitution.{subst}
use Rattle.rules.specs.declared.Rule.{Rule}
use Rattle.rules.specs.declared.Rule.TheVariants.{App, Let, Case, Fst, Snd, Derelict, Copy, Discard}
use Rattle.rules.specs.Step.{Contraction, no, by, contract}
use Rattle.rules.specs.Straight.{plain}
use Rattle.laws.specs.free.Same.{same-equal}
use Rattle.laws.specs.straight.Weights.{Weight, weigh, stands_of}
use Rattle.laws.specs.straight.FreeAfter.{shown, shown-all, free_all}
use Rattle.laws.specs.straight.Counted.{Counted, part-one, part_left, part_right, part-abs, part-first, part-second, just_self, own-abs, own_first, own-second}
use Rattle.laws.specs.straight.Put.{put, plain-subst}

-- A rule of a straight term has so many names; the five others do not occur.
abbrev pub Takes : Rule → List Name → Type 0
Takes App xs = length xs ≡ 1
Takes Let xs = length xs ≡ 2
Takes Derelict xs = length xs ≡ 0
Takes Case xs = ⊥
Takes Fst xs = ⊥
Takes Snd xs = ⊥
Takes Copy xs = ⊥
Takes Discard xs = ⊥

-- the weight of names at a binder, each with its one variable
abbrev pub gone : Weight → List Name → ℕ
gone w [] = 0
gone w (x ∷ xs) = w.binder x + w.variable x + gone w xs

abbrev pub weigh_half : Weight → Option Term → ℕ
weigh_half w none = 0
weigh_half w (some h) = weigh w h

pub record Taken (t : Term) (r : Rule) (half : Option Term) (u : Term) : Type 0 where
  pub names : List Name
  pub rule : Takes r names
  pub weighs : (w : Weight) → weigh w t ≡ weigh w u + (2 * w.node + gone w names)
  pub halfway : (w : Weight) → weigh_half w half ≤ weigh w t
  pub frees : (z : Name) → occurrences z u ≡ occurrences z t
  pub plain : plain u ≡ true

-- App of Abs
pub taken-app : (x : Name) (e a : Term) → Counted (two app (abs x e) a) → Taken (two app (abs x e) a) App none (subst x a e)
unfolding weigh occurrences plain
taken-app x e a c =
    let j = just_self x in
    let w = c.bound x (omega arith) in
    let o : occurrences x e ≡ 1 = omega (arith, own-abs x e (part_left c), free_all x e (omega arith)) in
    let m = put x a e o (λ y h. let b = c.bound y (omega arith) in omega arith) in
    record {
      names = x ∷ [];
      rule = refl;
      weighs = λ w. omega (arith, m.weighs w);
      halfway = λ w. omega arith;
      frees = λ z. m.frees z;
      plain = plain-subst x a e (part_right c).plain (part-abs (part_left c)).plain;
    }

-- LetPair of Pair
let-frees : (p q : Bool) (n h e a b : ℕ) → n ≡ shown q h + b → h ≡ shown p e + a → (q ≡ true → a ≡ 0) → n ≡ a + b + shown (p || q) e
let-frees true true n h e a b f g k = let z = k refl in omega arith
let-frees true false n h e a b f g k = omega arith
let-frees false true n h e a b f g k = let z = k refl in omega arith
let-frees false false n h e a b f g k = omega arith

pub taken-let : (x y : Name) (a b e : Term) → Counted (both let_a_pair x y (two pair a b) e)
    → Taken (both let_a_pair x y (two pair a b) e) Let (some (subst x a e)) (subst y b (subst x a e))
unfolding weigh occurrences plain
taken-let x y a b e c =
    let jx = just_self x in
    let jy = just_self y in
    let wx = c.bound x (omega arith) in
    let wy = c.bound y (omega arith) in
    let ox : occurrences x e ≡ 1 = omega (arith, own_first let_a_pair x y (two pair a b) e c, free_all x e (omega arith)) in
    let oy : occurrences y e ≡ 1 = omega (arith, own-second let_a_pair x y (two pair a b) e c, free_all y e (omega arith)) in
    let m = put x a e ox (λ z h. let k = c.bound z (omega arith) in omega arith) in
    let oh : occurrences y (subst x a e) ≡ 1 = omega (arith, m.frees y, shown-all (same y x) (occurrences y e) (omega arith)) in
    let m' = put y b (subst x a e) oh (λ z h. let k = c.bound z (omega (arith, m.weighs (stands_of z))) in omega arith) in
    let ya : occurrences y a ≡ 0 = omega arith in
    record {
      names = x ∷ y ∷ [];
      rule = refl;
      weighs = λ w. omega (arith, m.weighs w, m'.weighs w);
      halfway = λ w. omega (arith, m.weighs w);
      frees = λ z.
          let-frees (same z x) (same z y) (occurrences z (subst y b (subst x a e))) (occurrences z (subst x a e)) (occurrences z e) (occurrences z a) (occurrences z b)
          (m'.frees z) (m.frees z) (λ q. rw (same-equal z y q) ya);
      plain = plain-subst y b (subst x a e) (part_right (part-first c)).plain (plain-subst x a e (part_left (part-first c)).plain (part-second c).plain);
    }

-- Derelict of Promote
pub taken-derelict : (v : Term) → Counted (one derelict (one promote v)) → Taken (one derelict (one promote v)) Derelict none v
unfolding weigh occurrences
taken-derelict v c =
    record { names = []; rule = refl; weighs = λ w. omega arith; halfway = λ w. omega arith; frees = λ z. refl; plain = (part-one (part-one c)).plain }

-- what is said of a contraction, if there is one
abbrev pub Made : (Rule → Option Term → Term → Type 0) → Contraction → Type 0
Made P no = Unit {0}
Made P (by r h u) = P r h u

-- The node itself.
made-app : (f a : Term) → Counted (two app f a) → Made (Taken (two app f a)) (contract (two app f a))
unfolding contract
made-app (abs x e) a c = taken-app x e a c
made-app (var n) a c = tt
made-app (leaf k) a c = tt
made-app (one k e) a c = tt
made-app (two k e b) a c = tt
made-app (both k x y e b) a c = tt
made-app (branch x y e l r) a c = tt

pub made-let : (x y : Name) (p e : Term) → Counted (both let_a_pair x y p e) → Made (Taken (both let_a_pair x y p e)) (contract (both let_a_pair x y p e))
unfolding contract
made-let x y (two pair a b) e c = taken-let x y a b e c
made-let x y (two app a b) e c = tt
made-let x y (two discard a b) e c = tt
made-let x y (var n) e c = tt
made-let x y (leaf k) e c = tt
made-let x y (one k d) e c = tt
made-let x y (abs n d) e c = tt
made-let x y (both k n m d b) e c = tt
made-let x y (branch n m d l r) e c = tt

pub made-derelict : (e : Term) → Counted (one derelict e) → Made (Taken (one derelict e)) (contract (one derelict e))
unfolding contract
made-derelict (one promote v) c = taken-derelict v c
made-derelict (one inl v) c = tt
made-derelict (one inr v) c = tt
made-derelict (one fst v) c = tt
made-derelict (one snd v) c = tt
made-derelict (one abort v) c = tt
made-derelict (one derelict v) c = tt
made-derelict (var n) c = tt
made-derelict (leaf k) c = tt
made-derelict (two k a b) c = tt
made-derelict (abs x e) c = tt
made-derelict (both k x y e b) c = tt
made-derelict (branch x y e l r) c = tt

pub made-two : (k : Two) (a b : Term) → Counted (two k a b) → Made (Taken (two k a b)) (contract (two k a b))
unfolding contract plain
made-two app a b c = made-app a b c
made-two pair a b c = tt
made-two discard a b c = absurd (false≢true c.plain)
