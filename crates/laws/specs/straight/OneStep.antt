-- One step of a straight term takes out of it what the contraction takes out of the contracted node.
-- By induction on the term, the parts being tried as `step` tries them; what a part loses, the whole loses.
-- Assumes nothing.
use Rattle.std.specs.Prelude.{ℕ, ◌+◌, ◌≤◌, ◌≡◌, true, ◌&&◌}
use Rattle.std.proofs.Common.{ap₂, arith}
use Rattle.std.proofs.lemmas.Bool.{false≢true}
use Rattle.std.proofs.Math.Option.{Option}
use Rattle.rules.specs.Name.{Name}
use Rattle.rules.specs.Term.{Term, var, leaf, one, two, abs, both, branch, promote, derelict, let_a_pair, One, inl, inr, fst, snd, abort, Two, Both, copy, size}
use Rattle.rules.specs.Free.{occurrences}
use Rattle.rules.specs.declared.Rule.{Rule}
use Rattle.rules.specs.Step.{Contraction, no, by, contract, Stepped, normal, found, here, or_else, in_part, name_bytes, step}
use Rattle.rules.specs.Straight.{plain, plain_one, plain_two, plain_both}
use Rattle.laws.specs.free.Same.{both_true}
use Rattle.laws.specs.straight.Weights.{Weight, weigh}
use Rattle.laws.specs.straight.Counted.{Counted, part-one, part_left, part_right, part-abs, part-first, part-second}
use Rattle.laws.specs.straight.Contraction.{Taken, Made, made-let, made-derelict, made-two}

-- what is said of a step, if there is one
abbrev pub Meets : (Rule → Option Term → Term → Type 0) → Stepped → Type 0
Meets P normal = Unit {0}
Meets P (found r p h u) = P r h u

meets-here : (P : Rule → Option Term → Term → Type 0) (c : Contraction) (s : Stepped) → Made P c → Meets P s → Meets P (here c s)
meets-here P no s m h = h
meets-here P (by r p u) s m h = m

meets-else : (P : Rule → Option Term → Term → Type 0) (s s' : Stepped) → Meets P s → Meets P s' → Meets P (or_else s s')
meets-else P normal s' h k = k
meets-else P (found r p m u) s' h k = h

meets-part : (P Q : Rule → Option Term → Term → Type 0) (o : ℕ) (f : Term → Term) (s : Stepped)
    → ((r : Rule) (h : Option Term) (u : Term) → P r h u → Q r h (f u)) → Meets P s → Meets Q (in_part o f s)
meets-part P Q o f normal k h = tt
meets-part P Q o f (found r p m u) k h = k r m u h

-- What a part loses, the whole loses.
within : (f : Term → Term) (e : Term) {r : Rule} {h : Option Term} (u : Term) → Taken e r h u
    → ((w : Weight) → weigh w (f e) + weigh w u ≡ weigh w (f u) + weigh w e)
    → ((w : Weight) → weigh w e ≤ weigh w (f e))
    → ((z : Name) → occurrences z u ≡ occurrences z e → occurrences z (f u) ≡ occurrences z (f e))
    → plain (f u) ≡ true
    → Taken (f e) r h (f u)
within f e u m d l o p =
    record {
      names = m.names;
      rule = m.rule;
      weighs = λ w. omega (arith, m.weighs w, d w);
      halfway = λ w. omega (arith, m.halfway w, l w);
      frees = λ z. o z (m.frees z);
      plain = p;
    }

in_one : (k : One) (e : Term) (r : Rule) (h : Option Term) (u : Term) → Counted (one k e) → Taken e r h u → Taken (one k e) r h (one k u)
unfolding weigh occurrences plain
in_one k e r h u c m =
    within (one k) e u m (λ w. omega arith) (λ w. omega arith) (λ z q. q) (ap₂ ◌&&◌ (both_true (plain_one k) (plain e) c.plain).0 m.plain)

in_left : (k : Two) (a b : Term) (r : Rule) (h : Option Term) (u : Term) → Counted (two k a b) → Taken a r h u → Taken (two k a b) r h (two k u b)
unfolding weigh occurrences plain
in_left k a b r h u c m =
    within (λ p. two k p b) a u m (λ w. omega arith) (λ w. omega arith) (λ z q. rw q)
    (ap₂ ◌&&◌ (both_true (plain_two k) (plain a && plain b) c.plain).0 (ap₂ ◌&&◌ m.plain (part_right c).plain))

in_right : (k : Two) (a b : Term) (r : Rule) (h : Option Term) (u : Term) → Counted (two k a b) → Taken b r h u → Taken (two k a b) r h (two k a u)
unfolding weigh occurrences plain
in_right k a b r h u c m =
    within (two k a) b u m (λ w. omega arith) (λ w. omega arith) (λ z q. rw q)
    (ap₂ ◌&&◌ (both_true (plain_two k) (plain a && plain b) c.plain).0 (ap₂ ◌&&◌ (part_left c).plain m.plain))

in-abs : (x : Name) (e : Term) (r : Rule) (h : Option Term) (u : Term) → Taken e r h u → Taken (abs x e) r h (abs x u)
unfolding weigh occurrences plain
in-abs x e r h u m = within (abs x) e u m (λ w. omega arith) (λ w. omega arith) (λ z q. rw q) m.plain

in-first : (k : Both) (x y : Name) (e b : Term) (r : Rule) (h : Option Term) (u : Term) → Counted (both k x y e b) → Taken e r h u → Taken (both k x y e b) r h (both k x y u b)
unfolding weigh occurrences plain
in-first k x y e b r h u c m =
    within (λ p. both k x y p b) e u m (λ w. omega arith) (λ w. omega arith) (λ z q. rw q)
    (ap₂ ◌&&◌ (both_true (plain_both k) (plain e && plain b) c.plain).0 (ap₂ ◌&&◌ m.plain (part-second c).plain))

in-second : (k : Both) (x y : Name) (e b : Term) (r : Rule) (h : Option Term) (u : Term) → Counted (both k x y e b) → Taken b r h u → Taken (both k x y e b) r h (both k x y e u)
unfolding weigh occurrences plain
in-second k x y e b r h u c m =
    within (both k x y e) b u m (λ w. omega arith) (λ w. omega arith) (λ z q. rw q)
    (ap₂ ◌&&◌ (both_true (plain_both k) (plain e && plain b) c.plain).0 (ap₂ ◌&&◌ (part-first c).plain m.plain))

pub taken : (t : Term) → Counted t → Meets (Taken t) (step t)
unfolding step plain
taken (var x) c = tt
taken (leaf k) c = tt
taken (one abort e) c = tt
taken (one inl e) c = meets-part (Taken e) (Taken (one inl e)) 1 (one inl) (step e) (λ r h u m. in_one inl e r h u c m) (taken e (part-one c))
taken (one inr e) c = meets-part (Taken e) (Taken (one inr e)) 1 (one inr) (step e) (λ r h u m. in_one inr e r h u c m) (taken e (part-one c))
taken (one promote e) c = meets-part (Taken e) (Taken (one promote e)) 1 (one promote) (step e) (λ r h u m. in_one promote e r h u c m) (taken e (part-one c))
taken (one fst e) c = absurd (false≢true c.plain)
taken (one snd e) c = absurd (false≢true c.plain)
taken (one derelict e) c =
    meets-here (Taken (one derelict e)) (contract (one derelict e)) (in_part 1 (one derelict) (step e)) (made-derelict e c)
    (meets-part (Taken e) (Taken (one derelict e)) 1 (one derelict) (step e) (λ r h u m. in_one derelict e r h u c m) (taken e (part-one c)))
taken (two k a b) c =
    meets-here (Taken (two k a b)) (contract (two k a b)) (or_else (in_part 1 (λ p. two k p b) (step a)) (in_part (1 + size a) (two k a) (step b))) (made-two k a b c)
    (meets-else (Taken (two k a b)) (in_part 1 (λ p. two k p b) (step a)) (in_part (1 + size a) (two k a) (step b))
    (meets-part (Taken a) (Taken (two k a b)) 1 (λ p. two k p b) (step a) (λ r h u m. in_left k a b r h u c m) (taken a (part_left c)))
    (meets-part (Taken b) (Taken (two k a b)) (1 + size a) (two k a) (step b) (λ r h u m. in_right k a b r h u c m) (taken b (part_right c))))
taken (abs x e) c = meets-part (Taken e) (Taken (abs x e)) (1 + name_bytes x) (abs x) (step e) (λ r h u m. in-abs x e r h u m) (taken e (part-abs c))
taken (both let_a_pair x y e b) c =
    let o : ℕ = 1 + name_bytes x + name_bytes y in
    meets-here (Taken (both let_a_pair x y e b)) (contract (both let_a_pair x y e b))
    (or_else (in_part o (λ p. both let_a_pair x y p b) (step e)) (in_part (o + size e) (both let_a_pair x y e) (step b)))
    (made-let x y e b c)
    (meets-else (Taken (both let_a_pair x y e b)) (in_part o (λ p. both let_a_pair x y p b) (step e)) (in_part (o + size e) (both let_a_pair x y e) (step b))
    (meets-part (Taken e) (Taken (both let_a_pair x y e b)) o (λ p. both let_a_pair x y p b) (step e) (λ r h u m. in-first let_a_pair x y e b r h u c m) (taken e (part-first c)))
    (meets-part (Taken b) (Taken (both let_a_pair x y e b)) (o + size e) (both let_a_pair x y e) (step b) (λ r h u m. in-second let_a_pair x y e b r h u c m) (taken b (part-second c))))
taken (both copy x y e b) c = absurd (false≢true c.plain)
taken (branch x y e l r) c = absurd (false≢true c.plain)
