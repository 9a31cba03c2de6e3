-- Straight, said by counts alone: a name at a binder stands at one, is used once, and is not free.
-- The two say the same; and a part of a straight term is straight.
-- Assumes nothing.
use Rattle.std.specs.Prelude.{◌≤◌, ◌≡◌, true, ◌&&◌, ◌||◌}
use Rattle.std.proofs.Common.{arith}
use Rattle.rules.specs.Name.{Name, same}
use Rattle.rules.specs.Term.{Term, one, two, abs, both, One, Two, Both}
use Rattle.rules.specs.Free.{occurrences}
use Rattle.rules.specs.Straight.{plain, plain_one, plain_two, plain_both}
use Rattle.laws.specs.free.Same.{both_true, same-itself}
use Rattle.laws.specs.straight.Weights.{weigh, just, uses_of, stands_of}
use Rattle.laws.specs.straight.FreeAfter.{shown-all, flag-or, free_all}

pub record Bound (z : Name) (t : Term) : Type 0 where
  pub placed : weigh (stands_of z) t ≡ 1
  pub used : weigh (uses_of z) t ≡ 1
  pub hidden : occurrences z t ≡ 0

pub record Counted (t : Term) : Type 0 where
  pub plain : plain t ≡ true
  pub bound : (z : Name) → 1 ≤ weigh (stands_of z) t → Bound z t

-- Parts of a counted term are counted.
pub part-one : {k : One} {e : Term} → Counted (one k e) → Counted e
unfolding weigh occurrences plain
part-one {k} {e} c =
    record {
      plain = (both_true (plain_one k) (plain e) c.plain).1;
      bound = λ z h. let b = c.bound z (omega arith) in record { placed = omega arith; used = omega arith; hidden = omega arith };
    }

bound-left : (z : Name) (k : Two) (a b : Term) → Bound z (two k a b) → 1 ≤ weigh (stands_of z) a → Bound z a
unfolding weigh occurrences
bound-left z k a b w h =
    let f = free_all z b (omega arith) in
    record { placed = omega arith; used = omega arith; hidden = omega arith }

bound-right : (z : Name) (k : Two) (a b : Term) → Bound z (two k a b) → 1 ≤ weigh (stands_of z) b → Bound z b
unfolding weigh occurrences
bound-right z k a b w h =
    let f = free_all z a (omega arith) in
    record { placed = omega arith; used = omega arith; hidden = omega arith }

pub part_left : {k : Two} {a b : Term} → Counted (two k a b) → Counted a
unfolding weigh plain
part_left {k} {a} {b} c =
    record {
      plain = (both_true (plain a) (plain b) (both_true (plain_two k) (plain a && plain b) c.plain).1).0;
      bound = λ z h. bound-left z k a b (c.bound z (omega arith)) h;
    }

pub part_right : {k : Two} {a b : Term} → Counted (two k a b) → Counted b
unfolding weigh plain
part_right {k} {a} {b} c =
    record {
      plain = (both_true (plain a) (plain b) (both_true (plain_two k) (plain a && plain b) c.plain).1).1;
      bound = λ z h. bound-right z k a b (c.bound z (omega arith)) h;
    }

bound-abs : (z x : Name) (e : Term) → Bound z (abs x e) → 1 ≤ weigh (stands_of z) e → Bound z e
unfolding weigh occurrences
bound-abs z x e w h =
    let f = shown-all (same z x) (occurrences z e) (omega arith) in
    record { placed = omega arith; used = omega arith; hidden = omega arith }

pub part-abs : {x : Name} {e : Term} → Counted (abs x e) → Counted e
unfolding weigh plain
part-abs {x} {e} c = record { plain = c.plain; bound = λ z h. bound-abs z x e (c.bound z (omega arith)) h }

bound-first : (z : Name) (k : Both) (x y : Name) (e b : Term) → Bound z (both k x y e b) → 1 ≤ weigh (stands_of z) e → Bound z e
unfolding weigh occurrences
bound-first z k x y e b w h =
    let f = free_all z b (omega arith) in
    let s = shown-all (same z x || same z y) (occurrences z b) (flag-or (same z x) (same z y) (omega arith) (omega arith)) in
    record { placed = omega arith; used = omega arith; hidden = omega arith }

bound-second : (z : Name) (k : Both) (x y : Name) (e b : Term) → Bound z (both k x y e b) → 1 ≤ weigh (stands_of z) b → Bound z b
unfolding weigh occurrences
bound-second z k x y e b w h =
    let f = free_all z e (omega arith) in
    let s = shown-all (same z x || same z y) (occurrences z b) (flag-or (same z x) (same z y) (omega arith) (omega arith)) in
    record { placed = omega arith; used = omega arith; hidden = omega arith }

pub part-first : {k : Both} {x y : Name} {e b : Term} → Counted (both k x y e b) → Counted e
unfolding weigh plain
part-first {k} {x} {y} {e} {b} c =
    record {
      plain = (both_true (plain e) (plain b) (both_true (plain_both k) (plain e && plain b) c.plain).1).0;
      bound = λ z h. bound-first z k x y e b (c.bound z (omega arith)) h;
    }

pub part-second : {k : Both} {x y : Name} {e b : Term} → Counted (both k x y e b) → Counted b
unfolding weigh plain
part-second {k} {x} {y} {e} {b} c =
    record {
      plain = (both_true (plain e) (plain b) (both_true (plain_both k) (plain e && plain b) c.plain).1).1;
      bound = λ z h. bound-second z k x y e b (c.bound z (omega arith)) h;
    }

-- The names at a binder are used in what it covers.
pub just_self : (x : Name) → just x x ≡ 1
just_self x = rw (same-itself x)

pub own-abs : (x : Name) (e : Term) → Counted (abs x e) → weigh (uses_of x) e ≡ 1
unfolding weigh
own-abs x e c = omega (arith, (c.bound x (omega (arith, just_self x))).used)

pub own_first : (k : Both) (x y : Name) (e b : Term) → Counted (both k x y e b) → weigh (uses_of x) b ≡ 1
unfolding weigh occurrences
own_first k x y e b c =
    let j = just_self x in
    let w = c.bound x (omega arith) in
    omega (arith, free_all x e (omega arith))

pub own-second : (k : Both) (x y : Name) (e b : Term) → Counted (both k x y e b) → weigh (uses_of y) b ≡ 1
unfolding weigh occurrences
own-second k x y e b c =
    let j = just_self y in
    let w = c.bound y (omega arith) in
    omega (arith, free_all y e (omega arith))
