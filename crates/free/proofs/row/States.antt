-- The row after a guess is kept, after a binder is put before the others, and after one is left again: the names that it holds.
-- By which entries change. Assumes nothing.
use Prim.Native.Nat.{ℕ, zero, suc, ◌+◌, ◌-◌, ◌<◌, ◌≤◌}
use mathlib.Core.Path.{◌≡◌, sym, ◌∙◌}
use mathlib.Core.List.{List, ◌∷◌}
use native.Mathlib.Omega.{arith}
use lib.ListN.{length, get_or, set, take, length-set}
use lib.Seq.{get_or-set_same, get_or-set_other, get_or-take, length-take-le}
use Rattle.rules.specs.Basic.{Bytes}
use Rattle.rules.specs.Name.{Name}
use Rattle.term.specs.Place.{NameAt}
use Rattle.free.specs.Search.{at}
use Rattle.free.specs.Rows.{binders, Held, Passed, Opened}
use Rattle.free.specs.State.{State}

-- the first entries of a row as a row of its own
pub held-taken : {s : Bytes} {row : List ℕ} {n : ℕ} {l : List Name} → Held s row n l → Held s (take n row) (length (take n row)) l
held-taken {s} {row} {n} {l} h =
    let d : length (take n row) ≡ n = length-take-le n row h.room in
    record {
      many = h.many ∙ sym d;
      room = omega arith;
      each = λ i b. let e : get_or (take n row) i 0 ≡ get_or row i 0 = get_or-take n row i 0 (omega arith) in rw e (h.each i (omega arith));
    }

-- the names found stand before what changes
held-set : (s : Bytes) (row : List ℕ) (n : ℕ) (l : List Name) (g v : ℕ) → Held s row n l → n ≤ g → Held s (set row g v) n l
held-set s row n l g v h k =
    record {
      many = h.many;
      room = omega (arith, h.room, length-set row g v);
      each = λ i b. let e : get_or (set row g v) i 0 ≡ get_or row i 0 = get_or-set_other row g i v 0 (λ q. omega arith) in rw e (h.each i b);
    }

-- a guess stands behind the binders
pub noted : {s : Bytes} {row : List ℕ} {low n : ℕ} {xs l : List Name} → State s row low n xs l → (g v : ℕ) → binders ≤ g → n ≤ low → State s (set row g v) low n xs l
noted {s} {row} {low} {n} {xs} {l} w g v b k =
    record {
      passed = record {
        many = w.passed.many;
        each = λ i h. let e : get_or (set row g v) (low + i) 0 ≡ get_or row (low + i) 0 = get_or-set_other row g (low + i) v 0 (λ q. omega (arith, w.passed.many)) in rw e (w.passed.each i h);
      };
      found = held-set s row n l g v w.found (omega (arith, w.passed.many));
      ordered = w.ordered;
      short = w.short;
      long = omega (arith, w.long, length-set row g v);
    }

-- a binder of the name x at p is put before the others
pub pushed : {s : Bytes} {row : List ℕ} {low n : ℕ} {xs l : List Name} → State s row low n xs l → (x : Name) (p : ℕ) → NameAt s p x → n < low → State s (set row (low - 1) p) (low - 1) n (x ∷ xs) l
pushed {s} {row} {low} {n} {xs} {l} w x p a k =
    record {
      passed = record { many = omega (arith, w.passed.many); each = each };
      found = held-set s row n l (low - 1) p w.found (omega arith);
      ordered = w.ordered;
      short = w.short;
      long = omega (arith, w.long, length-set row (low - 1) p);
    }
  where
    each : (i : ℕ) → i < length (x ∷ xs) → NameAt s (get_or (set row (low - 1) p) (low - 1 + i) 0) (at (x ∷ xs) i)
    each zero h =
        let q : low - 1 + 0 ≡ low - 1 = omega arith in
        let e : get_or (set row (low - 1) p) (low - 1) 0 ≡ p = get_or-set_same row (low - 1) p 0 (omega (arith, w.passed.many, w.long)) in
        rw (q, e) a
    each (suc i) h =
        let q : low - 1 + suc i ≡ low + i = omega arith in
        let e : get_or (set row (low - 1) p) (low + i) 0 ≡ get_or row (low + i) 0 = get_or-set_other row (low - 1) (low + i) p 0 (λ z. omega arith) in
        rw (q, e) (w.passed.each i (omega arith))

-- the nearest binder is left
pub left_behind : {s : Bytes} {row : List ℕ} {low n : ℕ} {x : Name} {xs l : List Name} → State s row low n (x ∷ xs) l → (up : ℕ) → up ≡ low + 1 → State s row up n xs l
left_behind {s} {row} {low} {n} {x} {xs} {l} w up e =
    record {
      passed = record {
        many = omega (arith, w.passed.many);
        each = λ i h. let q : low + suc i ≡ up + i = omega arith in rw q at (w.passed.each (suc i) (omega arith));
      };
      found = w.found;
      ordered = w.ordered;
      short = w.short;
      long = w.long;
    }

-- the entries up to n alone have changed
pub beyond-kept : {s : Bytes} {row row' : List ℕ} {low n i p : ℕ} {xs : List Name} → Passed s row low xs → n < low → Opened row row' n i p → Passed s row' low xs
beyond-kept {low = low} w k o =
    record { many = w.many; each = λ j h. let e = o.beyond (low + j) (omega arith) in rw e (w.each j h) }
