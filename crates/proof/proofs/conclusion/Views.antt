-- What the code's answer says of a reading: it tells all but the value read and the rest. A rule for each way in which readings are put together.
-- Assumes nothing.
use Prim.Native.Nat.{ℕ, suc, ◌≤◌}
use native.Mathlib.Omega.{arith}
use mathlib.Core.Path.{◌≡◌, refl, ap, ◌∙◌}
use mathlib.Core.List.{[], ◌∷◌}
use lib.ListN.{length, drop}
use Rattle.reader.specs.View.{fault}
use Rattle.std.specs.Prelude.{Ok}
use Rattle.rules.specs.declared.Fault.{Fault}
use Rattle.rules.specs.declared.Reason.{Reason}
use Rattle.rules.specs.Basic.{Bytes}
use Rattle.rules.specs.Reading.{Got, got, bad, Reader, Met, and_then, many}
use Rattle.laws.specs.reading.Steady.{Steady, steady-got}
use Rattle.proof.specs.Seen.{Reached, met_by, reached, seen, found}

-- A value made of the one read changes nothing.
pub seen-made : {A B : Type 0} (g : Got Met A) (f : A → B) → seen (and_then g (λ x u p r. got (f x) u p r)) ≡ seen g
seen-made (got x u p r) f = refl
seen-made (bad n p) f = refl

module _ {A : Type 0} where
  pub seen-bad : (g : Got Met A) {n : Reason} {p : ℕ} → seen g ≡ fault n p → g ≡ bad n p
  seen-bad (got x u p r) e = absurd (let z : ◌≡◌ {A = ℕ} 0 1 = cc in omega arith)
  seen-bad (bad n' p') {n} {p} e =
      let z : ◌≡◌ {A = Fault} (record { reason = n'; place = p' }) (record { reason = n; place = p }) = cc in
      ap (λ (f : Fault). bad f.reason f.place) z

  seen-got : (g : Got Met A) {q : Reached} → seen g ≡ Ok q → (x : A) × (r : Bytes) × (g ≡ got x (met_by q) q.next r)
  seen-got (got x u p r) {q} e = let z : ◌≡◌ {A = Reached} (reached u p) q = cc in (x, r, ap (λ (q' : Reached). got x (met_by q') q'.next r) z)
  seen-got (bad n p) e = absurd (let z : ◌≡◌ {A = ℕ} 0 1 = cc in omega arith)

-- A reading of s at a place that came to q: it leaves s from q on.
pub record Came {A : Type 0} (s : Bytes) (g : Got Met A) (q : Reached) : Type 0 where
  pub value : A
  pub is : g ≡ got value (met_by q) q.next (drop q.next s)
  pub inside : q.next ≤ length s

pub came : {A : Type 0} (m : Reader Met A) → Steady m → (s : Bytes) (from : Reached) → from.next ≤ length s → {q : Reached} → seen (found m s from) ≡ Ok q → Came s (found m s from) q
came m k s from h {q} e =
    let w = seen-got (found m s from) e in
    let i = steady-got m k s (met_by from) from.next h w.2 in
    record { value = w.0; is = w.2 ∙ ap (λ r. got w.0 (met_by q) q.next r) i.rest; inside = i.within }

-- The first of n items is read, or fails.
module _ {A : Type 0} (m : Reader Met A) (s : Bytes) (q : Reached) (n : ℕ) where
  pub many-none : n ≡ 0 → seen (found (many m n) s q) ≡ Ok q
  unfolding many
  many-none z = rw z

  pub many-one : n ≡ 1 → seen (found (many m n) s q) ≡ seen (found m s q)
  unfolding many
  many-one z = rw z (seen-made (found m s q) (λ x. x ∷ []))

  pub many-off : (k : ℕ) → n ≡ suc k → (i : Reason) (p : ℕ) → found m s q ≡ bad i p → seen (found (many m n) s q) ≡ fault i p
  unfolding many
  many-off k z i p e = rw (z, e)

  pub many-on : (k : ℕ) → n ≡ suc k → {q' : Reached} → Came s (found m s q) q' → seen (found (many m n) s q) ≡ seen (found (many m k) s q')
  unfolding many
  many-on k z {q'} c = rw (z, c.is) (seen-made (found (many m k) s q') (λ xs. c.value ∷ xs))
