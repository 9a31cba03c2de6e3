-- What the code's answer says of a reading: it tells all but the value read and the rest. A rule for each way in which readings are put together.
-- Assumes nothing.
use Rattle.rules.specs.declared.Reason.TheVariants.{BadName}
use Prim.Native.Nat.{ℕ, suc, ◌+◌, ◌<◌, ◌≤◌}
use native.Mathlib.Numerals.{add-one}
use mathlib.Core.Path.{◌≡◌, refl}
use mathlib.Core.Bool.{Bool, true, false}
use mathlib.Core.List.{[], ◌∷◌}
use lib.ListN.{length, get_or, drop, drop_of_length-le}
use lib.Seq.{drop-cons}
use Rattle.rules.specs.declared.Reason.{Reason}
use Rattle.rules.specs.Basic.{Bytes}
use Rattle.rules.specs.Reading.{Got, got, bad, Reader, and_then, times, many, byte, byte_for}
use Rattle.reader.specs.View.{view, past, fault}

-- The bytes that are left at a place.
module _ (s : Bytes) (at : ℕ) where
  pub rest_in : at < length s → drop at s ≡ get_or s at 0 ∷ drop (at + 1) s
  rest_in h = rw (add-one at) (drop-cons s at 0 h)

  pub rest_out : length s ≤ at → drop at s ≡ []
  rest_out h = drop_of_length-le s {i = at} h

-- A value made of the one read changes nothing.
pub view_made : {A B : Type 0} (g : Got ℕ A) (f : A → B) → view (and_then g (λ x u p r. got (f x) u p r)) ≡ view g
view_made (got x u p r) f = refl
view_made (bad n p) f = refl

-- One byte of a name.
module _ (ok : ℕ → Bool) (s : Bytes) (u at : ℕ) (inside : at < length s) where
  pub letter-on : ok (get_or s at 0) ≡ true → byte_for ok BadName u at (drop at s) ≡ got (get_or s at 0) u (at + 1) (drop (at + 1) s)
  unfolding byte_for byte
  letter-on e = rw (rest_in s at inside) (simp e)

  pub letter-off : ok (get_or s at 0) ≡ false → byte_for ok BadName u at (drop at s) ≡ bad BadName at
  unfolding byte_for byte
  letter-off e = rw (rest_in s at inside) (simp e)

-- The first of n items is read, or fails.
module _ {A : Type 0} (m : Reader ℕ A) (n u at : ℕ) (r : Bytes) where
  pub many-on : (k : ℕ) → n ≡ suc k → (x : A) (v p : ℕ) (q : Bytes) → m u at r ≡ got x v p q → view (many m n u at r) ≡ view (many m k v p q)
  unfolding many
  many-on k z x v p q e = rw (z, e) (view_made (many m k v p q) (λ xs. x ∷ xs))

  pub many-off : (k : ℕ) → n ≡ suc k → (i : Reason) (p : ℕ) → m u at r ≡ bad i p → view (many m n u at r) ≡ fault i p
  unfolding many
  many-off k z i p e = rw (z, e)

  pub many-none : n ≡ 0 → view (many m n u at r) ≡ past at u
  unfolding many
  many-none z = rw z

  pub times-on : (k : ℕ) → n ≡ suc k → (x : A) (v p : ℕ) (q : Bytes) → m u at r ≡ got x v p q → view (times m n u at r) ≡ view (times m k v p q)
  unfolding times
  times-on k z x v p q e = rw (z, e) (view_made (times m k v p q) (λ xs. (x, xs)))

  pub times-off : (k : ℕ) → n ≡ suc k → (i : Reason) (p : ℕ) → m u at r ≡ bad i p → view (times m n u at r) ≡ fault i p
  unfolding times
  times-off k z i p e = rw (z, e)

  pub times_none : n ≡ 0 → view (times m n u at r) ≡ past at u
  unfolding times
  times_none z = rw z
