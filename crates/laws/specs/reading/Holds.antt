-- What holds of a reading that came to an end: a rule for each way in which readings are put together.
-- Assumes nothing.
use Rattle.std.specs.Prelude.{ℕ, ◌≡◌, refl, Bool, true, false, [], ◌∷◌, if◌then◌else◌}
use Rattle.rules.specs.Basic.{Bytes}
use Rattle.rules.specs.Reading.{Got, got, bad, Reader, and_then, byte, too_many}

-- P of what was read, of the count, the next position and the rest.
abbrev pub Holds : {S A : Type 0} → (A → S → ℕ → Bytes → Type 0) → Got S A → Type 0
Holds P (got x u p r) = P x u p r
Holds P (bad n p) = Unit {0}

module _ {S A B : Type 0} (P : A → S → ℕ → Bytes → Type 0) (Q : B → S → ℕ → Bytes → Type 0) where
  pub and-then : (g : Got S A) (k : A → Reader S B) → Holds P g → ((x : A) (u : S) (p : ℕ) (r : Bytes) → P x u p r → Holds Q (k x u p r)) → Holds Q (and_then g k)
  and-then (got x u p r) k h f = f x u p r h
  and-then (bad n p) k h f = tt

module _ {S A : Type 0} (P : A → S → ℕ → Bytes → Type 0) where
  pub chosen : (b : Bool) (x y : Got S A) → (b ≡ true → Holds P x) → (b ≡ false → Holds P y) → Holds P (if b then x else y)
  chosen true x y f g = f refl
  chosen false x y f g = g refl

  -- of a reading whose result is known
  pub told : {x : A} {u : S} {p : ℕ} {r : Bytes} (g : Got S A) → Holds P g → g ≡ got x u p r → P x u p r
  told g h e = rw e at h

  pub weaker : (Q : A → S → ℕ → Bytes → Type 0) (g : Got S A) → ((x : A) (u : S) (p : ℕ) (r : Bytes) → P x u p r → Q x u p r) → Holds P g → Holds Q g
  weaker Q (got x u p r) f h = f x u p r h
  weaker Q (bad n p) f h = tt

-- Where no node may follow, nothing is read.
pub none_read : {A : Type 0} (P : A → ℕ → ℕ → Bytes → Type 0) (u at : ℕ) (r : Bytes) → Holds P (too_many u at r)
unfolding too_many byte
none_read P u at [] = tt
none_read P u at (b ∷ r) = tt
