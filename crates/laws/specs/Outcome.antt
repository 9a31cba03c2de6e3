-- One outcome after another: the whole is good where each is, and where it is refused, one of them is. By cases of the first.
-- Assumes nothing.
use Rattle.std.specs.Prelude.{ℕ, ◌≡◌, refl, true, Ok, Err}
use Rattle.std.proofs.Common.{ap, arith}
use Rattle.rules.specs.declared.Refusal.{Refusal}
use Rattle.rules.specs.Refusal.{Outcome, mapped, spares_scratch, ◌>>=◌}

pub good-first : {A B : Type 0} (o : Outcome A) (k : A → Outcome B) (b : B) → ◌>>=◌ o k ≡ Ok b → (a : A) × (o ≡ Ok a) × (k a ≡ Ok b)
good-first (Ok a) k b e = (a, refl, e)
good-first (Err q) k b e = absurd (let z : ◌≡◌ {A = ℕ} 0 1 = cc in omega arith)

pub good-mapped : {A B : Type 0} (f : A → B) (o : Outcome A) (b : B) → mapped f o ≡ Ok b → (a : A) × (o ≡ Ok a) × (f a ≡ b)
good-mapped f (Ok a) b e = (a, refl, cc)
good-mapped f (Err q) b e = absurd (let z : ◌≡◌ {A = ℕ} 0 1 = cc in omega arith)

pub same_then : {A B : Type 0} (o : Outcome A) (k l : A → Outcome B) → ((a : A) → o ≡ Ok a → k a ≡ l a) → ◌>>=◌ o k ≡ ◌>>=◌ o l
same_then (Ok a) k l h = h a refl
same_then (Err q) k l h = refl

-- every refusal that it may be spares the scratch
abbrev pub Spares : {A : Type 0} → Outcome A → Type 0
Spares o = (q : Refusal) → o ≡ Err q → spares_scratch q.reason ≡ true

pub spares_then : {A B : Type 0} (o : Outcome A) (k : A → Outcome B) → Spares o → ((a : A) → Spares (k a)) → Spares (◌>>=◌ o k)
spares_then (Ok a) k h j q e = j a q e
spares_then (Err r) k h j q e = h q (ap Err cc)
