-- What was read, from the answer of `term_input`, `formula_input` or `name_input`: for whoever calls one of them.
-- Soundness (laws, Decoding.antt) then says which bytes these are.
-- Assumes nothing.
use Rattle.std.specs.Prelude.{ℕ, ◌≡◌, refl, Ok, Err}
use Rattle.std.proofs.Common.{arith}
use Rattle.rules.specs.declared.Refusal.{Refusal}
use Rattle.rules.specs.Refusal.{Outcome, mapped}

-- o is good, of something that counts n
pub record Accepts {A : Type 0} (count : A → ℕ) (o : Outcome A) (n : ℕ) : Type 0 where
  pub value : A
  pub is : o ≡ Ok value
  pub counts : count value ≡ n

module _ {A : Type 0} (count : A → ℕ) where
  pub accepts : (o : Outcome A) {n : ℕ} → mapped count o ≡ Ok n → Accepts count o n
  accepts (Ok x) e = record { value = x; is = refl; counts = cc }
  accepts (Err q) e = absurd (let z : ◌≡◌ {A = ℕ} 0 1 = cc in omega arith)

  pub refuses : (o : Outcome A) {q : Refusal} → mapped count o ≡ Err q → o ≡ Err q
  refuses (Ok x) e = absurd (let z : ◌≡◌ {A = ℕ} 0 1 = cc in omega arith)
  refuses (Err r) e = cc
